-- `finished::costs_of` meets its contract: what is added, with the costs that are left after the level before, is the
-- costs of all n levels.
use mathlib.Core.Path.{◌≡◌, sym, ap, ◌∙◌}
use mathlib.Core.Logic.{⊎_elim, inl, inr}
use Prim.Native.Nat.{ℕ, ◌*◌}
use native.Mathlib.Omega.{arith}
use Rattle.price.specs.Rule.{is_zero, cost}
use Rattle.weights.specs.Inner.Prices.{rule_by}
use Rattle.finished.specs.Inner.Finished.{held}
use Rattle.finished.proofs.Holding.{held_again, held_next}
use Rattle.finished.proofs.Places.{costs_next, costs_done}
use Rattle.finished.proofs.costs_of.Goals as goal

pub loop-level-preserved : goal.loop-level-preserved
loop-level-preserved c =
    let g = c.args.weights.scale in
    let r = rule_by c.args.weights.prices g in
    let l = c.loop-level in
    let steps = c.in-Some.ensures.steps in
    let behind = c.next.new.self in
    let a = c.in-Some.level.now in
    let place : c.from.result * c.from-q.result ≡ c.in-Some.c.now * g.q = rw (c.from.ensures, c.from-q.ensures) in
    let e = costs_next r g (is_zero l.prev) _ _ behind.a.rest.now behind.b.rest.now a c.in-Some.c.now steps.0 steps.1 in
    let x : c.cost_at.result ≡ cost r (is_zero l.prev) (c.in-Some.c.now * g.q) a =
    c.cost_at.ensures.0
    ∙ ap (λ (L : ℕ). cost r (is_zero l.prev) L c.from-a.result) place
    ∙ ap (λ (n : ℕ). cost r (is_zero l.prev) (c.in-Some.c.now * g.q) n) c.from-a.ensures in
    let next = held_next l.total _ _ _ _ _ e x c.add-total.ensures.0 ∙ l.invariant.1 in
    (c.add-total.ensures.1, rw c.from-a.ensures next)

pub returns : goal.returns
returns c =
    let g = c.args.weights.scale in
    let l = c.loop-level in
    let left = l.level-iterator in
    let done = costs_done (rule_by c.args.weights.prices g) g (is_zero l.prev) left.a.rest.now left.b.rest.now
    (⊎_elim (λ u. inl u.1.0) (λ u. inr u.1.0) c.in-None.ensures.steps) in (
      sym (held_again l.total l.invariant.0) ∙ ap held (omega (arith, done)) ∙ l.invariant.1,
      l.invariant.0,
    )
