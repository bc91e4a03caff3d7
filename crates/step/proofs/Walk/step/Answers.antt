-- 0 is kept, or the offer is taken, and then the cut behind it is the cheapest so far or is not.
use mathlib.Core.Path.{refl, sym, subst, ◌∙◌}
use Prim.Native.Nat.{ℕ, ◌≤◌}
use native.Mathlib.Omega.{arith}
use Rattle.weights.specs.Inner.Prices.{rule_by}
use Rattle.step.specs.Inner.Totals.{totals_of}
use Rattle.step.proofs.Weighing.{stays, goes, moves, goes_on_lem}
use Rattle.step.proofs.Walk.step.Goals as goal

pub returns-then-d-zero : goal.returns-then-d-zero
returns-then-d-zero c =
    let w = totals_of c.args.self in
    let d = c.squared_below-d.ensures.is in
    stays _ _ c.args.n w _ _ c.offer-offer.ensures _ _ _ _ d c.zero_at-zero.ensures.0 c.head_at.ensures.0 refl
    c.requires.some (omega (arith, c.if-d-zero.true)) (subst (λ (x : ℕ). x ≤ w.base) (sym d) c.requires.left)

pub returns-then-ended-self : goal.returns-then-ended-self
unfolding rule_by
returns-then-ended-self c =
    let w = totals_of c.args.self in
    moves (rule_by c.args.weights.prices c.args.weights.scale) c.args.n w _ _ _ c.offer-offer.ensures.some
    c.if-ended-self.true
    ∙ goes _ _ _ w _ _ c.offer-offer.ensures _ _ _ _ c.squared_below-d.ensures.is c.zero_at-zero.ensures.0
    c.head_at.ensures.0 refl c.requires.some c.if-d-zero.false

pub returns-else-ended-self : goal.returns-else-ended-self
unfolding rule_by
returns-else-ended-self c =
    let w = totals_of c.args.self in
    goes_on_lem (rule_by c.args.weights.prices c.args.weights.scale) c.args.n w _ _ _ c.offer-offer.ensures.some
    c.if-ended-self.false
    ∙ goes _ _ _ w _ _ c.offer-offer.ensures _ _ _ _ c.squared_below-d.ensures.is c.zero_at-zero.ensures.0
    c.head_at.ensures.0 refl c.requires.some c.if-d-zero.false
