-- `finished::uncoded_of` meets its contract: what is added, with what is left of D, is D.
use mathlib.Core.Path.{◌≡◌, sym, ap, ◌∙◌}
use Prim.Native.Nat.{ℕ, ◌*◌}
use native.Mathlib.Omega.{arith}
use lib.ListN.{get_or}
use Rattle.integers.specs.Sum.{on_ℕ}
use Rattle.integers.proofs.Over.{over_from, over_behind}
use Rattle.price.specs.Level.{distortion}
use Rattle.finished.specs.Inner.Finished.{held, uncoded_at}
use Rattle.finished.proofs.Holding.{held_again, held_next}
use Rattle.finished.proofs.uncoded_of.Goals as goal

pub loop-c-preserved : goal.loop-c-preserved
loop-c-preserved c =
    let l = c.loop-c in
    let g = c.args.scale in
    let cs = c.args.cs.now in
    let place : c.from.result * c.from-q.result ≡ get_or cs l.c-index 0 * g.q =
    rw (c.from.ensures, c.from-q.ensures) in (
      c.add-total.ensures.1,
      held_next l.total _ _ _ _ _ (over_from on_ℕ (uncoded_at g) cs l.c-index 0 c.loop-c-test.true)
          (c.squared_below.ensures.is ∙ ap (λ (L : ℕ). distortion g.shift g.error L 0) place) c.add-total.ensures.0
          ∙ l.invariant.1,
    )

pub returns : goal.returns
returns c =
    let l = c.loop-c in
    let e = over_behind on_ℕ (uncoded_at c.args.scale) c.args.cs.now l.c-index c.loop-c-test.false in (
      sym (held_again l.total l.invariant.0) ∙ ap held (omega (arith, e)) ∙ l.invariant.1,
      l.invariant.0,
    )
