-- `finished::count_of` meets its contract: what is counted and what is left to count.
use mathlib.Core.Path.{◌≡◌, ap}
use Prim.Native.Nat.{◌+◌}
use native.Mathlib.Omega.{arith}
use lib.ListN.{get_or, drop_of_length-le}
use Rattle.price.specs.Price.{nonzeros}
use Rattle.price.proofs.Counting.{ones, one_more, none_more, ones_few, nonzeros_next}
use Rattle.finished.proofs.count_of.Goals.{then-level-ne0, else-level-ne0}
use Rattle.finished.proofs.count_of.Goals as goal

pub loop-level-preserved : goal.loop-level-preserved
loop-level-preserved c =
    let l = c.loop-level in
    let ls = c.args.levels.now in
    let a = get_or ls l.level-index 0 in
    let n : c.if-level-ne0.count ≡ l.count + ones a = elim c.if-level-ne0.branch [
      | then-level-ne0 w ↦ omega (arith, w.count-is, one_more a w.if-level-ne0.true)
      | else-level-ne0 w ↦ omega (arith, w.count-is, none_more a w.if-level-ne0.false)
    ] in (
      omega (arith, n, ones_few a, l.invariant.0),
      omega (arith, n, l.invariant.1, nonzeros_next ls l.level-index c.loop-level-test.true),
    )

pub returns : goal.returns
unfolding nonzeros
returns c =
    let l = c.loop-level in
    let e = ap nonzeros (drop_of_length-le c.args.levels.now c.loop-level-test.false) in
    (omega (arith, e, l.invariant.1, c.from.ensures), omega (arith, c.from.ensures))
