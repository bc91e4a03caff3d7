-- `rescale::part` meets its contract: the first i levels are replaced.
use Prim.Native.Nat.{◌≤◌}
use native.Mathlib.Omega.{arith}
use lib.ListN.{length}
use lib.IntN.{pos}
use Rattle.std.proofs.lemmas.Int.{to_z-of_z}
use Rattle.integers.specs.Sum.{at}
use Rattle.integers.proofs.Replace.{next_is, replaced_more}
use Rattle.rescale.specs.Inner.Step.{stepped}
use Rattle.rescale.proofs.Steps.{stepped_fits}
use Rattle.rescale.proofs.part.Goals as goal

pub loop-i-preserved : goal.loop-i-preserved
loop-i-preserved c =
    let l = c.loop-i in
    let a = c.args in
    let f = stepped (at a.times.now 0) a.half a.down in
    let inside : l.i ≤ length a.block.now = omega arith in
    let factor = c.requires.by_index l.i (omega arith) in
    let level = next_is f a.block.now l.block l.i inside l.invariant (pos 0) in
    let fits = stepped_fits (at a.times.now 0) a.half a.down (at a.block.now l.i) in
    replaced_more f a.block.now l.block l.i inside l.invariant (pos 0) _ (omega arith) (grind (arith, to_z-of_z))
