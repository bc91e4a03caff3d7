-- `parts::join` meets its contract: what the machine joins is the sum, rounded and clipped.
use Rattle.std.proofs.Common.{arith}
use Rattle.std.proofs.lemmas.Int.{to_z-of_z}
use lib.IntN.{pos}
use Rattle.integers.specs.Sum.{at}
use Rattle.integers.specs.Floor.{rounded}
use Rattle.integers.specs.Clip.{clipped}
use Rattle.integers.proofs.Fill.{filled_more}
use Rattle.integers.proofs.Clip.{clipped_fits}
use Rattle.parts.specs.Inner.Parts.{whole}
use Rattle.parts.proofs.Steps.{joined_made}
use Rattle.parts.proofs.join.Goals as goal

pub loop-i-preserved : goal.loop-i-preserved
loop-i-preserved c =
    let l = c.loop-i in
    let p = c.args.p.now in
    let q = c.args.q.now in
    let b = c.requires.by_index l.i (omega arith) in
    let made = joined_made (at p l.i) (at q l.i) b.0 b.1 in
    filled_more (pos 0) l.block (λ j. clipped (rounded (whole (at p j) (at q j)) 17)) l.i _ (omega arith)
    (grind (arith, to_z-of_z, clipped_fits)) l.invariant
