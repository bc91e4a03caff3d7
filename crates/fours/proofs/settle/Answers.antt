-- `fours::settle` meets its contract: the rounded sum, clamped.
use Rattle.std.proofs.Common.{arith}
use Rattle.std.proofs.lemmas.Int.{to_z-of_z}
use Rattle.integers.proofs.Clip.{clipped_fits}
use Rattle.parts.proofs.Clamped.{clamped}
use Rattle.fours.proofs.Settled.{raised, shifted}
use Rattle.fours.proofs.settle.Goals as goal

pub returns : goal.returns
returns c =
    let z = c.args.z in
    let f = raised z c.requires in
    let g = shifted z c.requires in
    grind (arith, to_z-of_z, clipped_fits, clamped)
