-- `parts::clip` meets its contract: it is the library's clamp.
use Rattle.std.proofs.Common.{arith}
use Rattle.std.proofs.lemmas.Int.{to_z-of_z}
use Rattle.integers.proofs.Clip.{clipped_fits}
use Rattle.parts.proofs.Clamped.{clamped}
use Rattle.parts.proofs.clip.Goals as goal

pub returns : goal.returns
returns c = grind (arith, to_z-of_z, clipped_fits, clamped)
