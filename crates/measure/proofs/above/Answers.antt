-- `measure::above` meets its contract: a difference above 0 is its magnitude.
use Rattle.std.proofs.Common.{arith}
use Rattle.std.proofs.lemmas.Int.{to_z-of_z}
use Rattle.measure.proofs.Differences.{difference_is, nothing_above}
use Rattle.measure.proofs.above.Goals as goal

pub returns-then-b-a : goal.returns-then-b-a
returns-then-b-a c = grind (arith, to_z-of_z, difference_is)

pub returns-else-b-a : goal.returns-else-b-a
returns-else-b-a c = grind (arith, to_z-of_z, nothing_above)
