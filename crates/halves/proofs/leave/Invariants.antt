-- `halves::leave` meets its contract: the first i rests are stored.
use lib.IntN.{pos}
use Rattle.integers.specs.Sum.{at}
use Rattle.integers.proofs.Fill.{Filled}
use Rattle.halves.specs.Inner.Halves.{over}
use Rattle.halves.proofs.leave.Given as goal

abbrev pub invariant-loop-i : goal.invariant-loop-i
invariant-loop-i l = Filled (pos 0) l.v (λ j. over (at l.x j)) l.i
