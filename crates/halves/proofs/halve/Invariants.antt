-- `halves::halve` meets its contract: the first i halves are stored.
use lib.IntN.{pos}
use Rattle.integers.specs.Sum.{at}
use Rattle.integers.proofs.Fill.{Filled}
use Rattle.halves.specs.Inner.Halves.{half}
use Rattle.halves.proofs.halve.Given as goal

abbrev pub invariant-loop-i : goal.invariant-loop-i
invariant-loop-i l = Filled (pos 0) l.h (λ j. half (at l.x j)) l.i
