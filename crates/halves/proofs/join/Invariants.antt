-- `halves::join` meets its contract: the first i sums are stored.
use lib.IntN.{pos, ◌+ℤ◌}
use Rattle.integers.specs.Sum.{at}
use Rattle.integers.proofs.Fill.{Filled}
use Rattle.halves.specs.Inner.Halves.{half}
use Rattle.halves.proofs.join.Given as goal

abbrev pub invariant-loop-i : goal.invariant-loop-i
invariant-loop-i l = Filled (pos 0) l.row (λ j. at l.p j +ℤ half (at l.q j)) l.i
