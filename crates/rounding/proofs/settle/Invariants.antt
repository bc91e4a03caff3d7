-- `rounding::settle` meets its contract: the first i sums are rounded.
use lib.IntN.{pos}
use Rattle.integers.specs.Sum.{at}
use Rattle.integers.proofs.Fill.{Filled}
use Rattle.integers.specs.Floor.{rounded}
use Rattle.rounding.proofs.settle.Given as goal

abbrev pub invariant-loop-i : goal.invariant-loop-i
invariant-loop-i l = Filled (pos 0) l.block (λ j. rounded (at l.sums j) l.shift) l.i
