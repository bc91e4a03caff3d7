-- `butterfly::fold` meets its contract: the first k sums and differences are stored.
use lib.IntN.{pos}
use Rattle.integers.proofs.Fill.{Filled}
use Rattle.butterfly.specs.Inner.Lines.{sum_of, difference_of}
use Rattle.butterfly.proofs.fold.Given as goal

abbrev pub invariant-loop-k : goal.invariant-loop-k
invariant-loop-k l = Filled (pos 0) l.e (sum_of l.x) l.k × Filled (pos 0) l.o (difference_of l.x) l.k
