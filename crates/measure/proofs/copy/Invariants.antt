-- Before place i the first i stand.
use Rattle.std.proofs.Common.{get_or}
use lib.IntN.{pos}
use Rattle.integers.proofs.Fill.{Filled}
use Rattle.measure.proofs.copy.Given as goal

abbrev pub invariant-loop-i : goal.invariant-loop-i
invariant-loop-i l = Filled (pos 0) l.to (λ j. get_or l.from j (pos 0)) l.i
