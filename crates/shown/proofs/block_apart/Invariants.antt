-- `shown::block_apart` meets its contract: the largest of the first i differences.
use Rattle.std.proofs.Common.{◌≡◌}
use Rattle.integers.specs.Sum.{sum, on_max}
use Rattle.shown.specs.Shown.{apart_at}
use Rattle.shown.proofs.block_apart.Given as goal

abbrev pub invariant-loop-i : goal.invariant-loop-i
invariant-loop-i l = l.top ≡ sum on_max l.i (apart_at l.block.size l.block.number l.seen l.view)
