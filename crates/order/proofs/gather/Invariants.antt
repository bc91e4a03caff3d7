-- `order::gather` meets its contract: scan place by scan place, each looked up by rows.
use Rattle.std.proofs.Common.{get_or}
use Rattle.integers.proofs.Fill.{Filled}
use Rattle.weights.specs.Inner.Places.{in_scan}
use Rattle.order.proofs.gather.Given as goal

abbrev pub invariant-loop-n : goal.invariant-loop-n
invariant-loop-n l = Filled 0 l.out (λ k. get_or (in_scan l.scan.w l.scan.h l.rows) k 0) l.n
