-- `order::spread` meets its contract: scan place by scan place, each put down by rows.
use Rattle.order.proofs.Spreading.{Spread}
use Rattle.order.proofs.spread.Given as goal

abbrev pub invariant-loop-n : goal.invariant-loop-n
invariant-loop-n l = Spread l.scan.w l.scan.h l.n l.rows l.ms
