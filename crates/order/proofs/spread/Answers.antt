-- `order::spread` meets its contract: scan place by scan place, each put down by rows.
use mathlib.Core.Path.{◌≡◌, ap, ◌∙◌}
use Prim.Native.Nat.{ℕ}
use native.Mathlib.Omega.{arith}
use lib.ListN.{get_or, set}
use Rattle.scan.specs.Scan.{scan_at}
use Rattle.order.proofs.Spreading.{spread_more}
use Rattle.order.proofs.spread.Goals as goal

pub loop-n-preserved : goal.loop-n-preserved
loop-n-preserved c =
    let a = c.args in
    let l = c.loop-n in
    let v = get_or a.ms.now l.n 0 in
    let after : c.put.new.values ≡ set l.rows (scan_at a.scan.w a.scan.h l.n) v =
    c.put.ensures
    ∙ ap (λ (k : ℕ). set l.rows k v) (c.block_place.ensures.0 ∙ ap (scan_at a.scan.w a.scan.h) c.scan_place.ensures.0) in
    rw after
    (spread_more a.scan.w a.scan.h a.scan.held.now a.scan.scanned l.rows a.ms.now (omega arith) l.n (omega arith)
    l.invariant)
