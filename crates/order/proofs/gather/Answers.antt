-- `order::gather` meets its contract: scan place by scan place, each looked up by rows.
use mathlib.Core.Path.{◌≡◌, sym, ap, ◌∙◌}
use Prim.Native.Nat.{ℕ, ◌*◌, ◌<◌}
use native.Mathlib.Omega.{arith}
use lib.ListN.{get_or}
use Rattle.integers.proofs.Fill.{filled_more, filled_all}
use Rattle.scan.specs.Scan.{scan_at}
use Rattle.weights.specs.Inner.Places.{in_scan}
use Rattle.weights.proofs.Places.{scan_count, scan_at_lem}
use Rattle.order.proofs.gather.Goals as goal

pub loop-n-preserved : goal.loop-n-preserved
loop-n-preserved c =
    let a = c.args in
    let l = c.loop-n in
    let inside : l.n < a.scan.w * a.scan.h = omega arith in
    -- what is read is what stands at the place
    let read : c.value_at.result ≡ get_or (in_scan a.scan.w a.scan.h a.rows.now) l.n 0 =
    c.value_at.ensures 0
    ∙ ap (λ (k : ℕ). get_or a.rows.now k 0) (c.block_place.ensures.0 ∙ ap (scan_at a.scan.w a.scan.h) c.scan_place.ensures.0)
    ∙ sym (scan_at_lem a.scan.w a.scan.h a.rows.now a.scan.held.now a.scan.scanned l.n inside) in
    filled_more 0 l.out (λ k. get_or (in_scan a.scan.w a.scan.h a.rows.now) k 0) l.n _ (omega arith) read l.invariant

pub returns : goal.returns
returns c =
    let a = c.args in
    let l = c.loop-n in
    filled_all 0 l.out (in_scan a.scan.w a.scan.h a.rows.now) l.n
    (omega (arith, scan_count a.scan.w a.scan.h a.rows.now a.scan.held.now a.scan.scanned)) (omega arith) l.invariant
