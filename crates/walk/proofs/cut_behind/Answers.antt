-- The places from the cut on are met once each.
use mathlib.Core.Path.{◌≡◌, ap, ◌∙◌}
use Prim.Native.Nat.{ℕ}
use native.Mathlib.Omega.{arith}
use lib.ListN.{set}
use Rattle.scan.specs.Scan.{scan_at}
use Rattle.walk.proofs.Cutting.{cut_more, cut_done}
use Rattle.walk.proofs.cut_behind.Goals as goal

pub loop-n-preserved : goal.loop-n-preserved
loop-n-preserved c =
    let l = c.loop-n in
    let s = c.args.scan in
    let put : _ ≡ set l.levels (scan_at s.w s.h l.n) 0 =
    c.put.ensures
    ∙ ap (λ (k : ℕ). set l.levels k 0) (c.block_place.ensures.0 ∙ ap (scan_at s.w s.h) c.scan_place.ensures.0)
    in (
      omega arith,
      rw put (cut_more s.w s.h c.args.cut _ s.scanned c.args.levels.now l.n l.levels l.auto.n
          (omega (arith, c.requires.1)) l.invariant.1),
    )

pub returns : goal.returns
returns c =
    let l = c.loop-n in
    let s = c.args.scan in
    cut_done s.w s.h c.args.cut _ s.scanned _ l.n c.args.end l.levels
    (omega (arith, c.loop-n-test.false, l.invariant.0)) l.auto.n l.invariant.1
