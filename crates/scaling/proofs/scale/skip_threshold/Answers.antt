-- `scaling::scale::skip_threshold` meets its contract.
use native.Mathlib.Omega.{arith}
use Rattle.price.specs.Level.{shift_of, threshold}
use Rattle.scaling.proofs.Scaling.{bit, shift_range, threshold_range}
use Rattle.scaling.proofs.scale.skip_threshold.Goals.{then-intra_slice, else-intra_slice}
use Rattle.scaling.proofs.scale.skip_threshold.Goals as goal

pub returns : goal.returns
unfolding threshold shift_of
returns c =
    let u = shift_range c.args.side.log2 c.args.qp.qp c.args.side.in_range.0 c.args.side.in_range.1 c.args.qp.in_range in
    elim c.if-intra_slice.branch [
      | then-intra_slice w ↦
          let t = threshold_range (shift_of c.args.side.log2 c.args.qp.qp) (omega arith) (omega arith) _ 201
          (bit _ (omega arith)) (omega arith) in
          rw (w.if-intra_slice.true, w.share-is) (t.0, t.1, omega (arith, t.3))
      | else-intra_slice w ↦
          let t = threshold_range (shift_of c.args.side.log2 c.args.qp.qp) (omega arith) (omega arith) _ 153
          (bit _ (omega arith)) (omega arith) in
          rw (w.if-intra_slice.false, w.share-is) (t.0, t.1, omega (arith, t.3))
    ]
