-- While something is left there is a place for it, and where nothing is left nothing is kept.
use mathlib.Core.Path.{◌∙◌}
use native.Mathlib.Omega.{arith}
use Rattle.passes.proofs.Ending.{kept_met, all_left, inside, one_less, as_many, ends}
use Rattle.passes.proofs.last_place.Goals as goal
use Rattle.passes.proofs.last_place.Goals.{then-value_at-ne0, else-value_at-ne0}

pub loop-left-init : goal.loop-left-init
loop-left-init c = (omega arith, all_left c.args.kept)

pub scan_place-requires : goal.scan_place-requires
scan_place-requires c =
    omega (arith, inside c.args.kept _ _ c.loop-left.invariant.1 c.loop-left-test.true, c.args.kept.scan.scanned.few)

pub block_place-place-requires : goal.block_place-place-requires
block_place-place-requires c =
    omega (arith, inside c.args.kept _ _ c.loop-left.invariant.1 c.loop-left-test.true, c.scan_place.ensures.0)

pub loop-left-smaller : goal.loop-left-smaller
loop-left-smaller c = omega (arith, inside c.args.kept _ _ c.loop-left.invariant.1 c.loop-left-test.true)

pub loop-left-preserved : goal.loop-left-preserved
loop-left-preserved c =
    let l = c.loop-left in
    let more = c.loop-left-test.true in
    let is = kept_met c.args.kept c.scan_place.ensures.0 c.block_place-place.ensures.0 c.value_at.ensures in (
      omega (arith, inside c.args.kept _ _ l.invariant.1 more),
      elim c.if-value_at-ne0.branch [
        | then-value_at-ne0 w ↦ w.left-is ∙ one_less c.args.kept _ _ l.invariant.1 more _ is w.if-value_at-ne0.true
        | else-value_at-ne0 w ↦ w.left-is ∙ as_many c.args.kept _ _ l.invariant.1 more _ is w.if-value_at-ne0.false
      ],
    )

pub returns : goal.returns
returns c =
    ends c.args.kept _ _ c.loop-left.invariant.1 c.loop-left.invariant.0 (omega (arith, c.loop-left-test.false))
