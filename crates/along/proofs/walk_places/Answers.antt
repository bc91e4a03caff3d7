-- Each turn passes its place, or steps and puts the level taken there, and ends behind the last place that is kept.
use mathlib.Core.Path.{◌∙◌}
use native.Mathlib.Omega.{arith}
use Rattle.along.proofs.Steps.{of_block, begun, going, base_small, passes_at, ready_at, taken_at, steps_at, walked_over}
use Rattle.along.proofs.walk_places.Goals as goal
use Rattle.along.proofs.walk_places.Goals.{then-a-eq0, else-a-eq0}

pub loop-left-init : goal.loop-left-init
loop-left-init c =
    let k = c.args.kept in
    begun _ _ _ _ _ _ _ k.scan.scanned (of_block _ _ c.requires.0) _ _ c.requires.1.room c.requires.1.cleared
    k.choosable.count

pub scan_place-requires : goal.scan_place-requires
scan_place-requires c =
    let l = c.loop-left in
    let k = c.args.kept in
    let inside =
    going _ _ _ _ _ _ _ k.scan.scanned (of_block _ _ c.requires.0) _ _ _ _ _ l.invariant
    (omega (arith, c.loop-left-test.true)) in
    omega (arith, inside, k.scan.scanned.few)

pub block_place-place-requires : goal.block_place-place-requires
block_place-place-requires c =
    let l = c.loop-left in
    let sc = c.args.kept.scan.scanned in
    let inside =
    going _ _ _ _ _ _ _ sc (of_block _ _ c.requires.0) _ _ _ _ _ l.invariant (omega (arith, c.loop-left-test.true)) in
    omega (arith, inside, c.scan_place.ensures.0)

pub pass-totals-requires : goal.pass-totals-requires
pass-totals-requires c =
    let l = c.loop-left in
    let sc = c.args.kept.scan.scanned in
    let b = of_block _ _ c.requires.0 in
    base_small _ _ _ _ _ _ _ sc b _ _ _ _ _ l.invariant
    (going _ _ _ _ _ _ _ sc b _ _ _ _ _ l.invariant (omega (arith, c.loop-left-test.true)))

pub step-totals-requires : goal.step-totals-requires
step-totals-requires c =
    ready_at _ _ _ _ _ _ _ c.args.kept.scan.scanned (of_block _ _ c.requires.0) c.loop-left.invariant
    (omega (arith, c.loop-left-test.true)) c.scan_place.ensures.0 c.block_place-place.ensures.0 c.value_at-a.ensures
    c.if-a-eq0.false

pub overflow_cast-totals : goal.overflow_cast-totals
overflow_cast-totals c =
    record {
      fits = omega (
        arith,
        taken_at _ _ _ _ _ _ _ c.args.kept.scan.scanned (of_block _ _ c.requires.0) c.loop-left.invariant
            (omega (arith, c.loop-left-test.true)) c.scan_place.ensures.0 c.block_place-place.ensures.0
            c.value_at-a.ensures c.if-a-eq0.false _ c.step-totals.ensures,
      );
    }

pub loop-left-smaller : goal.loop-left-smaller
loop-left-smaller c =
    let l = c.loop-left in
    let sc = c.args.kept.scan.scanned in
    let inside =
    going _ _ _ _ _ _ _ sc (of_block _ _ c.requires.0) _ _ _ _ _ l.invariant (omega (arith, c.loop-left-test.true)) in
    omega (arith, inside)

pub loop-left-preserved : goal.loop-left-preserved
loop-left-preserved c =
    elim c.if-a-eq0.branch [
      | then-a-eq0 w ↦
          rw (w.levels-is, w.totals-is, w.left-is, w.end-is)
          (passes_at _ _ _ _ _ _ _ c.args.kept.scan.scanned (of_block _ _ c.requires.0) c.loop-left.invariant
          (omega (arith, c.loop-left-test.true)) c.scan_place.ensures.0 c.block_place-place.ensures.0
          c.value_at-a.ensures w.if-a-eq0.true _ w.pass-totals.ensures)
      | else-a-eq0 w ↦
          rw (w.totals-is, w.left-is, w.end-is)
          (steps_at _ _ _ _ _ _ _ c.args.kept.scan.scanned (of_block _ _ c.requires.0) c.loop-left.invariant
          (omega (arith, c.loop-left-test.true)) c.scan_place.ensures.0 c.block_place-place.ensures.0
          c.value_at-a.ensures w.if-a-eq0.false _ w.step-totals.ensures _
          (w.levels-is ∙ w.put.ensures) _ w.end_with-end.ensures)
    ]

pub returns : goal.returns
returns c =
    walked_over _ _ _ _ _ _ _ c.args.kept.scan.scanned (of_block _ _ c.requires.0) _ _ _ _ _ c.loop-left.invariant
    (omega (arith, c.loop-left-test.false))
