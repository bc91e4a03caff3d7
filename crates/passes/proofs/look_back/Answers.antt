-- Each turn passes its place or weighs it, and writes what it takes.
use mathlib.Core.Path.{◌≡◌}
use native.Mathlib.Omega.{arith}
use Rattle.passes.proofs.Ending.{kept_met}
use Rattle.passes.proofs.Looking.{begun, small_at, passes_at, ready_at, weighs_at}
use Rattle.passes.proofs.look_back.Goals as goal

pub loop-n-init : goal.loop-n-init
loop-n-init c = begun _ _ c.requires.0 _ c.requires.1

pub pass-ahead-requires : goal.pass-ahead-requires
pass-ahead-requires c = small_at c.args.kept c.args.end c.requires.0 c.loop-n.invariant c.loop-n-test.true

pub loop-n-preserved-then-a-eq0 : goal.loop-n-preserved-then-a-eq0
loop-n-preserved-then-a-eq0 c =
    let is = kept_met c.args.kept c.scan_place.ensures.0 c.block_place.ensures.0 c.value_at-a.ensures in
    passes_at c.args.kept c.args.end c.requires.0 c.loop-n.invariant c.loop-n-test.true is c.if-a-eq0.true _
    c.pass-ahead.ensures

pub weigh-weighed-requires : goal.weigh-weighed-requires
weigh-weighed-requires c =
    let is = kept_met c.args.kept c.scan_place.ensures.0 c.block_place.ensures.0 c.value_at-a.ensures in
    ready_at c.args.kept c.args.end c.requires.0 c.loop-n.invariant c.loop-n-test.true is c.if-a-eq0.false

pub loop-n-preserved : goal.loop-n-preserved
loop-n-preserved c =
    let is = kept_met c.args.kept c.scan_place.ensures.0 c.block_place.ensures.0 c.value_at-a.ensures in
    weighs_at c.args.kept c.args.end c.requires.0 c.loop-n.invariant c.loop-n-test.true is c.if-a-eq0.false _
    c.weigh-weighed.ensures.by

pub returns : goal.returns
returns c =
    let done : c.loop-n.n ≡ 0 = omega (arith, c.loop-n-test.false) in
    let i = rw done at c.loop-n.invariant in (i.known, i.decided)
