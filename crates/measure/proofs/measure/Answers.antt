-- `measure::measure` meets its contract: behind its faults, the two extremes of the front of either list.
use mathlib.Core.Path.{◌∙◌}
use Rattle.std.proofs.Common.{arith}
use Rattle.std.proofs.lemmas.Bool.Decides.{nat_tests}
use Rattle.tables.specs.Scales.{back}
use Rattle.heights.specs.Call.{measure_answer, measure_verdict}
use Rattle.measure.proofs.Front.{extremes_front}
use Rattle.measure.proofs.measure.Goals as goal

pub returns : goal.returns
unfolding measure_answer measure_verdict
returns c =
    let a = c.args in
    let found =
    c.look.ensures
    ∙ extremes_front back c.in_ok-side.side.log2 c.in_ok-qp.qp.qp a.residuals.now a.levels.now c.length-a.result
    c.length-a.ensures.0 in
    let e = rw (c.in_ok-side.ensures.0, c.in_ok-qp.ensures.0) at found in
    let long = rw c.in_ok-side.ensures.0 at c.length-a.ensures.0 in
    grind (arith, nat_tests)
