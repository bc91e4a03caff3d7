-- `measure::look` meets its contract: where no level is left, what is decoded is the levels themselves.
use mathlib.Core.Path.{◌≡◌, sym, ◌∙◌}
use lib.IntN.{nat_abs}
use Rattle.integers.specs.Sum.{over, on_max}
use Rattle.tables.specs.Scales.{back}
use Rattle.measure.proofs.Zeros.{zeros_decoded}
use Rattle.measure.proofs.Front.{extremes_are}
use Rattle.measure.proofs.look.Goals as goal

pub returns-then-largest-eq0 : goal.returns-then-largest-eq0
returns-then-largest-eq0 c =
    let a = c.args in
    let levels = a.levels.now in
    -- no level is left
    let blank : over on_max nat_abs levels ≡ 0 = sym c.largest.ensures.is ∙ c.if-largest-eq0.true in
    let long = c.requires in
    extremes_are back a.side.log2 a.qp.qp a.residuals.now levels levels c.apart.result long.0
    (zeros_decoded back a.side.log2 a.qp.qp levels (long.1 ∙ long.0) blank)
    c.apart.ensures.0 c.apart.ensures.1

pub returns : goal.returns
returns c =
    let a = c.args in
    extremes_are back a.side.log2 a.qp.qp a.residuals.now a.levels.now _ c.apart-2.result c.requires.0
    c.decode.ensures c.apart-2.ensures.0 c.apart-2.ensures.1
