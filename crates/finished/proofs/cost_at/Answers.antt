-- `finished::cost_at` meets its contract: a magnitude up to m is near its place, and its parts add up to its cost.
use native.Mathlib.Omega.{arith}
use Rattle.price.specs.Rule.{is_zero}
use Rattle.scaling.proofs.Squaring.{near_below}
use Rattle.weights.proofs.Offering.{bare_is}
use Rattle.finished.proofs.Places.{zero_cost, level_cost}
use Rattle.finished.proofs.cost_at.Goals as goal

pub squared-d-requires : goal.squared-d-requires
squared-d-requires c = near_below c.args.weights.scale c.args.l c.requires.0.near c.args.a c.requires.1

pub returns-then-a-eq0 : goal.returns-then-a-eq0
returns-then-a-eq0 c =
    let d = c.squared-d.ensures in
    let z = c.zero_at.ensures in
    let a = c.args in
    (zero_cost a.weights.prices a.weights.scale _ a.l a.a _ _ c.if-a-eq0.true d.is z.0, omega (arith, d.small, z.1))

pub returns-else-a-eq0 : goal.returns-else-a-eq0
returns-else-a-eq0 c =
    let d = c.squared-d.ensures in
    let y = c.level_at.ensures in
    let x = c.head_at.ensures in
    let a = c.args in
    let p = a.weights.prices in
    let g = a.weights.scale in (
      omega (
        arith,
        bare_is p g a.l a.a c.squared-d.result c.level_at.result d y,
        x.0,
        level_cost p g (is_zero a.prev) a.l a.a c.if-a-eq0.false,
      ),
      omega (arith, d.small, y.small, x.1),
    )
