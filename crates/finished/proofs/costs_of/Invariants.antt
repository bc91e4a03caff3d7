-- `finished::costs_of` meets its contract: what is added, with the costs that are left after the level before, is the
-- costs of all n levels.
use mathlib.Core.Path.{◌≡◌}
use mathlib.Core.Bool.{false}
use Prim.Native.Nat.{◌+◌, ◌^◌, ◌≤◌}
use lib.ListN.{take}
use Rattle.price.specs.Rule.{is_zero}
use Rattle.price.specs.Price.{costs}
use Rattle.weights.specs.Inner.Prices.{rule_by}
use Rattle.finished.specs.Inner.Finished.{held, places_of}
use Rattle.finished.proofs.costs_of.Given as goal

abbrev pub invariant-loop-level : goal.invariant-loop-level
invariant-loop-level l =
    let p = l.weights.prices in
    let g = l.weights.scale in
    let left = l.level-iterator in
    (l.total ≤ 2 ^ 62)
    × (held (l.total + costs (rule_by p g) (is_zero l.prev) left.a.rest.now (places_of g left.b.rest.now))
    ≡ held (costs (rule_by p g) false (take l.n l.levels) (places_of g l.cs)))
