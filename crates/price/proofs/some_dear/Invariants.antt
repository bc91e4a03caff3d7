-- `price::some_dear` meets its contract. The loop's invariant: what was found, or is still to be found, is what the
-- table has.
use Rattle.std.proofs.Common.{◌≡◌, ◌||◌, drop}
use Rattle.integers.specs.Sum.{over, on_or}
use Rattle.price.specs.Costs.{dear}
use Rattle.price.proofs.some_dear.Given as goal

abbrev pub invariant-loop-cost : goal.invariant-loop-cost
invariant-loop-cost l = (l.found || over on_or dear (drop l.cost-index l.table)) ≡ over on_or dear l.table
