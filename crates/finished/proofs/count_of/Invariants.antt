-- `finished::count_of` meets its contract: what is counted and what is left to count.
use mathlib.Core.Path.{◌≡◌}
use Prim.Native.Nat.{◌+◌, ◌≤◌}
use lib.ListN.{drop}
use Rattle.price.specs.Price.{nonzeros}
use Rattle.finished.proofs.count_of.Given as goal

abbrev pub invariant-loop-level : goal.invariant-loop-level
invariant-loop-level l =
    (l.count ≤ l.level-index) × (l.count + nonzeros (drop l.level-index l.levels) ≡ nonzeros l.levels)
