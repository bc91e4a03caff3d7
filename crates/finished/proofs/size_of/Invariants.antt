-- `finished::size_of` meets its contract: the size of what is passed, joined with the size of what is left.
use mathlib.Core.Path.{◌≡◌}
use Prim.Native.Nat.{◌≤◌}
use lib.ListN.{drop}
use Rattle.price.specs.Price.{size}
use Rattle.finished.proofs.Places.{joined}
use Rattle.finished.proofs.size_of.Given as goal

abbrev pub invariant-loop-i : goal.invariant-loop-i
invariant-loop-i l = (l.end ≤ l.i) × (joined l.i l.end (size (drop l.i l.levels)) ≡ size l.levels)
