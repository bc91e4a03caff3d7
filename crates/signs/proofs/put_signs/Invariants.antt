-- `signs::put_signs` meets its contract: each level takes its coefficient's place.
use mathlib.Core.Path.{◌≡◌}
use Prim.Native.Nat.{◌+◌, ◌≤◌}
use lib.ListN.{drop}
use Rattle.integers.specs.Sum.{over, on_ℕ}
use Rattle.price.proofs.Counting.{ones}
use Rattle.signs.proofs.Signing.{Signing}
use Rattle.signs.proofs.put_signs.Given as goal

abbrev pub invariant-loop-i : goal.invariant-loop-i
invariant-loop-i l =
    Signing l.initial.block l.levels l.block l.i
    × (l.count + over on_ℕ ones (drop l.i l.levels) ≡ over on_ℕ ones l.levels)
    × (l.count ≤ l.i)
