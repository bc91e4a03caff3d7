-- `finished::uncoded_of` meets its contract: what is added, with what is left of D, is D.
use mathlib.Core.Path.{◌≡◌}
use Prim.Native.Nat.{◌+◌, ◌^◌, ◌≤◌}
use lib.ListN.{drop}
use Rattle.integers.specs.Sum.{over, on_ℕ}
use Rattle.finished.specs.Inner.Finished.{held, uncoded_at}
use Rattle.finished.proofs.uncoded_of.Given as goal

abbrev pub invariant-loop-c : goal.invariant-loop-c
invariant-loop-c l =
    (l.total ≤ 2 ^ 62)
    × (held (l.total + over on_ℕ (uncoded_at l.scale) (drop l.c-index l.cs))
    ≡ held (over on_ℕ (uncoded_at l.scale) l.cs))
