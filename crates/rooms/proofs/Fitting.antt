-- A block fits the rooms that are as large as the block of a side, where its own side is no larger.
use Prim.Native.Nat.{ℕ, ◌*◌, ◌^◌, ◌≤◌}
use mathlib.Core.Path.{◌≡◌}
use mathlib.Core.List.{List}
use native.Mathlib.Omega.{arith}
use lib.ListN.{length}
use lib.IntN.{ℤ}
use Rattle.levels.proofs.Coding.{area_range}

pub fits : (most l : ℕ) → l ≤ most → (block : List ℤ) → length block ≡ 2 ^ l * 2 ^ l
    → length block ≤ 2 ^ most * 2 ^ most
fits most l hi block room = omega (arith, area_range most l hi)
