-- What the functions that write and read symbols ask of a block.
use Rattle.std.specs.Prelude.{◌≡◌, false, List, ℕ, ◌*◌, ◌^◌, length, ℤ}
use Rattle.refusals.specs.Sides.{most_log2}
use Rattle.refusals.specs.Faults.{outside}

-- a square block of an accepted side
pub record Square (l : ℕ) (block : List ℤ) : Type 0 where
  pub side : outside 1 most_log2 l ≡ false
  pub room : length block ≡ 2 ^ l * 2 ^ l
