-- What is lent of a block that is repaired, and the rooms for a candidate of it: how long each is. It is stated of the
-- numbers and the lists alone, as the block keeps it.
use Rattle.std.specs.Prelude.{◌≡◌, List, ℕ, ◌*◌, ◌^◌, ◌≤◌, length, get_or, ℤ}
use Rattle.refusals.specs.Sides.{most_log2}

-- a block of an accepted side and QP, its scan w wide and h high; each |c| is a 16-bit magnitude
pub record Whole (l q w h : ℕ) (r B : List ℤ) (cs : List ℕ) : Type 0 where
  pub low : 1 ≤ l
  pub high : l ≤ most_log2
  pub qp : q ≤ 63
  pub wide : w ≡ 2 ^ l
  pub tall : h ≡ 2 ^ l
  pub samples : length r ≡ 2 ^ l * 2 ^ l
  pub block : length B ≡ 2 ^ l * 2 ^ l
  pub places : length cs ≡ 2 ^ l * 2 ^ l
  pub small : (k : ℕ) → get_or cs k 0 ≤ 32768

-- each has n places
pub record Rooms (n x y z : ℕ) : Type 0 where
  pub levels : x ≡ n
  pub shown : y ≡ n
  pub rows : z ≡ n
