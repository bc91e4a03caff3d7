-- What code's test of luma's log2 side says of the fault: below 2, above 5, or neither.
use mathlib.Core.Path.{◌≡◌, refl}
use mathlib.Core.Bool.{Bool, true, false, not, ◌&&◌, ◌||◌}
use Prim.Native.Nat.{ℕ, ◌<◌, ◌≤◌}
use borrow.Author.Tests.{lt-leb}
use lib.Dec.{leb}
use Rattle.refusals.specs.Sides.{most_log2}
use Rattle.refusals.specs.Faults.{outside}
use Rattle.components.proofs.Log2.{not_outside}

below_outside : (lo hi n : ℕ) → n < lo → outside lo hi n ≡ true
below_outside lo hi n h = rw (lt-leb lo n h)

above_outside : (lo hi n : ℕ) → hi < n → outside lo hi n ≡ true
above_outside lo hi n h = by (leb lo n)
  where
    by : (a : Bool) → not (a && leb n hi) ≡ true
    by true = rw (lt-leb n hi h)
    by false = refl

-- the two log2 sides of a square are one
module _ (n : ℕ) where
  pub log2_low : n < 2 → (outside 2 most_log2 n || outside 2 most_log2 n) ≡ true
  log2_low h = rw (below_outside 2 most_log2 n h)

  pub log2_high : most_log2 < n → (outside 2 most_log2 n || outside 2 most_log2 n) ≡ true
  log2_high h = rw (above_outside 2 most_log2 n h)

  pub log2_fine : 2 ≤ n → n ≤ most_log2 → (outside 2 most_log2 n || outside 2 most_log2 n) ≡ false
  log2_fine a b = rw (not_outside 2 most_log2 n a b)
