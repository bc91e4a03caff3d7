-- The rows of a block 4 wide, each replaced by the residuals of its line of sums: a row is lent, and comes back between
-- what stood before it and what stood behind it.
use mathlib.Core.Path.{◌≡◌, ◌∙◌, subst}
use mathlib.Core.List.{List}
use Prim.Native.Nat.{ℕ, ◌+◌, ◌-◌, ◌*◌, ◌<◌, ◌≤◌}
use native.Mathlib.Omega.{arith}
use borrow.Author.Count.{below_more}
use borrow.Rule.Slice.PartMut.{put_mid}
use lib.ListN.{length, take, get_or-append}
use lib.Seq.{get_or-append-add, get_or-take, length-take-le}
use lib.IntN.{ℤ, pos}
use Rattle.integers.specs.Sum.{at}
use Rattle.fours.specs.Inner.Last.{last_at}

-- ---- the part of a list from a on came back as `part`
module _ (a m : ℕ) (l part : List ℤ) (ha : a ≤ length l) where
  before_part : (i : ℕ) → i < a → at (put_mid a m l part) i ≡ at l i
  before_part i h =
      get_or-append (take a l) _ (pos 0) i (omega (arith, length-take-le a l ha)) ∙ get_or-take a l i (pos 0) h

  in_part : (i : ℕ) → i < length part → at (put_mid a m l part) (a + i) ≡ at part i
  in_part i h =
      subst (λ (k : ℕ). at (put_mid a m l part) (k + i) ≡ at part i) (length-take-le a l ha)
      (get_or-append-add (take a l) _ i (pos 0) ∙ get_or-append part _ (pos 0) i h)

-- the first j rows hold their residuals; with row j there is one more
pub rows_more : (n : ℕ) (x block row : List ℤ) (j : ℕ) → j < n → length block ≡ n * 4 → length row ≡ 4
    → ((k : ℕ) → k < 4 → at row k ≡ last_at x j k)
    → ((i k : ℕ) → i < j → k < 4 → at block (i * 4 + k) ≡ last_at x i k)
    → (i k : ℕ) → i < j + 1 → k < 4 → at (put_mid (j * 4) (j * 4 + 4 - j * 4) block row) (i * 4 + k) ≡ last_at x i k
rows_more n x block row j hj lb lr e was i k hi hk =
    below_more (λ (i : ℕ). at (put_mid (j * 4) (j * 4 + 4 - j * 4) block row) (i * 4 + k) ≡ last_at x i k) j
    (λ i h. before_part (j * 4) (j * 4 + 4 - j * 4) block row (omega arith) (i * 4 + k) (omega arith) ∙ was i k h hk)
    (in_part (j * 4) (j * 4 + 4 - j * 4) block row (omega arith) k (omega arith) ∙ e k hk)
    i hi
