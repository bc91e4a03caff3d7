-- A line of coefficients back to values, and how the butterflies work it out: the even coefficients give the values of a
-- line of half the side, the odd ones what is added to each of them in the first half and taken from it in the second,
-- which is read from the end.
use Rattle.std.specs.Prelude.{◌≡◌, List, ℕ, ◌+◌, ◌-◌, ◌*◌, ◌^◌, ◌<◌, ◌≤◌, length, ℤ, nat_abs, ◌+ℤ◌, ◌-ℤ◌, ◌*ℤ◌}
use Rattle.integers.specs.Sum.{sum, sum_ℤ, at}
use Rattle.tables.specs.Matrix.{Matrices, matrix}

-- value n of N coefficients x: the product with the transposed matrix
unfoldable pub value_at : Matrices → (N : ℕ) (x : ℕ → ℤ) (n : ℕ) → ℤ
unfolding sum
value_at M N x n = sum_ℤ N (λ k. M N k n *ℤ x k)

-- what the odd coefficients o of a line of side 2h give value n
unfoldable pub odd_at : Matrices → (h : ℕ) (o : ℕ → ℤ) (n : ℕ) → ℤ
unfolding sum
odd_at M h o n = sum_ℤ h (λ k. M (h + h) (2 * k + 1) n *ℤ o k)

-- e has the even places of x, and o the odd ones
pub record Parted (x e o : List ℤ) : Type 0 where
  pub evens : (k : ℕ) → k < length e → at e k ≡ at x (2 * k)
  pub odds : (k : ℕ) → k < length e → at o k ≡ at x (2 * k + 1)
  pub small : (k : ℕ) → k < length e → (nat_abs (at e k) ≤ 32768) × (nat_abs (at o k) ≤ 32768)

-- no number of the list is above b
abbrev pub Within : (b : ℕ) (l : List ℤ) → Type 0
Within b l = (i : ℕ) → i < length l → nat_abs (at l i) ≤ b

-- the most that a value of 16-bit coefficients comes to, 1864 · 32768, and what the odd ones of them give, 16 · 90 · 32768
abbrev pub most_value : ℕ
most_value = 61079552

abbrev pub most_odd : ℕ
most_odd = 47185920

-- a line x of 2^(l+1) coefficients of 16 bits in its halves: e has the even ones, and b what the odd ones give
pub record Halves (l : ℕ) (x e b : List ℤ) : Type 0 where
  pub evens : (k : ℕ) → k < 2 ^ l → at e k ≡ at x (2 * k)
  pub odds : (n : ℕ) → n < 2 ^ l → at b n ≡ odd_at matrix (2 ^ l) (λ k. at x (2 * k + 1)) n
  pub small : (k : ℕ) → k < 2 ^ l + 2 ^ l → nat_abs (at x k) ≤ 32768
  pub within : (n : ℕ) → n < 2 ^ l → nat_abs (at b n) ≤ most_odd

-- the sums of e and b in front, their differences from the end
pub record Spread (e b row : List ℤ) : Type 0 where
  pub near : (n : ℕ) → n < length e → at row n ≡ at e n +ℤ at b n
  pub far : (n : ℕ) → n < length e → at row (length e + length e - 1 - n) ≡ at e n -ℤ at b n

-- the row holds the values of the line x of 2^l coefficients
pub record Back (l : ℕ) (x row : List ℤ) : Type 0 where
  pub holds : (n : ℕ) → n < 2 ^ l → at row n ≡ value_at matrix (2 ^ l) (at x) n
  pub within : (n : ℕ) → n < 2 ^ l → nat_abs (at row n) ≤ most_value
