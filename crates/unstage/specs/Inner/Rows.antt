-- A stage of the inverse: each line of coefficients goes back to values down a column of its own in a grid. A long line
-- goes in two halves, of which the second stands in the grid from the last row up, and is unfolded row by row.
use Rattle.std.specs.Prelude.{◌≡◌, List, ℕ, ◌+◌, ◌-◌, ◌*◌, ◌^◌, ◌<◌, ◌≤◌, ℤ, nat_abs, ◌+ℤ◌, ◌-ℤ◌}
use Rattle.integers.specs.Sum.{at}
use Rattle.tables.specs.Matrix.{matrix}
use Rattle.stages.specs.Inner.Stages.{Columns}
use Rattle.unfold.specs.Inner.Back.{value_at, odd_at, most_value, most_odd}

-- the first m lines, each down its own column of n numbers: number k of line j is g j k, at most b
pub record Lines (g : ℕ → ℕ → ℤ) (b n lines : ℕ) (dst : List ℤ) (m : ℕ) : Type 0 where
  pub holds : Columns g n lines (λ j. j) dst m
  pub within : (j k : ℕ) → j < m → k < n → nat_abs (g j k) ≤ b

-- value n of line j of a list of lines of side N
abbrev pub line_value : (N : ℕ) → List ℤ → (j n : ℕ) → ℤ
line_value N src j n = value_at matrix N (λ k. at src (j * N + k)) n

-- every line of side 2^l back to values
abbrev pub Values : (l lines : ℕ) (src dst : List ℤ) → Type 0
Values l lines src dst = Lines (line_value (2 ^ l) src) most_value (2 ^ l) lines dst lines

-- the coefficients of the first m lines of side N have 16 bits
abbrev pub Small : (N : ℕ) → List ℤ → ℕ → Type 0
Small N src m = (j k : ℕ) → j < m → k < N → nat_abs (at src (j * N + k)) ≤ 32768

-- what the even coefficients of lines of side 2h give, and the odd ones, the last first; o has the odd ones of each line
abbrev pub Evens : (h lines : ℕ) (src dst : List ℤ) → Type 0
Evens h lines src dst =
    Lines (λ j n. value_at matrix h (λ k. at src (j * (h + h) + 2 * k)) n) most_value h lines dst lines

abbrev pub Odds : (h lines : ℕ) (o : ℕ → ℕ → ℤ) (dst : List ℤ) → Type 0
Odds h lines o dst = Lines (λ j n. odd_at matrix h (o j) (h - 1 - n)) most_odd h lines dst lines

-- rows n and 2h - 1 - n have become their sum and their difference
pub record Unfolded (h lines : ℕ) (old new : List ℤ) : Type 0 where
  pub near : (n j : ℕ) → n < h → j < lines
      → at new (n * lines + j) ≡ at old (n * lines + j) +ℤ at old ((h + h - 1 - n) * lines + j)
  pub far : (n j : ℕ) → n < h → j < lines
      → at new ((h + h - 1 - n) * lines + j) ≡ at old (n * lines + j) -ℤ at old ((h + h - 1 - n) * lines + j)

-- the same of two rows that begin at a and c
pub record RowsUnfolded (a c m : ℕ) (old new : List ℤ) : Type 0 where
  pub near : (i : ℕ) → i < m → at new (a + i) ≡ at old (a + i) +ℤ at old (c + i)
  pub far : (i : ℕ) → i < m → at new (c + i) ≡ at old (a + i) -ℤ at old (c + i)
  pub before : (p : ℕ) → p < a → at new p ≡ at old p
  pub between : (p : ℕ) → a + m ≤ p → p < c → at new p ≡ at old p
  pub behind : (p : ℕ) → c + m ≤ p → at new p ≡ at old p
