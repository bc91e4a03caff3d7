-- The cost tables: which are refused with 4, and the rate of a magnitude by the rows of its component.
-- The sign's price and the rows are arguments: document 01 has 32768 for the one, and the same rows for Cb and Cr.
use Rattle.std.specs.Prelude.{ℕ, zero, suc, ◌+◌, ◌*◌, ◌≤◌, Bool, cond, ◌||◌, List, [], ◌∷◌, nat_lt, slice_index}
use Rattle.integers.specs.Tests.{some}
use Rattle.price.specs.declared.Costs.{Costs}

-- four and eight numbers from the i-th on
abbrev pub four_at : ℕ → List ℕ → List ℕ
four_at i l = slice_index l i ∷ slice_index l (i + 1) ∷ slice_index l (i + 2) ∷ slice_index l (i + 3) ∷ []

abbrev pub eight_at : ℕ → List ℕ → List ℕ
eight_at i l =
    slice_index l i ∷ slice_index l (i + 1) ∷ slice_index l (i + 2) ∷ slice_index l (i + 3)
    ∷ slice_index l (i + 4) ∷ slice_index l (i + 5) ∷ slice_index l (i + 6) ∷ slice_index l (i + 7) ∷ []

-- the tables in the 28 numbers of a call, one behind the other: run 8, level 8, last 4, cbf 8
unfoldable pub costs_of : List ℕ → Costs
costs_of l = record { run = eight_at 0 l; level = eight_at 8 l; last = four_at 16 l; cbf = eight_at 20 l }

-- more than a cost may be
abbrev pub dear : ℕ → Bool
dear x = nat_lt 1048576 x

-- 4 COST: an entry of the cost tables is outside 0..1,048,576
unfoldable pub cost_refused : Costs → Bool
unfolding some
cost_refused t = some dear t.run || some dear t.level || some dear t.last || some dear t.cbf

-- what holds of accepted tables, at each number: past a table's end stands 0
pub record InRange (t : Costs) : Type 0 where
  pub run : (k : ℕ) → slice_index t.run k ≤ 1048576
  pub level : (k : ℕ) → slice_index t.level k ≤ 1048576
  pub last : (k : ℕ) → slice_index t.last k ≤ 1048576
  pub cbf : (k : ℕ) → slice_index t.cbf k ≤ 1048576

-- the rows that a component reads
pub record Rows : Type 0 where
  pub run : ℕ
  pub level : ℕ
  pub last : ℕ
  pub cbf : ℕ

-- table[row][i] of a flat table of pairs
unfoldable pub entry : List ℕ → ℕ → ℕ → ℕ
entry table row i = slice_index table (2 * row + i)

-- the run context k: one more if the level before in scan is 0
unfoldable pub run_row : Rows → Bool → ℕ
run_row rows after_zero = rows.run + cond after_zero 1 0

-- the rate of magnitude a, by the sign's price: a = 0, a = 1, and a >= 2, where n is a - 2
unfoldable pub rate : ℕ → Costs → Rows → Bool → ℕ → ℕ
unfolding entry run_row
rate sign t rows after_zero zero = entry t.run (run_row rows after_zero) 1
rate sign t rows after_zero (suc zero) =
    sign + entry t.run (run_row rows after_zero) 0 + entry t.level rows.level 0
rate sign t rows after_zero (suc (suc n)) =
    let j = rows.level in
    sign + entry t.run (run_row rows after_zero) 0
    + (entry t.level j 1 + n * entry t.level (j + 1) 1 + entry t.level (j + 1) 0)
