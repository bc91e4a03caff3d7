-- An entry of the odd rows by columns, and how many there are.
use mathlib.Core.Path.{◌≡◌, refl, ◌∙◌, ap}
use Prim.Native.Nat.{ℕ, ◌+◌, ◌*◌, ◌/◌, ◌%◌, ◌<◌}
use lib.ListN.{length}
use lib.IntN.{pos}
use Rattle.integers.specs.Sum.{at}
use Rattle.integers.proofs.Tests.{listed_at, listed_length}
use Rattle.integers.proofs.Grid.{row_of, column_of_lem, inside}
use Rattle.tables.specs.Matrix.{Matrices, matrix}
use Rattle.tables.specs.Inner.OddRows.{odd_rows_of, odd_rows}

module _ (M : Matrices) (h : ℕ) where
  pub odd_rows_length : length (odd_rows_of M h) ≡ h * h
  unfolding odd_rows_of
  odd_rows_length = listed_length _ 0 (h * h)

  pub odd_row_at : (n k : ℕ) → n < h → k < h → at (odd_rows_of M h) (n * h + k) ≡ M (h + h) (2 * k + 1) n
  unfolding odd_rows_of
  odd_row_at n k hn hk =
      listed_at (pos 0) (λ i. M (h + h) (2 * (i % h) + 1) (i / h)) (h * h) (n * h + k) (inside h n k hk h hn)
      ∙ ap (λ (i : ℕ). M (h + h) (2 * i + 1) ((n * h + k) / h)) (column_of_lem h n k hk)
      ∙ ap (λ (i : ℕ). M (h + h) (2 * k + 1) i) (row_of h n k hk)

pub odd_rows_are : (h : ℕ) → odd_rows h ≡ odd_rows_of matrix h
unfolding odd_rows
odd_rows_are h = refl
