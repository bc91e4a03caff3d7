-- What the odd coefficients of a line give, by a row of the table of odd rows, as the part of it that is handed on.
use mathlib.Core.Path.{◌≡◌, sym, ◌∙◌, ap, subst}
use mathlib.Core.List.{List}
use Prim.Native.Nat.{ℕ, ◌+◌, ◌*◌, ◌<◌, ◌≤◌}
use native.Mathlib.Omega.{arith}
use lib.ListN.{length}
use lib.IntN.{ℤ, nat_abs, ◌*ℤ◌}
use Rattle.integers.specs.Sum.{on_ℤ, sum_ℤ, at}
use Rattle.integers.proofs.Sums.{sum_ext}
use Rattle.tables.specs.Matrix.{Matrices, matrix}
use Rattle.tables.specs.Inner.OddRows.{odd_rows_of, odd_rows}
use Rattle.tables.proofs.OddRows.{odd_row_at, odd_rows_are, odd_rows_length}
use Rattle.unfold.proofs.Line.{odd_entry}
use Rattle.unfold.specs.Inner.Back.{odd_at}
use Rattle.stages.proofs.Columns.{line, line_at_lem, line_length}

-- the same coefficients give the same
pub odd_same : (M : Matrices) (h : ℕ) (o p : ℕ → ℤ) → ((k : ℕ) → k < h → o k ≡ p k) → (n : ℕ)
    → odd_at M h o n ≡ odd_at M h p n
unfolding odd_at
odd_same M h o p e n =
    sum_ext on_ℤ h (λ k. M (h + h) (2 * k + 1) n *ℤ o k) (λ k. M (h + h) (2 * k + 1) n *ℤ p k)
    (λ k hk. ap (λ (z : ℤ). M (h + h) (2 * k + 1) n *ℤ z) (e k hk))

-- row n of the table of 16 odd rows, and its products with the odd coefficients
module _ (t : List ℤ) (is : t ≡ odd_rows 16) (n : ℕ) (hn : n < 16) where
  rows : t ≡ odd_rows_of matrix 16
  rows = is ∙ odd_rows_are 16

  pub row_ends : n * 16 + 16 ≤ length t
  row_ends = omega (arith, ap length rows, odd_rows_length matrix 16)

  pub row_length : length (line 16 t n) ≡ 16
  row_length = line_length 16 t n row_ends

  row_at : (k : ℕ) → k < 16 → at (line 16 t n) k ≡ matrix (16 + 16) (2 * k + 1) n
  row_at k hk =
      line_at_lem 16 t n k hk ∙ ap (λ (l : List ℤ). at l (n * 16 + k)) rows ∙ odd_row_at matrix 16 n k hn hk

  pub row_small : (k : ℕ) → k < 16 → nat_abs (at (line 16 t n) k) ≤ 90
  row_small k hk =
      subst (λ (z : ℤ). nat_abs z ≤ 90) (sym (row_at k hk)) (odd_entry 4 (omega arith) k n hk hn)

  pub row_gives : (o : List ℤ) → sum_ℤ 16 (λ k. at (line 16 t n) k *ℤ at o k) ≡ odd_at matrix 16 (at o) n
  unfolding odd_at
  row_gives o =
      sum_ext on_ℤ 16 (λ k. at (line 16 t n) k *ℤ at o k) (λ k. matrix (16 + 16) (2 * k + 1) n *ℤ at o k)
      (λ k hk. ap (λ (z : ℤ). z *ℤ at o k) (row_at k hk))
