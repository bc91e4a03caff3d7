-- The lines of four, one after the other: the residuals of the part that is handed on are those of line j, and when a
-- row goes down column j, one row more stands in its column.
use mathlib.Core.Path.{◌≡◌, ap, subst}
use mathlib.Core.List.{List}
use Prim.Native.Nat.{ℕ, ◌+◌, ◌*◌, ◌<◌, ◌≤◌}
use native.Mathlib.Omega.{arith}
use lib.ListN.{length}
use lib.IntN.{ℤ, ◌*ℤ◌}
use Rattle.integers.specs.Sum.{on_ℤ, at}
use Rattle.integers.specs.Floor.{rounded}
use Rattle.integers.specs.Clip.{clipped}
use Rattle.integers.proofs.Sums.{sum_ext}
use Rattle.tables.specs.Matrix.{matrix}
use Rattle.columns.specs.Inner.Placed.{Placed}
use Rattle.stages.specs.Inner.Stages.{Columns}
use Rattle.stages.proofs.Columns.{line, line_at_lem, line_length, line_within, columns_more, own_column}
use Rattle.unfold.specs.Inner.Back.{value_at, Within, most_value}
use Rattle.fours.specs.Inner.Last.{last_of, last_at}

module _ (x : List ℤ) (j : ℕ) where
  line_value_lem : (n : ℕ) → value_at matrix 4 (at (line 4 x j)) n ≡ value_at matrix 4 (λ k. at x (j * 4 + k)) n
  unfolding value_at
  line_value_lem n =
      sum_ext on_ℤ 4 (λ k. matrix 4 k n *ℤ at (line 4 x j) k) (λ k. matrix 4 k n *ℤ at x (j * 4 + k))
      (λ k hk. ap (λ (z : ℤ). matrix 4 k n *ℤ z) (line_at_lem 4 x j k hk))

  pub line_last : (n : ℕ) → last_of (at (line 4 x j)) n ≡ last_at x j n
  line_last n = ap (λ (z : ℤ). clipped (rounded z 17)) (line_value_lem n)

  -- what `last` asks of the line
  pub line_asks : j * 4 + 4 ≤ length x → Within most_value x → (length (line 4 x j) ≡ 4) × Within most_value (line 4 x j)
  line_asks ends w =
      let l = line_length 4 x j ends in (l, λ i h. line_within 4 x j ends most_value w i (omega (arith, l)))

-- row j of four goes down column j
pub columns_of_four_more : (g : ℕ → ℕ → ℤ) (n : ℕ) (old new row : List ℤ) (j : ℕ) → j < n → length row ≡ 4
    → ((k : ℕ) → k < 4 → at row k ≡ g j k) → Placed n j (length row) (at row) old new
    → Columns g 4 n (λ j. j) old j → Columns g 4 n (λ j. j) new (j + 1)
columns_of_four_more g n old new row j hj lr is placed =
    columns_more g 4 n (λ j. j) old new j (at row) (own_column n j hj) is
    (subst (λ (m : ℕ). Placed n j m (at row) old new) lr placed)
