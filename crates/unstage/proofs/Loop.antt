-- The loop over the lines of a list, as a law over the side N = 2^l: with a turn one line more stands in its column.
-- And what the halves of longer lines are.
use mathlib.Core.Path.{◌≡◌, sym, ◌∙◌, ap, subst}
use mathlib.Core.List.{List}
use Prim.Native.Nat.{ℕ, ◌+◌, ◌*◌, ◌^◌, ◌<◌, ◌≤◌}
use native.Mathlib.Nat.{mul-add}
use native.Mathlib.Omega.{arith}
use borrow.Author.Count.{below_more}
use lib.ListN.{length}
use lib.IntN.{ℤ, nat_abs, ◌*ℤ◌}
use Rattle.integers.specs.Sum.{on_ℤ, at}
use Rattle.integers.proofs.Sums.{sum_ext}
use Rattle.integers.proofs.Grid.{inside}
use Rattle.tables.specs.Matrix.{matrix}
use Rattle.columns.specs.Inner.Placed.{Placed}
use Rattle.stages.proofs.Columns.{line, line_at_lem}
use Rattle.unfold.specs.Inner.Back.{value_at, odd_at, Parted, Back, most_value}
use Rattle.unfold.proofs.Line.{coefficient_within}
use Rattle.unstage.specs.Inner.Rows.{line_value, Small, Lines}
use Rattle.unstage.proofs.Lines.{lines_more}

-- the part that is handed on has the coefficients of line j
pub line_values : (N : ℕ) (src : List ℤ) (j n : ℕ) → value_at matrix N (at (line N src j)) n ≡ line_value N src j n
unfolding value_at
line_values N src j n =
    sum_ext on_ℤ N (λ k. matrix N k n *ℤ at (line N src j) k) (λ k. matrix N k n *ℤ at src (j * N + k))
    (λ k hk. ap (λ (z : ℤ). matrix N k n *ℤ z) (line_at_lem N src j k hk))

-- line j of side N = 2^l goes down its column from a row that holds its values
pub values_more : (l N : ℕ) (side : N ≡ 2 ^ l) (src : List ℤ) (j lines : ℕ) (old new row : List ℤ) → j < lines
    → length row ≡ N → Back l (line N src j) row → Placed lines j (length row) (at row) old new
    → Lines (line_value (2 ^ l) src) most_value (2 ^ l) lines old j
    → Lines (line_value (2 ^ l) src) most_value (2 ^ l) lines new (j + 1)
values_more l N side src j lines old new row hj lr back placed =
    lines_more (line_value (2 ^ l) src) most_value (2 ^ l) lines old new (at row) j hj
    (λ k hk.
    back.holds k hk
    ∙ subst (λ (m : ℕ). value_at matrix (2 ^ l) (at (line m src j)) k ≡ line_value (2 ^ l) src j k) (sym side)
    (line_values (2 ^ l) src j k))
    back.within (subst (λ (m : ℕ). Placed lines j m (at row) old new) (lr ∙ side) placed)

-- ---- lines of side 2h by halves: the even coefficients of line j, or both halves of it
module _ (h : ℕ) (src : List ℤ) (j : ℕ) where
  pub even_line : (e o : List ℤ) → length e ≡ h → Parted (line (h + h) src j) e o → (n : ℕ)
      → value_at matrix h (at e) n ≡ value_at matrix h (λ k. at src (j * (h + h) + 2 * k)) n
  unfolding value_at
  even_line e o le parted n =
      sum_ext on_ℤ h (λ k. matrix h k n *ℤ at e k) (λ k. matrix h k n *ℤ at src (j * (h + h) + 2 * k))
      (λ k hk.
      ap (λ (z : ℤ). matrix h k n *ℤ z)
      (parted.evens k (omega arith) ∙ line_at_lem (h + h) src j (2 * k) (omega arith)))

  pub odd_line : (n : ℕ) → odd_at matrix h (λ k. at (line (h + h) src j) (2 * k + 1)) n
      ≡ odd_at matrix h (λ k. at src (j * (h + h) + (2 * k + 1))) n
  unfolding odd_at
  odd_line n =
      sum_ext on_ℤ h (λ k. matrix (h + h) (2 * k + 1) n *ℤ at (line (h + h) src j) (2 * k + 1))
      (λ k. matrix (h + h) (2 * k + 1) n *ℤ at src (j * (h + h) + (2 * k + 1)))
      (λ k hk.
      ap (λ (z : ℤ). matrix (h + h) (2 * k + 1) n *ℤ z) (line_at_lem (h + h) src j (2 * k + 1) (omega arith)))

  -- one line more is known to have 16 bits
  pub small_more : ((k : ℕ) → k < h + h → nat_abs (at (line (h + h) src j) k) ≤ 32768) → Small (h + h) src j
      → Small (h + h) src (j + 1)
  small_more small was i k hi hk =
      below_more (λ (i : ℕ). nat_abs (at src (i * (h + h) + k)) ≤ 32768) j (λ i hi. was i k hi hk)
      (subst (λ (z : ℤ). nat_abs z ≤ 32768) (line_at_lem (h + h) src j k hk) (small k hk)) i hi

-- ---- all lines of side 2h in two parts at once: es and os have the even and the odd coefficients of every line
module _ (h lines : ℕ) (src es os : List ℤ) (le : length es ≡ lines * h) (parted : Parted src es os) where
  pub all_even : (j n : ℕ) → j < lines → line_value h es j n ≡ value_at matrix h (λ k. at src (j * (h + h) + 2 * k)) n
  unfolding value_at
  all_even j n hj =
      sum_ext on_ℤ h (λ k. matrix h k n *ℤ at es (j * h + k)) (λ k. matrix h k n *ℤ at src (j * (h + h) + 2 * k))
      (λ k hk.
      ap (λ (z : ℤ). matrix h k n *ℤ z)
      (parted.evens (j * h + k) (omega (arith, inside h j k hk lines hj))
      ∙ ap (at src) (let e : 2 * (j * h + k) ≡ j * (h + h) + 2 * k = omega (arith, mul-add j h h) in e)))

  pub all_odd : (j n : ℕ) → j < lines
      → odd_at matrix h (λ k. at os (j * h + k)) n ≡ odd_at matrix h (λ k. at src (j * (h + h) + (2 * k + 1))) n
  unfolding odd_at
  all_odd j n hj =
      sum_ext on_ℤ h (λ k. matrix (h + h) (2 * k + 1) n *ℤ at os (j * h + k))
      (λ k. matrix (h + h) (2 * k + 1) n *ℤ at src (j * (h + h) + (2 * k + 1)))
      (λ k hk.
      ap (λ (z : ℤ). matrix (h + h) (2 * k + 1) n *ℤ z)
      (parted.odds (j * h + k) (omega (arith, inside h j k hk lines hj))
      ∙ ap (at src) (let e : 2 * (j * h + k) + 1 ≡ j * (h + h) + (2 * k + 1) = omega (arith, mul-add j h h) in e)))

  pub all_small : Small (h + h) src lines
  all_small j k hj hk =
      coefficient_within (lines * h) src es os le parted (j * (h + h) + k)
      (omega (arith, inside (h + h) j k hk lines hj, mul-add lines h h))
