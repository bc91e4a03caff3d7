-- Lines that go down their columns one by one. The part of a list of lines that is handed on is line j, and it has the
-- room that the list has.
use mathlib.Core.Path.{◌≡◌, refl, sym, ◌∙◌, ap, subst}
use mathlib.Core.Logic.{◌≢◌}
use mathlib.Core.List.{List}
use Prim.Native.Nat.{ℕ, zero, suc, ◌+◌, ◌-◌, ◌*◌, ◌/◌, ◌%◌, ◌^◌, ◌<◌, ◌≤◌}
use native.Mathlib.Nat.{mul_assoc, mul_comm, add-mul}
use native.Mathlib.Omega.{arith}
use borrow.Author.Count.{below_more}
use lib.ListN.{length, take, drop, length-take, length-drop}
use lib.Seq.{get_or-take, get_or-drop}
use lib.IntN.{ℤ, pos, nat_abs, ◌*ℤ◌}
use Rattle.integers.specs.Sum.{on_ℤ, at}
use Rattle.integers.proofs.Sums.{sum_ext}
use Rattle.tables.specs.Matrix.{Matrices}
use Rattle.butterfly.specs.Inner.Lines.{line_at, Room}
use Rattle.columns.specs.Inner.Placed.{Placed}
use Rattle.stages.specs.Inner.Stages.{stage_at, Columns}

-- ---- lines
module _ (N : ℕ) (src : List ℤ) (j : ℕ) where
  abbrev pub line : List ℤ
  line = take (j * N + N - j * N) (drop (j * N) src)

  pub line_at_lem : (n : ℕ) → n < N → at line n ≡ at src (j * N + n)
  line_at_lem n h =
      get_or-take (j * N + N - j * N) (drop (j * N) src) n (pos 0) (omega arith) ∙ get_or-drop (j * N) src n (pos 0)

  pub line_is : (M : Matrices) (k : ℕ) → line_at M N line k ≡ stage_at M N src j k
  unfolding line_at stage_at
  line_is M k =
      sum_ext on_ℤ N (λ n. M N k n *ℤ at line n) (λ n. M N k n *ℤ at src (j * N + n))
      (λ n h. ap (λ (z : ℤ). M N k n *ℤ z) (line_at_lem n h))

  module _ (ends : j * N + N ≤ length src) where
    pub line_length : length line ≡ N
    line_length = simp (length-take, length-drop) (omega arith)

    pub line_within : (b : ℕ) → ((i : ℕ) → i < length src → nat_abs (at src i) ≤ b) → (i : ℕ) → i < N
        → nat_abs (at line i) ≤ b
    line_within b w i h = subst (λ (z : ℤ). nat_abs z ≤ b) (sym (line_at_lem i h)) (w (j * N + i) (omega arith))

    pub line_room : (l : ℕ) → Room l src → Room l line
    line_room l r =
        record {
          most = r.most;
          each = λ i h. line_within r.most r.each i (omega (arith, line_length));
          room = r.room;
        }

-- one more line down its column
pub columns_more : (g : ℕ → ℕ → ℤ) (n w : ℕ) (column : ℕ → ℕ) (old new : List ℤ) (j : ℕ) (f : ℕ → ℤ)
    → ((i : ℕ) → i < j → (column i < w) × (column i ≢ column j)) → ((k : ℕ) → k < n → f k ≡ g j k)
    → Placed w (column j) n f old new → Columns g n w column old j → Columns g n w column new (j + 1)
columns_more g n w column old new j f other e p was i k hi hk =
    below_more (λ (i : ℕ). at new (k * w + column i) ≡ g i k) j
    (λ i h. p.kept k (column i) (other i h).0 (other i h).1 ∙ was i k h hk)
    (p.holds k hk ∙ e k hk)
    i hi

-- the columns of the lines themselves
pub own_column : (lines j : ℕ) → j < lines → (i : ℕ) → i < j → (i < lines) × (i ≢ j)
own_column lines j hj i h = (omega arith, λ e. omega arith)

-- the same in a grid of twice the width, on the left and on the right
pub left_column : (lines j : ℕ) → j < lines → (i : ℕ) → i < j → (i < 2 * lines) × (i ≢ j)
left_column lines j hj i h = (omega arith, λ e. omega arith)

pub right_column : (lines j : ℕ) → j < lines → (i : ℕ) → i < j → (lines + i < 2 * lines) × (lines + i ≢ lines + j)
right_column lines j hj i h = (omega arith, λ e. omega arith)

-- the even rows on the left and the odd rows on the right are all rows
pub all_rows : (g : ℕ → ℕ → ℤ) (n lines : ℕ) (dst : List ℤ) (m : ℕ)
    → Columns (λ j k. g j (2 * k)) n (2 * lines) (λ j. j) dst m
    → Columns (λ j k. g j (2 * k + 1)) n (2 * lines) (λ j. lines + j) dst m
    → Columns g (n + n) lines (λ j. j) dst m
all_rows g n lines dst m evens odds j k hj hk = by_parity (k % 2) refl
  where
    by_parity : (r : ℕ) → k % 2 ≡ r → at dst (k * lines + j) ≡ g j k
    by_parity zero q =
        let e : k ≡ 2 * (k / 2) = omega arith in
        ap (at dst) (let i : k * lines + j ≡ k / 2 * (2 * lines) + j = omega (
          arith,
          ap (λ (v : ℕ). v * lines) e,
          mul_assoc 2 (k / 2) lines,
          mul_comm 2 lines,
          mul_assoc (k / 2) lines 2,
          mul_comm (k / 2 * lines) 2,
        ) in i)
        ∙ evens j (k / 2) hj (omega arith)
        ∙ ap (g j) (sym e)
    by_parity (suc zero) q =
        let e : k ≡ 2 * (k / 2) + 1 = omega arith in
        ap (at dst) (let i : k * lines + j
        ≡ k / 2 * (2 * lines) + (lines + j) =
        omega (
          arith,
          ap (λ (v : ℕ). v * lines) e,
          add-mul (2 * (k / 2)) 1 lines,
          mul_assoc 2 (k / 2) lines,
          mul_comm 2 lines,
          mul_assoc (k / 2) lines 2,
          mul_comm (k / 2 * lines) 2,
        ) in i)
        ∙ odds j (k / 2) hj (omega arith)
        ∙ ap (g j) (sym e)
    by_parity (suc (suc r)) q = absurd (let no : ⊥ = omega arith in no)

-- what a stage of side 2^l asks, from that of side 2^log2
pub handed : (log2 l lines : ℕ) (src dst : List ℤ) → log2 ≡ l → lines ≤ 32 → length src ≡ lines * 2 ^ log2
    → length dst ≡ 2 ^ log2 * lines → Room log2 src
    → (lines ≤ 32) × (length src ≡ lines * 2 ^ l) × (length dst ≡ 2 ^ l * lines) × Room l src
handed log2 l lines src dst e h s d r =
    (h, s ∙ ap (λ (m : ℕ). lines * 2 ^ m) e, d ∙ ap (λ (m : ℕ). 2 ^ m * lines) e, subst (λ (m : ℕ). Room m src) e r)
