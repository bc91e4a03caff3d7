-- Lines that go down their columns one by one: none at first, one more a turn, all at the end; and when all stand, the
-- whole grid is as small as they are.
use mathlib.Core.Path.{◌≡◌, sym, ◌∙◌, ap, subst}
use mathlib.Core.List.{List}
use Prim.Native.Nat.{ℕ, zero, suc, ◌+◌, ◌*◌, ◌/◌, ◌%◌, ◌<◌, ◌≤◌}
use native.Mathlib.Omega.{arith}
use borrow.Author.Count.{below_more}
use lib.ListN.{length}
use lib.IntN.{ℤ, nat_abs}
use Rattle.integers.specs.Sum.{at}
use Rattle.integers.proofs.Grid.{row_inside, column_inside, place_is}
use Rattle.columns.specs.Inner.Placed.{Placed}
use Rattle.stages.proofs.Columns.{columns_more, own_column}
use Rattle.unfold.specs.Inner.Back.{Within}
use Rattle.unstage.specs.Inner.Rows.{Lines}

-- a grid that has a place has a column
has_width : (n w i : ℕ) → i < n * w → 0 < w
has_width n zero i h = absurd (let no : ⊥ = omega arith in no)
has_width n (suc w) i h = omega arith

module _ (g : ℕ → ℕ → ℤ) (b n lines : ℕ) where
  pub lines_none : (dst : List ℤ) → Lines g b n lines dst 0
  lines_none dst =
      record {
        holds = λ j k h. absurd (let no : ⊥ = omega arith in no);
        within = λ j k h. absurd (let no : ⊥ = omega arith in no);
      }

  -- line j goes down its column: f is what is stored
  pub lines_more : (old new : List ℤ) (f : ℕ → ℤ) (j : ℕ) → j < lines → ((k : ℕ) → k < n → f k ≡ g j k)
      → ((k : ℕ) → k < n → nat_abs (f k) ≤ b) → Placed lines j n f old new
      → Lines g b n lines old j → Lines g b n lines new (j + 1)
  lines_more old new f j hj is small placed was =
      record {
        holds = columns_more g n lines (λ j. j) old new j f (own_column lines j hj) is placed was.holds;
        within = λ i k hi hk.
            below_more (λ (i : ℕ). nat_abs (g i k) ≤ b) j (λ i h. was.within i k h hk)
            (subst (λ (z : ℤ). nat_abs z ≤ b) (is k hk) (small k hk))
            i hi;
      }

  pub lines_all : (dst : List ℤ) (j : ℕ) → j ≤ lines → lines ≤ j → Lines g b n lines dst j
      → Lines g b n lines dst lines
  lines_all dst j h k was =
      let e : j ≡ lines = omega arith in subst (λ (m : ℕ). Lines g b n lines dst m) e was

  -- every place of the grid is a place of some line
  pub lines_within : (dst : List ℤ) → length dst ≡ n * lines → Lines g b n lines dst lines → Within b dst
  lines_within dst ln all i hi =
      let h : i < n * lines = omega arith in
      let hl : 0 < lines = has_width n lines i h in
      let j = i % lines in
      let k = i / lines in
      let hj : j < lines = column_inside lines n i hl h in
      let hk : k < n = row_inside lines n i hl h in
      subst (λ (z : ℤ). nat_abs z ≤ b) (sym (all.holds j k hj hk) ∙ ap (at dst) (place_is lines n i hl h))
      (all.within j k hj hk)
