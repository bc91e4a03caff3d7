-- Two rows of a grid that become their sum and their difference, place by place; and all rows of a grid, two by two
-- from the first and the last to the middle.
use mathlib.Core.Path.{◌≡◌, refl, sym, ◌∙◌, ap}
use mathlib.Core.List.{List}
use Prim.Native.Nat.{ℕ, suc, ◌+◌, ◌-◌, ◌*◌, ◌<◌, ◌≤◌}
use native.Mathlib.Nat.{mul-le-mul_right, suc-mul}
use native.Mathlib.Omega.{arith}
use borrow.Author.Count.{below_none, below_more}
use lib.ListN.{length, length-set, set}
use lib.Seq.{get_or-set_same, get_or-set_other}
use lib.IntN.{ℤ, pos, ◌+ℤ◌, ◌-ℤ◌}
use Rattle.integers.specs.Sum.{at}
use Rattle.integers.proofs.Grid.{inside}
use Rattle.unstage.specs.Inner.Rows.{Unfolded, RowsUnfolded}

pub rows_none : (a c : ℕ) (l : List ℤ) → RowsUnfolded a c 0 l l
rows_none a c l =
    record {
      near = below_none _;
      far = below_none _;
      before = λ p h. refl;
      between = λ p h g. refl;
      behind = λ p h. refl;
    }

-- one place more, where v and w are stored
module _ (a c i : ℕ) (old mid : List ℤ) (v w : ℤ) (apart : a + i < c) (ends : c + i < length mid) where
  stored : List ℤ
  stored = set (set mid (a + i) v) (c + i) w

  kept : (p : ℕ) → (p ≡ a + i → ⊥) → (p ≡ c + i → ⊥) → at stored p ≡ at mid p
  unfolding stored
  kept p near far =
      get_or-set_other (set mid (a + i) v) (c + i) p w (pos 0) far ∙ get_or-set_other mid (a + i) p v (pos 0) near

  pub rows_more : v ≡ at old (a + i) +ℤ at old (c + i) → w ≡ at old (a + i) -ℤ at old (c + i)
      → RowsUnfolded a c i old mid → RowsUnfolded a c (i + 1) old (set (set mid (a + i) v) (c + i) w)
  unfolding stored
  rows_more ev ew was =
      record {
        near =
            below_more (λ (j : ℕ). at stored (a + j) ≡ at old (a + j) +ℤ at old (c + j)) i
            (λ j h. kept (a + j) (λ e. omega arith) (λ e. omega arith) ∙ was.near j h)
            (get_or-set_other (set mid (a + i) v) (c + i) (a + i) w (pos 0) (λ e. omega arith)
            ∙ get_or-set_same mid (a + i) v (pos 0) (omega arith)
            ∙ ev);
        far =
            below_more (λ (j : ℕ). at stored (c + j) ≡ at old (a + j) -ℤ at old (c + j)) i
            (λ j h. kept (c + j) (λ e. omega arith) (λ e. omega arith) ∙ was.far j h)
            (get_or-set_same (set mid (a + i) v) (c + i) w (pos 0) (omega (arith, length-set mid (a + i) v)) ∙ ew);
        before = λ p h. kept p (λ e. omega arith) (λ e. omega arith) ∙ was.before p h;
        between = λ p h g. kept p (λ e. omega arith) (λ e. omega arith) ∙ was.between p (omega arith) g;
        behind = λ p h. kept p (λ e. omega arith) (λ e. omega arith) ∙ was.behind p (omega arith);
      }

-- the first n rows and the last n are unfolded, those between are as they were
pub record UnfoldedTo (h lines : ℕ) (old new : List ℤ) (n : ℕ) : Type 0 where
  pub near : (i j : ℕ) → i < n → j < lines
      → at new (i * lines + j) ≡ at old (i * lines + j) +ℤ at old ((h + h - 1 - i) * lines + j)
  pub far : (i j : ℕ) → i < n → j < lines
      → at new ((h + h - 1 - i) * lines + j) ≡ at old (i * lines + j) -ℤ at old ((h + h - 1 - i) * lines + j)
  pub kept : (p : ℕ) → n * lines ≤ p → p < (h + h - n) * lines → at new p ≡ at old p

pub unfolded_none : (h lines : ℕ) (l : List ℤ) → UnfoldedTo h lines l l 0
unfolded_none h lines l =
    record {
      near = λ i j hi. absurd (let no : ⊥ = omega arith in no);
      far = λ i j hi. absurd (let no : ⊥ = omega arith in no);
      kept = λ p a b. refl;
    }

pub unfolded_all : (h lines : ℕ) (old new : List ℤ) (n : ℕ) → h ≤ n → UnfoldedTo h lines old new n
    → Unfolded h lines old new
unfolded_all h lines old new n e was =
    record {
      near = λ i j hi. was.near i j (omega arith);
      far = λ i j hi. was.far i j (omega arith);
    }

-- row n and its mirror image
module _ (h lines n : ℕ) (hn : n < h) where
  abbrev mirror : ℕ
  mirror = h + h - 1 - n

  pub mirror_behind : n * lines + lines ≤ mirror * lines
  mirror_behind =
      let le : suc n ≤ mirror = omega arith in omega (arith, mul-le-mul_right lines le, suc-mul n lines)

  pub mirror_ends : mirror * lines + lines ≡ (h + h - n) * lines
  mirror_ends =
      let e : suc mirror ≡ h + h - n = omega arith in sym (suc-mul mirror lines) ∙ ap (λ (m : ℕ). m * lines) e

  pub mirror_inside : mirror * lines + lines ≤ (h + h) * lines
  mirror_inside =
      let le : h + h - n ≤ h + h = omega arith in omega (arith, mul-le-mul_right lines le, mirror_ends)

  module _ (old mid : List ℤ) (was : UnfoldedTo h lines old mid n) where
    -- neither was touched so far
    pub row_kept : (j : ℕ) → j < lines → at mid (n * lines + j) ≡ at old (n * lines + j)
    row_kept j hj = was.kept (n * lines + j) (omega arith) (omega (arith, mirror_behind, mirror_ends))

    pub mirror_kept : (j : ℕ) → j < lines → at mid (mirror * lines + j) ≡ at old (mirror * lines + j)
    mirror_kept j hj = was.kept (mirror * lines + j) (omega (arith, mirror_behind)) (omega (arith, mirror_ends))

    pub unfolded_more : (new : List ℤ) → RowsUnfolded (n * lines) (mirror * lines) lines mid new
        → UnfoldedTo h lines old new (n + 1)
    unfolded_more new r =
        record {
          near = λ i j hi hj.
              below_more
              (λ (i : ℕ). at new (i * lines + j) ≡ at old (i * lines + j) +ℤ at old ((h + h - 1 - i) * lines + j)) n
              (λ i g. r.before (i * lines + j) (inside lines i j hj n g) ∙ was.near i j g hj)
              (r.near j hj
              ∙ ap (λ (z : ℤ). z +ℤ at mid (mirror * lines + j)) (row_kept j hj)
              ∙ ap (λ (z : ℤ). at old (n * lines + j) +ℤ z) (mirror_kept j hj))
              i hi;
          far = λ i j hi hj.
              below_more
              (λ (i : ℕ). at new ((h + h - 1 - i) * lines + j)
              ≡ at old (i * lines + j) -ℤ at old ((h + h - 1 - i) * lines + j)) n
              (λ i g. r.behind ((h + h - 1 - i) * lines + j) (further i j g) ∙ was.far i j g hj)
              (r.far j hj
              ∙ ap (λ (z : ℤ). z -ℤ at mid (mirror * lines + j)) (row_kept j hj)
              ∙ ap (λ (z : ℤ). at old (n * lines + j) -ℤ z) (mirror_kept j hj))
              i hi;
          kept = λ p a b.
              let e : h + h - (n + 1) ≡ mirror = omega arith in
              r.between p (omega (arith, suc-mul n lines)) (omega (arith, ap (λ (m : ℕ). m * lines) e))
              ∙ was.kept p (omega (arith, suc-mul n lines))
              (omega (arith, ap (λ (m : ℕ). m * lines) e, mirror_ends));
        }
      where
        further : (i j : ℕ) → i < n → mirror * lines + lines ≤ (h + h - 1 - i) * lines + j
        further i j g =
            let le : h + h - n ≤ h + h - 1 - i = omega arith in
            omega (arith, mul-le-mul_right lines le, mirror_ends)
