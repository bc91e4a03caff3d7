-- Stores down a column of a grid, one by one: a store keeps the other rows and the other columns, and its place lies
-- inside the grid.
use mathlib.Core.Path.{◌≡◌, refl, ◌∙◌}
use mathlib.Core.Logic.{◌≢◌}
use mathlib.Core.List.{List}
use Prim.Native.Nat.{ℕ, ◌+◌, ◌*◌, ◌<◌, ◌≤◌}
use native.Mathlib.Omega.{arith}
use borrow.Author.Count.{below_none, below_more}
use lib.ListN.{length, get_or, set}
use lib.Seq.{get_or-set_same, get_or-set_other}
use lib.IntN.{ℤ, pos}
use Rattle.integers.proofs.Grid.{inside, rows_apart, columns_apart}
use Rattle.columns.specs.Inner.Placed.{PlacedOf, Placed}

pub placed_of_none : {A : Type 0} (d : A) (w c : ℕ) (f : ℕ → A) (l : List A) → PlacedOf d w c 0 f l l
placed_of_none d w c f l = record { holds = below_none _; kept = λ k d h n. refl }

pub placed_of_more : {A : Type 0} (d : A) (w c k : ℕ) (f : ℕ → A) (old mid : List A) (v : A) → c < w
    → k * w + c < length mid → v ≡ f k → PlacedOf d w c k f old mid
    → PlacedOf d w c (k + 1) f old (set mid (k * w + c) v)
placed_of_more d w c k f old mid v hc hk e p =
    record {
      holds =
          below_more (λ (i : ℕ). get_or (set mid (k * w + c) v) (i * w + c) d ≡ f i) k
          (λ i h. get_or-set_other mid (k * w + c) (i * w + c) v d (rows_apart w i c hc k (apart i h))
          ∙ p.holds i h)
          (get_or-set_same mid (k * w + c) v d hk ∙ e);
      kept = λ i j hj n.
          get_or-set_other mid (k * w + c) (i * w + j) v d (columns_apart w i j hj k c hc n) ∙ p.kept i j hj n;
    }
  where
    apart : (i : ℕ) → i < k → i ≢ k
    apart i h q = omega arith

-- the same of numbers
pub placed_more : (w c k : ℕ) (f : ℕ → ℤ) (old mid : List ℤ) (v : ℤ) → c < w → k * w + c < length mid → v ≡ f k
    → Placed w c k f old mid → Placed w c (k + 1) f old (set mid (k * w + c) v)
placed_more = placed_of_more (pos 0)

pub place_below : (w c k n m : ℕ) → c < w → k < n → n * w ≤ m → k * w + c < m
place_below w c k n m hc hk h = omega (arith, inside w k c hc n hk)
