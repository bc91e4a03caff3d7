-- A list that a loop fills from the front, one store a turn; when all is stored it is the list that was meant.
-- Assumes nothing.
use mathlib.Core.Path.{◌≡◌, ◌∙◌}
use mathlib.Core.List.{List}
use mathlib.Core.Logic.{◌≢◌}
use Prim.Native.Nat.{ℕ, ◌+◌, ◌<◌, ◌≤◌}
use native.Mathlib.Omega.{arith}
use borrow.Author.Count.{below_more}
use lib.ListN.{length, get_or, set}
use lib.Seq.{get_or-set_same, get_or-set_other, ext_get_or}

-- the first k entries are as f says
abbrev pub Filled : {A : Type 0} → A → List A → (ℕ → A) → ℕ → Type 0
Filled d l f k = (j : ℕ) → j < k → get_or l j d ≡ f j

module _ {A : Type 0} (d : A) where
  pub filled_more : (l : List A) (f : ℕ → A) (k : ℕ) (v : A) → k < length l → v ≡ f k → Filled d l f k
      → Filled d (set l k v) f (k + 1)
  filled_more l f k v h e old =
      below_more (λ (j : ℕ). get_or (set l k v) j d ≡ f j) k
      (λ j lt. get_or-set_other l k j v d (apart j lt) ∙ old j lt)
      (get_or-set_same l k v d h ∙ e)
    where
      apart : (j : ℕ) → j < k → j ≢ k
      apart j lt q = omega arith

  pub filled_all : (l m : List A) (k : ℕ) → length l ≡ length m → length l ≤ k → Filled d l (λ j. get_or m j d) k → l ≡ m
  filled_all l m k e h f = ext_get_or d l m e (λ i lt. f i (omega arith))
