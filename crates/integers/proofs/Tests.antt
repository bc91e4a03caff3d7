-- From a test that was computed over a whole table to the rule at each of its entries.
-- Assumes nothing.
use mathlib.Core.Path.{◌≡◌, refl, ◌∙◌, subst, sym, ap}
use mathlib.Core.Logic.{⊎_elim}
use mathlib.Core.Bool.{Bool, true, false, ◌&&◌, ◌||◌, true≢false}
use mathlib.Core.List.{List, [], ◌∷◌}
use Prim.Native.Nat.{ℕ, zero, suc, ◌+◌, ◌<◌}
use native.Mathlib.Nat.{add-zero, zero-add, add-suc, suc-add, le_of_suc-le-suc, not-suc-le-zero, eq-or-lt_of_le}
use lib.Dec.{T, eqb→eq}
use lib.ListN.{length, get_or}
use lib.IntN.{ℤ, pos, negsuc}
use mir.Facts.{and_yes}
use Rattle.integers.specs.Tests.{all, every, listed, eq_ℤ}

pub all_at : (n : ℕ) (f : ℕ → Bool) → T (all n f) → (i : ℕ) → i < n → T (f i)
unfolding all
all_at zero f t i h = absurd (not-suc-le-zero h)
all_at (suc n) f t i h =
    let b = and_yes (f n) (all n f) t in
    ⊎_elim (λ e. subst (λ (k : ℕ). T (f k)) (sym e) b.0) (λ l. all_at n f b.1 i l)
    (eq-or-lt_of_le (le_of_suc-le-suc h))

module _ {A : Type 0} (d : A) where
  every_from : (f : ℕ → A → Bool) (xs : List A) (i : ℕ) → T (every f i xs) → (k : ℕ) → k < length xs
      → T (f (i + k) (get_or xs k d))
  unfolding every
  every_from f [] i t k h = absurd (not-suc-le-zero h)
  every_from f (x ∷ xs) i t zero h =
      subst (λ (m : ℕ). T (f m x)) (sym (add-zero i)) (and_yes (f i x) (every f (suc i) xs) t).0
  every_from f (x ∷ xs) i t (suc k) h =
      subst (λ (m : ℕ). T (f m (get_or xs k d))) (suc-add i k ∙ sym (add-suc i k))
      (every_from f xs (suc i) (and_yes (f i x) (every f (suc i) xs) t).1 k (le_of_suc-le-suc h))

  pub every_at : (f : ℕ → A → Bool) (xs : List A) → T (every f 0 xs) → (k : ℕ) → k < length xs → T (f k (get_or xs k d))
  every_at f xs t k h = subst (λ (m : ℕ). T (f m (get_or xs k d))) (zero-add k) (every_from f xs 0 t k h)

  listed_from : (f : ℕ → A) (i n k : ℕ) → k < n → get_or (listed f i n) k d ≡ f (i + k)
  unfolding listed
  listed_from f i zero k h = absurd (not-suc-le-zero h)
  listed_from f i (suc n) zero h = ap f (sym (add-zero i))
  listed_from f i (suc n) (suc k) h =
      listed_from f (suc i) n k (le_of_suc-le-suc h) ∙ ap f (suc-add i k ∙ sym (add-suc i k))

  pub listed_at : (f : ℕ → A) (n k : ℕ) → k < n → get_or (listed f 0 n) k d ≡ f k
  listed_at f n k h = listed_from f 0 n k h ∙ ap f (zero-add k)

pub listed_length : {A : Type 0} (f : ℕ → A) (i n : ℕ) → length (listed f i n) ≡ n
unfolding listed
listed_length f i zero = refl
listed_length f i (suc n) = ap suc (listed_length f (suc i) n)

pub eq_ℤ→eq : (a b : ℤ) → T (eq_ℤ a b) → a ≡ b
eq_ℤ→eq (pos a) (pos b) t = ap pos (eqb→eq a b t)
eq_ℤ→eq (pos a) (negsuc b) t = absurd t
eq_ℤ→eq (negsuc a) (pos b) t = absurd t
eq_ℤ→eq (negsuc a) (negsuc b) t = ap negsuc (eqb→eq a b t)

-- ---- tests joined
pub neither : (a b : Bool) → (a || b) ≡ false → (a ≡ false) × (b ≡ false)
neither true b e = absurd (true≢false e)
neither false b e = (refl, e)

pub not_both : (a b : Bool) → (a && b) ≡ false → a ≡ true → b ≡ false
not_both true b e h = e
not_both false b e h = absurd (true≢false (sym h))

pub both : (a b : Bool) → (a && b) ≡ true → (a ≡ true) × (b ≡ true)
both true b e = (refl, e)
both false b e = absurd (true≢false (sym e))
