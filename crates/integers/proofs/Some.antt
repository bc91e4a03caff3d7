-- A test for some entry of a list: entry by entry as a loop makes it, and what it says of each entry when none passes.
-- Assumes nothing.
use mathlib.Core.Path.{◌≡◌, refl, sym, ◌∙◌, ap}
use mathlib.Core.Bool.{Bool, true, false, not, ◌||◌}
use mathlib.Core.List.{List, [], ◌∷◌}
use Prim.Native.Nat.{ℕ, zero, suc, ◌+◌, ◌<◌, ◌≤◌}
use native.Mathlib.Nat.{not-suc-le-zero, le_of_suc-le-suc}
use native.Mathlib.Numerals.{add-one}
use native.Mathlib.Omega.{arith}
use lib.Dec.{T, ltb, ltb→lt, lt→ltb, nltb→le}
use lib.ListN.{length, get_or, take}
use lib.IntN.{ℤ, pos, negsuc, nat_abs}
use lib.Signed.{lt_z}
use Rattle.integers.specs.Tests.{some}
use Rattle.integers.proofs.Lists.{none_passes}

or_assoc : (a b c : Bool) → (a || (b || c)) ≡ ((a || b) || c)
or_assoc true b c = refl
or_assoc false b c = refl

module _ {A : Type 0} (d : A) (f : A → Bool) where
  more : (xs : List A) (k : ℕ) → k < length xs → some f (take (suc k) xs) ≡ (some f (take k xs) || f (get_or xs k d))
  unfolding some
  more [] k h = absurd (not-suc-le-zero h)
  more (x ∷ xs) zero h = or_false (f x)
    where
      or_false : (b : Bool) → (b || false) ≡ (false || b)
      or_false true = refl
      or_false false = refl
  more (x ∷ xs) (suc k) h =
      ap (λ (b : Bool). f x || b) (more xs k (le_of_suc-le-suc h))
      ∙ or_assoc (f x) (some f (take k xs)) (f (get_or xs k d))

  pub some_more : (xs : List A) (k : ℕ) → k < length xs
      → some f (take (k + 1) xs) ≡ (some f (take k xs) || f (get_or xs k d))
  some_more xs k h = rw add-one (more xs k h)

  pub some_none : (xs : List A) → some f (take 0 xs) ≡ false
  unfolding some
  some_none xs = refl

same_truth : (a b : Bool) → (T a → T b) → (T b → T a) → (a || false) ≡ b
same_truth true true f g = refl
same_truth true false f g = absurd (f tt)
same_truth false true f g = absurd (g tt)
same_truth false false f g = refl

-- below -(n + 1) or above n + 1, by the magnitude
pub outside_is : (n : ℕ) (z : ℤ) → (lt_z z (negsuc n) || lt_z (pos (suc n)) z) ≡ ltb (suc n) (nat_abs z)
outside_is n (pos a) = refl
outside_is n (negsuc a) =
    same_truth (ltb n a) (ltb (suc n) (suc a))
    (λ t. lt→ltb (suc n) (suc a) (omega (arith, ltb→lt n a t)))
    (λ t. lt→ltb n a (omega (arith, ltb→lt (suc n) (suc a) t)))

-- one turn of a loop that looks for a magnitude above n + 1
pub search_more : (n : ℕ) (xs : List ℤ) (k : ℕ) → k < length xs → (found : Bool)
    → found ≡ some (λ z. ltb (suc n) (nat_abs z)) (take k xs) → (z : ℤ) → z ≡ get_or xs k (pos 0)
    → ((found || lt_z z (negsuc n)) || lt_z (pos (suc n)) z) ≡ some (λ z. ltb (suc n) (nat_abs z)) (take (k + 1) xs)
search_more n xs k h found e z q =
    sym (or_assoc found (lt_z z (negsuc n)) (lt_z (pos (suc n)) z))
    ∙ ap (λ (b : Bool). found || b) (outside_is n z ∙ ap (λ (y : ℤ). ltb (suc n) (nat_abs y)) q)
    ∙ ap (λ (b : Bool). b || ltb (suc n) (nat_abs (get_or xs k (pos 0)))) e
    ∙ sym (some_more (pos 0) (λ z. ltb (suc n) (nat_abs z)) xs k h)

-- the magnitudes when none is found
pub none_above : (n : ℕ) (xs : List ℤ) → some (λ z. ltb n (nat_abs z)) xs ≡ false → (k : ℕ) → k < length xs
    → nat_abs (get_or xs k (pos 0)) ≤ n
none_above n xs e k h =
    nltb→le n (nat_abs (get_or xs k (pos 0)))
    (no (ltb n (nat_abs (get_or xs k (pos 0)))) (none_passes (pos 0) (λ z. ltb n (nat_abs z)) xs e k h))
  where
    no : (b : Bool) → b ≡ false → T (not b)
    no true q = absurd (let z : ◌≡◌ {A = ℕ} 0 1 = cc in let none : ⊥ = omega arith in none)
    no false q = tt
