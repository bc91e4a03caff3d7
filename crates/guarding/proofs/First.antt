-- The first entry of a list that passes a test. If some entry passes, it passes itself, and it stands at a place before
-- which none does. What `some` says of each entry when none passes is `none_passes` of integers.
use mathlib.Core.Path.{◌≡◌, refl, sym, ◌∙◌}
use mathlib.Core.Bool.{Bool, true, false, ◌||◌, true≢false}
use mathlib.Core.List.{List, [], ◌∷◌}
use Prim.Native.Nat.{ℕ, zero, suc, ◌<◌}
use native.Mathlib.Nat.{not-suc-le-zero, le_of_suc-le-suc}
use native.Mathlib.Omega.{arith}
use lib.ListN.{length, get_or}
use Rattle.integers.specs.Tests.{some}
use Rattle.guarding.specs.Block.{first_where}

module _ {A : Type 0} (f : A → Bool) (a : A) where
  -- ---- at the front
  pub head_first : (b : A) (bs : List A) → f b ≡ true → first_where f a (b ∷ bs) ≡ b
  unfolding first_where
  head_first b bs t = rw t

  pub head_passed_over : (b : A) (bs : List A) → f b ≡ false → first_where f a (b ∷ bs) ≡ first_where f a bs
  unfolding first_where
  head_passed_over b bs t = rw t

  rest_has_one : (b : A) (bs : List A) → f b ≡ false → some f (b ∷ bs) ≡ true → some f bs ≡ true
  unfolding some
  rest_has_one b bs t e = rw t at e

  -- ---- where it stands
  abbrev pub FirstPlace : List A → Type 0
  FirstPlace l =
      (k : ℕ) × (k < length l) × (get_or l k a ≡ first_where f a l) × ((j : ℕ) → j < k → f (get_or l j a) ≡ false)

  behind : (b : A) (bs : List A) → f b ≡ false → FirstPlace bs → FirstPlace (b ∷ bs)
  behind b bs t q = (suc q.0, omega (arith, q.1), q.2 ∙ sym (head_passed_over b bs t), none)
    where
      none : (j : ℕ) → j < suc q.0 → f (get_or (b ∷ bs) j a) ≡ false
      none zero h = t
      none (suc j) h = q.3 j (le_of_suc-le-suc h)

  pub first_place : (l : List A) → some f l ≡ true → FirstPlace l
  unfolding some
  first_place [] e = absurd (true≢false (sym e))
  first_place (b ∷ bs) e = split (f b) refl (first_place bs)
    where
      split : (t : Bool) → f b ≡ t → (some f bs ≡ true → FirstPlace bs) → FirstPlace (b ∷ bs)
      split true t rest = (0, omega arith, sym (head_first b bs t), λ j h. absurd (not-suc-le-zero h))
      split false t rest = behind b bs t (rest (rest_has_one b bs t e))

  pub first_passes : (l : List A) → some f l ≡ true → f (first_where f a l) ≡ true
  unfolding some
  first_passes [] e = absurd (true≢false (sym e))
  first_passes (b ∷ bs) e = split (f b) refl (first_passes bs)
    where
      split : (t : Bool) → f b ≡ t → (some f bs ≡ true → f (first_where f a bs) ≡ true)
          → f (first_where f a (b ∷ bs)) ≡ true
      split true t rest = rw (head_first b bs t) t
      split false t rest = rw (head_passed_over b bs t) (rest (rest_has_one b bs t e))

  -- ---- and back: what passes at a place before which none does is the first
  pub first_is : (l : List A) (k : ℕ) → k < length l → f (get_or l k a) ≡ true
      → ((j : ℕ) → j < k → f (get_or l j a) ≡ false) → first_where f a l ≡ get_or l k a
  first_is [] k h t none = absurd (not-suc-le-zero h)
  first_is (b ∷ bs) zero h t none = head_first b bs t
  first_is (b ∷ bs) (suc k) h t none =
      head_passed_over b bs (none 0 (omega arith))
      ∙ first_is bs k (le_of_suc-le-suc h) t (λ j l. none (suc j) (omega arith))

  pub some_passes : (l : List A) (k : ℕ) → k < length l → f (get_or l k a) ≡ true → some f l ≡ true
  unfolding some
  some_passes [] k h t = absurd (not-suc-le-zero h)
  some_passes (b ∷ bs) zero h t = rw t
  some_passes (b ∷ bs) (suc k) h t = split (f b) (some_passes bs k (le_of_suc-le-suc h) t)
    where
      split : (t : Bool) → some f bs ≡ true → (t || some f bs) ≡ true
      split true e = refl
      split false e = e
