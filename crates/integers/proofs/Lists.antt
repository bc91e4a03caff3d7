-- What stands in a list made from another entry by entry, in one of which some entry, or none, passes a test, and in a
-- part of a list.
-- Assumes nothing.
use mathlib.Core.Path.{◌≡◌, refl}
use mathlib.Core.Bool.{Bool, false}
use mathlib.Core.List.{List, [], ◌∷◌, map}
use Prim.Native.Nat.{ℕ, zero, suc, ◌+◌, ◌≤◌, ◌<◌}
use native.Mathlib.Nat.{not-suc-le-zero, le_of_suc-le-suc}
use native.Mathlib.Omega.{arith}
use lib.ListN.{length, get_or, take, drop}
use lib.Seq.{take-take}
use Rattle.integers.specs.Tests.{some}
use Rattle.integers.proofs.Tests.{neither}

pub map_at : {A B : Type 0} (a : A) (b : B) (f : A → B) (l : List A) (k : ℕ) → k < length l
    → get_or (map f l) k b ≡ f (get_or l k a)
map_at a b f [] k h = absurd (not-suc-le-zero h)
map_at a b f (x ∷ xs) zero h = refl
map_at a b f (x ∷ xs) (suc k) h = map_at a b f xs k (le_of_suc-le-suc h)

module _ {A : Type 0} (d : A) (f : A → Bool) where
  -- no entry passes
  pub none_passes : (l : List A) → some f l ≡ false → (k : ℕ) → k < length l → f (get_or l k d) ≡ false
  unfolding some
  none_passes [] e k h = absurd (not-suc-le-zero h)
  none_passes (x ∷ xs) e zero h = (neither (f x) (some f xs) e).0
  none_passes (x ∷ xs) e (suc k) h = none_passes xs (neither (f x) (some f xs) e).1 k (le_of_suc-le-suc h)

  pub passed_by_none : (l : List A) → ((k : ℕ) → k < length l → f (get_or l k d) ≡ false) → some f l ≡ false
  unfolding some
  passed_by_none [] h = refl
  passed_by_none (x ∷ xs) h =
      let e : f x ≡ false = h 0 (omega arith) in rw e (passed_by_none xs (λ k l. h (suc k) (omega arith)))

-- a part that ends in the front is the list's own
pub part_of_front : {A : Type 0} (a m n : ℕ) (l : List A) → a + m ≤ n → take m (drop a (take n l)) ≡ take m (drop a l)
part_of_front zero m n l h = take-take m n l (omega arith)
part_of_front (suc a) m zero l h = absurd (let z : ⊥ = omega arith in z)
part_of_front (suc a) m (suc n) [] h = refl
part_of_front (suc a) m (suc n) (x ∷ xs) h = part_of_front a m n xs (omega arith)
