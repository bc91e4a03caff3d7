-- An integer by its two parts, above and below 0, of which one is 0. Linear facts on integers become facts on naturals,
-- which `omega` proves: it does not read the integers themselves.
-- Assumes nothing.
use mathlib.Core.Path.{◌≡◌, refl, sym, ◌∙◌, ap}
use mathlib.Core.Bool.{Bool, true, false, not, cond}
use Prim.Native.Nat.{ℕ, zero, suc, ◌+◌, ◌*◌, ◌-◌, ◌≤◌}
use native.Mathlib.Nat.{zero-mul, add-mul, mul-le-mul_right}
use native.Mathlib.Omega.{arith}
use lib.Dec.{T, ltb, ltb→lt, nltb→le, le→leb, leb→le}
use lib.IntN.{ℤ, pos, negsuc, neg_ℤ, sub_ℕ, ◌+ℤ◌, ◌*ℤ◌}
use lib.Signed.{◌≤ℤ◌}

unfoldable pub above : ℤ → ℕ
above (pos n) = n
above (negsuc n) = 0

unfoldable pub below : ℤ → ℕ
below (pos n) = 0
below (negsuc n) = suc n

-- a choice has what both its sides have
pub of_choice : (c : Bool) (x y : ℤ) (P : ℤ → Type 0) → (T c → P x) → (T (not c) → P y) → P (cond c x y)
of_choice true x y P f g = f tt
of_choice false x y P f g = g tt

difference_parts : (a b : ℕ) → above (sub_ℕ a b) + b ≡ below (sub_ℕ a b) + a
unfolding above below
difference_parts a b =
    of_choice (ltb a b) (negsuc (b - suc a)) (pos (a - b)) (λ (z : ℤ). above z + b ≡ below z + a)
    (λ t. omega (arith, ltb→lt a b t))
    (λ t. omega (arith, nltb→le a b t))

pub +-parts : (a b : ℤ) → above (a +ℤ b) + (below a + below b) ≡ below (a +ℤ b) + (above a + above b)
unfolding above below
+-parts (pos a) (pos b) = omega arith
+-parts (pos a) (negsuc b) = omega (arith, difference_parts a (suc b))
+-parts (negsuc a) (pos b) = omega (arith, difference_parts b (suc a))
+-parts (negsuc a) (negsuc b) = omega arith

pub neg_above : (a : ℤ) → above (neg_ℤ a) ≡ below a
unfolding above below
neg_above (pos zero) = refl
neg_above (pos (suc n)) = refl
neg_above (negsuc n) = refl

pub neg_below : (a : ℤ) → below (neg_ℤ a) ≡ above a
unfolding above below
neg_below (pos zero) = refl
neg_below (pos (suc n)) = refl
neg_below (negsuc n) = refl

-- an equation and an order from those of the parts
pub eq_of_parts : (a b : ℤ) → above a + below b ≡ above b + below a → a ≡ b
unfolding above below
eq_of_parts (pos a) (pos b) e = ap pos (omega arith)
eq_of_parts (pos a) (negsuc b) e = absurd (let z : ⊥ = omega arith in z)
eq_of_parts (negsuc a) (pos b) e = absurd (let z : ⊥ = omega arith in z)
eq_of_parts (negsuc a) (negsuc b) e = ap negsuc (omega arith)

pub le_of_parts : (a b : ℤ) → above a + below b ≤ above b + below a → a ≤ℤ b
unfolding above below
le_of_parts (pos a) (pos b) h = record { le = le→leb a b (omega arith) }
le_of_parts (pos a) (negsuc b) h = absurd (let z : ⊥ = omega arith in z)
le_of_parts (negsuc a) (pos b) h = record { le = tt }
le_of_parts (negsuc a) (negsuc b) h = record { le = le→leb b a (omega arith) }

pub parts_of_le : {a b : ℤ} → a ≤ℤ b → above a + below b ≤ above b + below a
unfolding above below
parts_of_le {a = pos a} {b = pos b} h = omega (arith, leb→le a b h.le)
parts_of_le {a = pos a} {b = negsuc b} h = absurd h.le
parts_of_le {a = negsuc a} {b = pos b} h = omega arith
parts_of_le {a = negsuc a} {b = negsuc b} h = omega (arith, leb→le b a h.le)

-- a natural times an integer multiplies both parts
pub times_above : (a : ℤ) (n : ℕ) → above (a *ℤ pos n) ≡ above a * n
unfolding above below
times_above (pos a) n = refl
times_above (negsuc a) n = neg_above (pos (suc a * n)) ∙ sym (zero-mul n)

pub times_below : (a : ℤ) (n : ℕ) → below (a *ℤ pos n) ≡ below a * n
unfolding above below
times_below (pos a) n = sym (zero-mul n)
times_below (negsuc a) n = neg_below (pos (suc a * n))

pub times_monotone : {a b : ℤ} (n : ℕ) → a ≤ℤ b → (a *ℤ pos n) ≤ℤ (b *ℤ pos n)
times_monotone {a} {b} n h =
    le_of_parts (a *ℤ pos n) (b *ℤ pos n)
    (omega (
      arith,
      times_above a n,
      times_below a n,
      times_above b n,
      times_below b n,
      mul-le-mul_right n (parts_of_le h),
      add-mul (above a) (below b) n,
      add-mul (above b) (below a) n,
    ))

-- what adds up to 0 with a is its negation
pub neg_unique : (a b : ℤ) → a +ℤ b ≡ pos zero → b ≡ neg_ℤ a
unfolding above below
neg_unique a b e = eq_of_parts _ _ (omega (arith, +-parts a b, neg_above a, neg_below a, ap above e, ap below e))
