-- The magnitude of a sum, a difference, a negation and a product of integers, and of two integers in order.
-- Assumes nothing.
use mathlib.Core.Path.{◌≡◌, refl}
use Prim.Native.Nat.{ℕ, zero, suc, ◌+◌, ◌*◌, ◌-◌, ◌≤◌}
use native.Mathlib.Omega.{arith}
use lib.Dec.{ltb, ltb→lt, leb→le}
use lib.IntN.{ℤ, pos, negsuc, neg_ℤ, nat_abs, sub_ℕ, ◌+ℤ◌, ◌-ℤ◌, ◌*ℤ◌}
use lib.Signed.{◌≤ℤ◌}
use Rattle.integers.proofs.Parts.{of_choice}

pub magnitude_neg : (z : ℤ) → nat_abs (neg_ℤ z) ≡ nat_abs z
magnitude_neg (pos zero) = refl
magnitude_neg (pos (suc n)) = refl
magnitude_neg (negsuc n) = refl

pub magnitude-* : (a b : ℤ) → nat_abs (a *ℤ b) ≡ nat_abs a * nat_abs b
magnitude-* (pos a) (pos b) = refl
magnitude-* (pos a) (negsuc b) = magnitude_neg (pos (a * suc b))
magnitude-* (negsuc a) (pos b) = magnitude_neg (pos (suc a * b))
magnitude-* (negsuc a) (negsuc b) = refl

difference : (a b : ℕ) → nat_abs (sub_ℕ a b) ≤ a + b
difference a b =
    of_choice (ltb a b) (negsuc (b - suc a)) (pos (a - b)) (λ (z : ℤ). nat_abs z ≤ a + b)
    (λ t. omega (arith, ltb→lt a b t))
    (λ t. omega arith)

pub magnitude-+ : (a b : ℤ) → nat_abs (a +ℤ b) ≤ nat_abs a + nat_abs b
magnitude-+ (pos a) (pos b) = omega arith
magnitude-+ (pos a) (negsuc b) = difference a (suc b)
magnitude-+ (negsuc a) (pos b) = omega (arith, difference b (suc a))
magnitude-+ (negsuc a) (negsuc b) = omega arith

pub magnitude-- : (a b : ℤ) → nat_abs (a -ℤ b) ≤ nat_abs a + nat_abs b
magnitude-- a b = omega (arith, magnitude-+ a (neg_ℤ b), magnitude_neg b)

-- away from 0 it grows, on either side
pub magnitude_up : (a b : ℤ) → pos 0 ≤ℤ a → a ≤ℤ b → nat_abs a ≤ nat_abs b
magnitude_up (pos a) (pos b) h k = leb→le a b k.le
magnitude_up (pos a) (negsuc b) h k = absurd k.le
magnitude_up (negsuc a) b h k = absurd h.le

pub magnitude_down : (a b : ℤ) → a ≤ℤ b → b ≤ℤ pos 0 → nat_abs b ≤ nat_abs a
magnitude_down a (pos b) k h = omega (arith, leb→le b 0 h.le)
magnitude_down (pos a) (negsuc b) k h = absurd k.le
magnitude_down (negsuc a) (negsuc b) k h = omega (arith, leb→le b a k.le)
