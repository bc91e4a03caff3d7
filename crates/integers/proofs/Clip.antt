-- Clipping to 16 bits cuts the magnitude off, that of -(n + 1) counted as n, and leaves the sign as it was. So what is
-- clipped fits, and a larger number is not clipped to a smaller one.
-- Assumes nothing.
use mathlib.Core.Path.{◌≡◌, refl, sym, ap}
use mathlib.Core.Bool.{cond, true, false}
use Prim.Native.Nat.{ℕ, ◌≤◌, min}
use native.Mathlib.Nat.{min-eq_left, min-eq_right, min-le_left, min-le_right, le-min, le_of_lt}
use native.Mathlib.Omega.{arith}
use lib.Dec.{lit<, ltb, ltb→lt, nltb→le, leb→le, le→leb}
use lib.IntN.{ℤ, pos, negsuc, nat_abs}
use lib.Signed.{lt_z, ◌≤ℤ◌}
use mir.Syntax.{w16}
use mir.Val.{SFits}
use Rattle.integers.specs.Clip.{clipped}
use Rattle.integers.proofs.Fit.{fits_within}
use Rattle.integers.proofs.Parts.{of_choice}

cut : (side : ℕ → ℤ) (a : ℕ) → cond (ltb 32767 a) (side 32767) (side a) ≡ side (min a 32767)
cut side a =
    of_choice (ltb 32767 a) (side 32767) (side a) (λ (z : ℤ). z ≡ side (min a 32767))
    (λ t. ap side (sym (min-eq_right (le_of_lt (ltb→lt 32767 a t)))))
    (λ t. ap side (sym (min-eq_left (nltb→le 32767 a t))))

clipped_above : (a : ℕ) → clipped (pos a) ≡ pos (min a 32767)
unfolding clipped
clipped_above a = cut pos a

clipped_below : (a : ℕ) → clipped (negsuc a) ≡ negsuc (min a 32767)
unfolding clipped
clipped_below a = cut negsuc a

pub clipped_fits : (z : ℤ) → SFits w16 (clipped z)
clipped_fits (pos a) = rw clipped_above (record { sfits = omega (arith, min-le_right a 32767) })
clipped_fits (negsuc a) = rw clipped_below (record { sfits = omega (arith, min-le_right a 32767) })

cut_monotone : (a b : ℕ) → a ≤ b → min a 32767 ≤ min b 32767
cut_monotone a b h = le-min (omega (arith, min-le_left a 32767)) (min-le_right a 32767)

pub clipped_monotone : (a b : ℤ) → a ≤ℤ b → clipped a ≤ℤ clipped b
clipped_monotone (pos a) (pos b) h =
    simp clipped_above (record { le = le→leb _ _ (cut_monotone a b (leb→le a b h.le)) })
clipped_monotone (pos a) (negsuc b) h = absurd h.le
clipped_monotone (negsuc a) (pos b) h = simp (clipped_above, clipped_below) (record { le = tt })
clipped_monotone (negsuc a) (negsuc b) h =
    simp clipped_below (record { le = le→leb _ _ (cut_monotone b a (leb→le b a h.le)) })

-- what fits is kept, and the three cases
pub clip_inside : (z : ℤ) → SFits w16 z → clipped z ≡ z
unfolding clipped
clip_inside (pos n) f =
    of_choice (ltb 32767 n) (pos 32767) (pos n) (λ (y : ℤ). y ≡ pos n)
    (λ t. absurd (let no : ⊥ = omega (arith, f.sfits, ltb→lt 32767 n t) in no)) (λ t. refl)
clip_inside (negsuc n) f =
    of_choice (ltb 32767 n) (negsuc 32767) (negsuc n) (λ (y : ℤ). y ≡ negsuc n)
    (λ t. absurd (let no : ⊥ = omega (arith, f.sfits, ltb→lt 32767 n t) in no)) (λ t. refl)

-- by a bound on the magnitude
pub clip_within : (z : ℤ) → nat_abs z ≤ 32767 → clipped z ≡ z
clip_within z h = clip_inside z (fits_within z 32767 h (lit< tt))

-- clipped by two tests, as a program makes them
pub clip_below : (z : ℤ) → lt_z z (negsuc 32767) ≡ true → clipped z ≡ negsuc 32767
unfolding clipped
clip_below z t = rw t

pub clip_above : (z : ℤ) → lt_z z (negsuc 32767) ≡ false → lt_z (pos 32767) z ≡ true → clipped z ≡ pos 32767
unfolding clipped
clip_above z t u = rw (t, u)

pub clip_between : (z : ℤ) → lt_z z (negsuc 32767) ≡ false → lt_z (pos 32767) z ≡ false → clipped z ≡ z
unfolding clipped
clip_between z t u = rw (t, u)
