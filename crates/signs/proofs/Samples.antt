-- A magnitude with its coefficient's sign put back, as the machine holds it in 16 bits.
use mathlib.Core.Path.{◌≡◌, refl, sym, ◌∙◌}
use mathlib.Core.Bool.{true, false, true≢false}
use Prim.Native.Nat.{ℕ, zero, suc, ◌≤◌}
use native.Mathlib.Omega.{arith}
use borrow.Author.Tests.{ltb-true}
use lib.IntN.{ℤ, pos, negsuc, neg_ℤ, ◌-ℤ◌, +ℤ_idl}
use lib.Signed.{lt_z}
use mir.Syntax.{w16}
use mir.Val.{to_z, of_z, SFits}
use mir.Facts.{to_z-of_z}
use Rattle.price.specs.Level.{signed}

module _ (z : ℤ) (a : ℕ) (f : SFits w16 z) (h : a ≤ 32767) where
  fits_up : SFits w16 (pos a)
  fits_up = record { sfits = omega arith }

  fits_down : (n : ℕ) → n ≤ 32767 → SFits w16 (neg_ℤ (pos n))
  fits_down zero k = record { sfits = omega arith }
  fits_down (suc n) k = record { sfits = omega arith }

  pub minus_fits : SFits w16 (pos 0 -ℤ to_z w16 (of_z w16 (pos a)))
  minus_fits = rw (to_z-of_z {w = w16} {z = pos a} fits_up, +ℤ_idl) (fits_down a h)

  negative : (z : ℤ) → lt_z z (pos 0) ≡ true → signed z a ≡ neg_ℤ (pos a)
  unfolding signed
  negative (pos n) t = absurd (let q = ltb-true n 0 t in omega arith)
  negative (negsuc n) t = refl

  positive : (z : ℤ) → lt_z z (pos 0) ≡ false → signed z a ≡ pos a
  unfolding signed
  positive (pos n) t = refl
  positive (negsuc n) t = absurd (true≢false t)

  pub put_minus : lt_z (to_z w16 (of_z w16 z)) (pos 0) ≡ true
      → to_z w16 (of_z w16 (pos 0 -ℤ to_z w16 (of_z w16 (pos a)))) ≡ signed z a
  put_minus t =
      to_z-of_z minus_fits
      ∙ rw (to_z-of_z {w = w16} {z = pos a} fits_up, +ℤ_idl)
      (sym (negative z (rw (to_z-of_z {w = w16} {z = z} f) at t)))

  pub put_plus : lt_z (to_z w16 (of_z w16 z)) (pos 0) ≡ false → to_z w16 (of_z w16 (pos a)) ≡ signed z a
  put_plus t = to_z-of_z {w = w16} {z = pos a} fits_up ∙ sym (positive z (rw (to_z-of_z {w = w16} {z = z} f) at t))
