-- What fits a signed type of the machine, and what its operations then yield: the laws are over the width.
-- The machine holds a signed number as bits: `of_z w` makes them and `to_z w` reads them.
-- Assumes nothing.
use mathlib.Core.Path.{◌≡◌}
use Prim.Native.Nat.{ℕ, ◌+◌, ◌*◌, ◌<◌, ◌≤◌, ◌^◌}
use native.Mathlib.Omega.{arith}
use lib.Dec.{lit<}
use lib.IntN.{ℤ, pos, negsuc, nat_abs, ◌+ℤ◌, ◌*ℤ◌}
use lib.Signed.{mag, mag_shr, nat_abs-le, shr_z}
use mir.Syntax.{Width, w16, w32}
use mir.Val.{SFits, hbits, to_z, of_z}
use mir.Facts.{to_z-of_z}
use Rattle.integers.proofs.Magnitude.{magnitude-+, magnitude-*}

mag_magnitude : (z : ℤ) → mag z ≤ nat_abs z
mag_magnitude (pos n) = omega arith
mag_magnitude (negsuc n) = omega arith

-- a magnitude that the width's positive half has room for
pub fits : {w : Width} (z : ℤ) → nat_abs z < 2 ^ hbits w → SFits w z
fits {w} z h = record { sfits = omega (arith, mag_magnitude z) }

-- the same by a bound b, for which the room is a closed test
pub fits_within : {w : Width} (z : ℤ) (b : ℕ) → nat_abs z ≤ b → b < 2 ^ hbits w → SFits w z
fits_within {w} z b h k = record { sfits = omega (arith, mag_magnitude z) }

-- the magnitude of what was read
pub magnitude_of : {w : Width} (z : ℤ) → SFits w z → nat_abs z ≤ 2 ^ hbits w
magnitude_of {w} z f = nat_abs-le z f.sfits

-- what fits 16 bits fits 32
pub wider : (z : ℤ) → SFits w16 z → SFits w32 z
wider z f = fits_within z (2 ^ 15) (magnitude_of z f) (lit< tt)

-- a cast between two signed types, both of which have room
module _ (w w' : Width) (z : ℤ) (f : SFits w z) (g : SFits w' z) where
  pub cast_fits : SFits w' (to_z w (of_z w z))
  cast_fits = simp to_z-of_z g

  pub cast_is : to_z w' (of_z w' (to_z w (of_z w z))) ≡ z
  cast_is = simp to_z-of_z

-- a shift to the right
module _ (w : Width) (z : ℤ) (m : ℕ) (f : SFits w z) where
  pub shift_fits : SFits w (shr_z z m)
  shift_fits = record { sfits = omega (arith, f.sfits, mag_shr z m) }

  pub shift_is : to_z w (of_z w (shr_z (to_z w (of_z w z)) m)) ≡ shr_z z m
  shift_is = let g = shift_fits in simp to_z-of_z

-- an operation on two numbers as the machine reads them
module _ (w : Width) (f : ℤ → ℤ → ℤ) (p q : ℤ) (hp : SFits w p) (hq : SFits w q) (h : SFits w (f p q)) where
  pub operation_fits : SFits w (f (to_z w (of_z w p)) (to_z w (of_z w q)))
  operation_fits = simp to_z-of_z h

  pub operation_is : to_z w (of_z w (f (to_z w (of_z w p)) (to_z w (of_z w q)))) ≡ f p q
  operation_is = simp to_z-of_z

-- One step of a sum of products, a + t·v: where the magnitudes together stay in the positive half, the product and the
-- sum fit.
module _ (w : Width) (a t v : ℤ) (ft : SFits w t) (fv : SFits w v)
    (h : nat_abs a + nat_abs t * nat_abs v < 2 ^ hbits w) where
  so_far : SFits w a
  so_far = fits a (omega arith)

  product : SFits w (t *ℤ v)
  product = fits (t *ℤ v) (omega (arith, magnitude-* t v))

  step : SFits w (a +ℤ t *ℤ v)
  step = fits (a +ℤ t *ℤ v) (omega (arith, magnitude-* t v, magnitude-+ a (t *ℤ v)))

  pub product_fits : SFits w (to_z w (of_z w t) *ℤ to_z w (of_z w v))
  product_fits = operation_fits w ◌*ℤ◌ t v ft fv product

  pub step_fits : SFits w (to_z w (of_z w a) +ℤ to_z w (of_z w (to_z w (of_z w t) *ℤ to_z w (of_z w v))))
  step_fits = let p = ft in let q = fv in let r = so_far in let s = product in simp to_z-of_z step

  pub step_is : to_z w (of_z w (to_z w (of_z w a) +ℤ to_z w (of_z w (to_z w (of_z w t) *ℤ to_z w (of_z w v))))) ≡ a +ℤ t *ℤ v
  step_is = let p = ft in let q = fv in let r = so_far in let s = product in let u = step in simp to_z-of_z
