-- A sum settled as the machine settles it, in 64 bits: every step fits.
use Prim.Native.Nat.{◌+◌, ◌^◌, ◌≤◌}
use native.Mathlib.Omega.{arith}
use lib.Dec.{lit<}
use lib.IntN.{ℤ, pos, nat_abs, ◌+ℤ◌}
use mir.Syntax.{w64}
use mir.Val.{SFits}
use Rattle.integers.specs.Floor.{rounded}
use Rattle.integers.proofs.Fit.{fits_within, shift_fits}
use Rattle.integers.proofs.Magnitude.{magnitude-+}

module _ (z : ℤ) (h : nat_abs z ≤ 2 ^ 40) where
  pub raised : SFits w64 (z +ℤ pos 65536)
  raised = fits_within (z +ℤ pos 65536) (2 ^ 40 + 65536) (omega (arith, magnitude-+ z (pos 65536))) (lit< tt)

  pub shifted : SFits w64 (rounded z 17)
  shifted = shift_fits w64 (z +ℤ pos 65536) 131072 raised
