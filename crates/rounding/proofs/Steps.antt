-- The rounding shift as the machine makes it, of a sum z and a shift s of at most 16: every step fits, and the result
-- is the definition's.
use mathlib.Core.Path.{◌≡◌, sym, ◌∙◌, ap, subst}
use Prim.Native.Nat.{ℕ, ◌*◌, ◌-◌, ◌%◌, ◌^◌, ◌<◌, ◌≤◌}
use native.Mathlib.Nat.{mod-eq_of_lt, one-mul}
use native.Mathlib.Omega.{arith}
use lib.Dec.{lit<}
use lib.Pow.{pow-lt, pow_mono}
use lib.IntN.{ℤ, pos, nat_abs, ◌+ℤ◌}
use lib.Signed.{shr_z}
use mir.Syntax.{w16, w32}
use mir.Val.{SFits, to_z, of_z}
use mir.Facts.{to_z_pos, to_z-of_z}
use Rattle.integers.specs.Floor.{rounded}
use Rattle.integers.proofs.Fit.{fits, fits_within}
use Rattle.integers.proofs.Floor.{rounded_bound}
use Rattle.integers.proofs.Magnitude.{magnitude-+}

-- 1 << s
unit_is : (s : ℕ) → s < 31 → to_z w32 (1 * 2 ^ s % 2 ^ 32) ≡ pos (2 ^ s)
unit_is s h =
    ap (to_z w32)
    (mod-eq_of_lt (subst (λ (n : ℕ). n < 2 ^ 32) (sym (one-mul (2 ^ s))) (pow-lt {i = s} {j = 32} (omega arith)))
    ∙ one-mul (2 ^ s))
    ∙ to_z_pos w32 (pow-lt {i = s} {j = 31} h)

module _ (z : ℤ) (s : ℕ) (lo : 1 ≤ s) (hi : s ≤ 16) (b : nat_abs z ≤ 32736 * 2 ^ s) where
  top : 2 ^ s ≤ 2 ^ 16
  top = pow_mono {i = s} {j = 16} hi

  unit : 2 ^ (s - 1) < 2 ^ s
  unit = pow-lt {i = s - 1} {j = s} (omega arith)

  summand : SFits w32 z
  summand = fits z (omega (arith, top))

  whole : SFits w32 (z +ℤ pos (2 ^ (s - 1)))
  whole = fits (z +ℤ pos (2 ^ (s - 1))) (omega (arith, top, unit, magnitude-+ z (pos (2 ^ (s - 1)))))

  result : {w : mir.Syntax.Width} → 32736 < 2 ^ mir.Val.hbits w → SFits w (rounded z s)
  result {w} h = fits_within (rounded z s) 32736 (rounded_bound z s 32736 lo b) h

  pub sum_fits : SFits w32 (to_z w32 (of_z w32 z) +ℤ to_z w32 (1 * 2 ^ (s - 1) % 2 ^ 32))
  sum_fits = let f = summand in simp (to_z-of_z, unit_is (s - 1) (omega arith)) whole

  pub result_fits : SFits w16
      (to_z w32 (of_z w32 (shr_z (to_z w32 (of_z w32 (to_z w32 (of_z w32 z) +ℤ to_z w32 (1 * 2 ^ (s - 1) % 2 ^ 32)))) (2 ^ s))))
  result_fits =
      let f = summand in
      let g = whole in
      let k : SFits w32 (rounded z s) = result (lit< tt) in
      let l : SFits w16 (rounded z s) = result (lit< tt) in
      simp (to_z-of_z, unit_is (s - 1) (omega arith)) l

  pub result_is : to_z w16
      (of_z w16 (to_z w32
      (of_z w32 (shr_z (to_z w32 (of_z w32 (to_z w32 (of_z w32 z) +ℤ to_z w32 (1 * 2 ^ (s - 1) % 2 ^ 32)))) (2 ^ s)))))
      ≡ rounded z s
  result_is =
      let f = summand in
      let g = whole in
      let k : SFits w32 (rounded z s) = result (lit< tt) in
      let l : SFits w16 (rounded z s) = result (lit< tt) in
      simp (to_z-of_z, unit_is (s - 1) (omega arith))
