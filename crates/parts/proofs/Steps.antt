-- A number of the first stage in its two parts, and their sums joined, as the machine works them out: the low part and
-- the joined sum are the definitions'. What callers need of the parts: how large they are, and that they make up the
-- number.
use mathlib.Core.Path.{◌≡◌, sym, ◌∙◌, ap}
use Prim.Native.Nat.{◌≤◌}
use native.Mathlib.Omega.{arith}
use lib.Dec.{lit<}
use lib.IntN.{ℤ, pos, nat_abs, ◌+ℤ◌, ◌-ℤ◌, ◌*ℤ◌, +ℤ_assoc}
use lib.Signed.{shr_z}
use mir.Syntax.{w16, w32}
use mir.Val.{SFits, to_z, of_z}
use mir.Facts.{to_z-of_z}
use Rattle.integers.specs.Floor.{rounded}
use Rattle.integers.proofs.Fit.{fits_within}
use Rattle.integers.proofs.Magnitude.{magnitude-+, magnitude-*}
use Rattle.integers.proofs.Floor.{shift_bound}
use Rattle.integers.proofs.Split.{rest_bound, split_whole, floor_in_two}
use Rattle.parts.specs.Inner.Parts.{high_of, low_of, whole}

-- a number that was stored in 32 bits
abbrev held : ℤ → ℤ
held z = to_z w32 (of_z w32 z)

-- ---- the parts
pub parts_whole : (z : ℤ) → whole (high_of z) (low_of z) ≡ z
parts_whole z = split_whole z 4096

pub low_bound : (z : ℤ) → nat_abs (low_of z) ≤ 4095
low_bound z = omega (arith, rest_bound 4096 (lit< tt) z)

module _ (z : ℤ) (h : nat_abs z ≤ 61079552) where
  pub high_bound : nat_abs (high_of z) ≤ 14912
  high_bound = shift_bound z 4096 14912 (lit< tt) (omega arith)

  value : SFits w32 z
  value = fits_within z 61079552 h (lit< tt)

  quotient : SFits w32 (high_of z)
  quotient = fits_within (high_of z) 14912 high_bound (lit< tt)

  product : SFits w32 (pos 4096 *ℤ high_of z)
  product =
      fits_within (pos 4096 *ℤ high_of z) 61079552 (omega (arith, magnitude-* (pos 4096) (high_of z), high_bound))
      (lit< tt)

  rest : SFits w32 (low_of z)
  rest = fits_within (low_of z) 4095 (low_bound z) (lit< tt)

  low_narrow : SFits w16 (low_of z)
  low_narrow = fits_within (low_of z) 4095 (low_bound z) (lit< tt)

  pub low_fits : SFits w16 (held (held z -ℤ held (pos 4096 *ℤ held (shr_z (held z) 4096))))
  low_fits = let a = value in let b = quotient in let d = product in let e = rest in simp to_z-of_z low_narrow

  pub low_is : to_z w16 (of_z w16 (held (held z -ℤ held (pos 4096 *ℤ held (shr_z (held z) 4096))))) ≡ low_of z
  low_is = let a = value in let b = quotient in let d = product in let e = rest in let f = low_narrow in simp to_z-of_z

-- ---- the sums of the parts, joined
pub joined_is : (p q : ℤ) → shr_z (p +ℤ shr_z (q +ℤ pos 65536) 4096) 32 ≡ rounded (whole p q) 17
joined_is p q =
    sym
    (ap (λ (y : ℤ). shr_z y 131072) (+ℤ_assoc (pos 4096 *ℤ p) q (pos 65536))
    ∙ floor_in_two 4096 (lit< tt) p (q +ℤ pos 65536) 32 (lit< tt))

module _ (p q : ℤ) (hp : nat_abs p ≤ 27795968) (hq : nat_abs q ≤ 7633080) where
  high_sum : SFits w32 p
  high_sum = fits_within p 27795968 hp (lit< tt)

  low_sum : SFits w32 q
  low_sum = fits_within q 7633080 hq (lit< tt)

  lifted : nat_abs (q +ℤ pos 65536) ≤ 7698616
  lifted = omega (arith, magnitude-+ q (pos 65536))

  lifted_held : SFits w32 (q +ℤ pos 65536)
  lifted_held = fits_within (q +ℤ pos 65536) 7698616 lifted (lit< tt)

  carried : nat_abs (shr_z (q +ℤ pos 65536) 4096) ≤ 1880
  carried = shift_bound (q +ℤ pos 65536) 4096 1880 (lit< tt) (omega (arith, lifted))

  carried_held : SFits w32 (shr_z (q +ℤ pos 65536) 4096)
  carried_held = fits_within (shr_z (q +ℤ pos 65536) 4096) 1880 carried (lit< tt)

  joined : nat_abs (p +ℤ shr_z (q +ℤ pos 65536) 4096) ≤ 27797848
  joined = omega (arith, magnitude-+ p (shr_z (q +ℤ pos 65536) 4096), carried)

  joined_held : SFits w32 (p +ℤ shr_z (q +ℤ pos 65536) 4096)
  joined_held = fits_within (p +ℤ shr_z (q +ℤ pos 65536) 4096) 27797848 joined (lit< tt)

  shifted_held : SFits w32 (shr_z (p +ℤ shr_z (q +ℤ pos 65536) 4096) 32)
  shifted_held =
      fits_within (shr_z (p +ℤ shr_z (q +ℤ pos 65536) 4096) 32) 868683
      (shift_bound (p +ℤ shr_z (q +ℤ pos 65536) 4096) 32 868683 (lit< tt) (omega (arith, joined))) (lit< tt)

  pub joined_made : held (shr_z (held (held p +ℤ held (shr_z (held (held q +ℤ pos 65536)) 4096))) 32)
      ≡ rounded (whole p q) 17
  joined_made =
      let a = high_sum in
      let b = low_sum in
      let d = lifted_held in
      let e = carried_held in
      let f = joined_held in
      let g = shifted_held in
      simp to_z-of_z (joined_is p q)
