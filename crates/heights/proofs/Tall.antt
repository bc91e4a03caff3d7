-- Heights that no block can exceed: a residual is within ±1023, and what is decoded is clipped to 16 bits, so that they
-- are at most 33791 apart. A host that gives such heights is never refused for them.
-- Assumes nothing.
use mathlib.Core.Path.{◌≡◌, ap}
use mathlib.Core.Logic.{⊎_elim}
use mathlib.Core.Bool.{true, false}
use mathlib.Core.List.{List}
use Prim.Native.Nat.{ℕ, ◌+◌, ◌*◌, ◌/◌, ◌%◌, ◌^◌, ◌≤◌, ◌<◌}
use native.Mathlib.Omega.{arith}
use lib.Dec.{ltb}
use lib.ListN.{length, get_or-eq_default}
use lib.IntN.{ℤ, pos, negsuc, nat_abs, ◌-ℤ◌}
use Rattle.integers.specs.Sum.{at}
use Rattle.integers.specs.Floor.{rounded}
use Rattle.integers.specs.Tests.{some}
use Rattle.integers.proofs.Order.{below_or_not}
use Rattle.integers.proofs.Some.{none_above}
use Rattle.integers.proofs.Tests.{listed_at}
use Rattle.integers.proofs.Fit.{magnitude_of}
use Rattle.integers.proofs.Magnitude.{magnitude--}
use Rattle.integers.proofs.Clip.{clipped_fits}
use Rattle.decoding.specs.Scaling.{coefficients_back}
use Rattle.decoding.specs.Inverse.{product_back, residual, residuals}
use Rattle.heights.specs.declared.Heights.{Heights}
use Rattle.heights.specs.Extremes.{decoded, positive, above, darker, lighter, extremes, within}
use Rattle.heights.proofs.Exact.{largest_within, within_means}

above_magnitudes : (a b : ℤ) → above a b ≤ nat_abs a + nat_abs b
unfolding above
above_magnitudes a b = omega (arith, go (a -ℤ b), magnitude-- a b)
  where
    go : (z : ℤ) → positive z ≤ nat_abs z
    go (pos n) = omega arith
    go (negsuc n) = omega arith

module _ (row : List ℕ) (l qp : ℕ) (r levels : List ℤ) (tame : some (λ z. ltb 1023 (nat_abs z)) r ≡ false) where
  -- past the end of the list stands a 0
  residual_tame : (i : ℕ) → nat_abs (at r i) ≤ 1023
  residual_tame i =
      ⊎_elim (λ (h : i < length r). none_above 1023 r tame i h)
      (λ (h : length r ≤ i). omega (arith, ap nat_abs (get_or-eq_default r (pos 0) h)))
      (below_or_not i (length r))

  decoded_fits : (i : ℕ) → i < 2 ^ l * 2 ^ l → nat_abs (at (decoded row l qp levels) i) ≤ 32768
  unfolding decoded residuals residual
  decoded_fits i h =
      let c = coefficients_back row l qp levels in
      let z = rounded (product_back c (2 ^ l) (2 ^ l) (i / 2 ^ l) (i % 2 ^ l)) 17 in
      omega (
        arith,
        ap nat_abs (listed_at (pos 0) (λ i. residual c l l (i / 2 ^ l) (i % 2 ^ l)) (2 ^ l * 2 ^ l) i h),
        magnitude_of _ (clipped_fits z),
      )

  pub darker_at_most : (extremes row l qp r levels).darker ≤ 33791
  unfolding extremes darker
  darker_at_most =
      let d = decoded row l qp levels in
      largest_within (2 ^ l * 2 ^ l) 33791 (λ i. above (at r i) (at d i))
      (λ i h. omega (arith, above_magnitudes (at r i) (at d i), residual_tame i, decoded_fits i h))

  pub lighter_at_most : (extremes row l qp r levels).lighter ≤ 33791
  unfolding extremes lighter
  lighter_at_most =
      let d = decoded row l qp levels in
      largest_within (2 ^ l * 2 ^ l) 33791 (λ i. above (at d i) (at r i))
      (λ i h. omega (arith, above_magnitudes (at d i) (at r i), residual_tame i, decoded_fits i h))

  pub tall_enough : (h : Heights) → 33791 ≤ h.darker → 33791 ≤ h.lighter
      → within (extremes row l qp r levels) h ≡ true
  tall_enough h d k =
      (within_means (extremes row l qp r levels) h).1 (omega (arith, darker_at_most), omega (arith, lighter_at_most))
