-- Levels that are 0 throughout are decoded to themselves, whatever the scales and the QP: so a block without levels
-- need not be decoded.
use mathlib.Core.Path.{◌≡◌, refl, sym, ap, ◌∙◌}
use mathlib.Core.List.{List, ◌∷◌, map}
use Prim.Native.Nat.{ℕ, zero, suc, ◌+◌, ◌*◌, ◌/◌, ◌%◌, ◌^◌}
use native.Mathlib.Omega.{arith}
use lib.ListN.{length, replicate}
use lib.Seq.{take_all}
use lib.IntN.{ℤ, pos, nat_abs, ◌*ℤ◌, *ℤ-zero}
use Rattle.integers.specs.Sum.{over, on_ℤ, sum_ℤ, on_max, at}
use Rattle.integers.specs.Floor.{rounded}
use Rattle.integers.specs.Clip.{clipped}
use Rattle.integers.proofs.Sums.{ints, sum_ext, sum_nought}
use Rattle.integers.proofs.Floor.{rounded_zero}
use Rattle.tables.specs.Matrix.{matrix}
use Rattle.decoding.specs.Scaling.{scaled_back, coefficients_back}
use Rattle.decoding.specs.Inverse.{product_back}
use Rattle.decoding.proofs.Scaling.{zero_scales_back_to_zero}
use Rattle.heights.specs.Extremes.{decoded}
use Rattle.residuals.proofs.Whole.{listed_is}
use Rattle.coefficients.proofs.Blank.{blank_is_zeros}

zeros_at : (n k : ℕ) → at (replicate n (pos 0)) k ≡ pos 0
zeros_at zero k = refl
zeros_at (suc n) zero = refl
zeros_at (suc n) (suc k) = zeros_at n k

map_zeros : (f : ℤ → ℤ) → f (pos 0) ≡ pos 0 → (n : ℕ) → map f (replicate n (pos 0)) ≡ replicate n (pos 0)
map_zeros f e zero = refl
map_zeros f e (suc n) =
    ap (λ (z : ℤ). z ∷ map f (replicate n (pos 0))) e ∙ ap (λ (l : List ℤ). pos 0 ∷ l) (map_zeros f e n)

no_product : (c : List ℤ) → ((k : ℕ) → at c k ≡ pos 0) → (w h y x : ℕ) → product_back c w h y x ≡ pos 0
unfolding product_back
no_product c each w h y x =
    sum_ext on_ℤ h (λ v. sum_ℤ w (λ u. (matrix h v y *ℤ matrix w u x) *ℤ at c (v * w + u))) (λ v. pos 0)
    (λ v hv.
    sum_ext on_ℤ w (λ u. (matrix h v y *ℤ matrix w u x) *ℤ at c (v * w + u)) (λ u. pos 0)
    (λ u hu.
    ap (λ (z : ℤ). (matrix h v y *ℤ matrix w u x) *ℤ z) (each (v * w + u)) ∙ *ℤ-zero (matrix h v y *ℤ matrix w u x))
    ∙ sum_nought ints w)
    ∙ sum_nought ints h

settled_zero : clipped (rounded (pos 0) 17) ≡ pos 0
unfolding clipped
settled_zero = ap clipped (rounded_zero 17 (omega arith))

module _ (row : List ℕ) (l qp : ℕ) (levels : List ℤ) (long : length levels ≡ 2 ^ l * 2 ^ l)
    (blank : over on_max nat_abs levels ≡ 0) where
  zeros : levels ≡ replicate (length levels) (pos 0)
  zeros = blank_is_zeros levels blank

  coefficients : coefficients_back row l qp levels ≡ replicate (length levels) (pos 0)
  unfolding coefficients_back
  coefficients =
      ap (map (scaled_back row l qp)) (take_all (2 ^ l * 2 ^ l) levels (omega (arith, long)) ∙ zeros)
      ∙ map_zeros (scaled_back row l qp) (zero_scales_back_to_zero row l qp) (length levels)

  no_coefficient : (k : ℕ) → at (coefficients_back row l qp levels) k ≡ pos 0
  no_coefficient k = ap (λ (c : List ℤ). at c k) coefficients ∙ zeros_at (length levels) k

  pub zeros_decoded : levels ≡ decoded row l qp levels
  unfolding decoded
  zeros_decoded =
      let c = coefficients_back row l qp levels in
      listed_is l l c levels long
      (λ i h.
      ap (λ (x : List ℤ). at x i) zeros
      ∙ zeros_at (length levels) i
      ∙ sym settled_zero
      ∙ ap (λ (z : ℤ). clipped (rounded z 17))
      (sym (no_product c no_coefficient (2 ^ l) (2 ^ l) (i / 2 ^ l) (i % 2 ^ l))))
