-- What scaling back promises of a level, whatever the row of scales, the side and the QP: a level of 0 scales back to
-- 0, and a larger level never to a smaller coefficient. So a coefficient is 0 or has its level's sign, and of two
-- levels of one sign the one of larger magnitude has no coefficient of smaller magnitude. Of two levels of unlike signs
-- that is not so, by one: halves round up, and at side 2 and QP 1 the levels 2 and -2 become 23 and -22; and the ends of
-- the range are 32767 and -32768, to which at side 2 and QP 0 the levels 32700 and -32700 are clipped.
-- Assumes nothing.
use mathlib.Core.Path.{◌≡◌, refl, sym, ap, subst, ◌∙◌}
use mathlib.Core.Logic.{◌⊎◌, inl, inr}
use mathlib.Core.Bool.{true≢false}
use mathlib.Core.List.{List}
use Prim.Native.Nat.{ℕ, ◌+◌, ◌≤◌}
use native.Mathlib.Omega.{arith}
use lib.Dec.{leb→le, le→leb}
use lib.IntN.{ℤ, pos, negsuc, nat_abs, ◌*ℤ◌, zero-*ℤ}
use lib.Signed.{non_neg, ◌≤ℤ◌}
use Rattle.integers.specs.Floor.{rounded}
use Rattle.integers.specs.Clip.{clipped}
use Rattle.integers.proofs.Parts.{times_monotone}
use Rattle.integers.proofs.Floor.{rounded_monotone, rounded_zero}
use Rattle.integers.proofs.Clip.{clipped_monotone}
use Rattle.integers.proofs.Magnitude.{magnitude_up, magnitude_down}
use Rattle.decoding.specs.Scaling.{factor, scaled_back}

module _ (row : List ℕ) (l qp : ℕ) where
  pub zero_scales_back_to_zero : scaled_back row l qp (pos 0) ≡ pos 0
  unfolding scaled_back clipped
  zero_scales_back_to_zero =
      ap (λ (z : ℤ). clipped (rounded z (1 + l))) (zero-*ℤ (pos (factor row qp)))
      ∙ ap clipped (rounded_zero (1 + l) (omega arith))

  pub larger_level_no_smaller : (a b : ℤ) → a ≤ℤ b → scaled_back row l qp a ≤ℤ scaled_back row l qp b
  unfolding scaled_back
  larger_level_no_smaller a b h =
      let f = factor row qp in
      clipped_monotone (rounded (a *ℤ pos f) (1 + l)) (rounded (b *ℤ pos f) (1 + l))
      (rounded_monotone (a *ℤ pos f) (b *ℤ pos f) (1 + l) (times_monotone f h))

  -- on either side of 0
  from_zero : (n : ℕ) → pos 0 ≤ℤ pos n
  from_zero n = record { le = le→leb 0 n (omega arith) }

  not_below : (a : ℤ) → pos 0 ≤ℤ a → pos 0 ≤ℤ scaled_back row l qp a
  not_below a h =
      subst (λ (z : ℤ). z ≤ℤ scaled_back row l qp a) zero_scales_back_to_zero
      (larger_level_no_smaller (pos 0) a h)

  not_above : (a : ℤ) → a ≤ℤ pos 0 → scaled_back row l qp a ≤ℤ pos 0
  not_above a h =
      subst (λ (z : ℤ). scaled_back row l qp a ≤ℤ z) zero_scales_back_to_zero
      (larger_level_no_smaller a (pos 0) h)

  pub zero_or_the_level's_sign : (a : ℤ)
      → (scaled_back row l qp a ≡ pos 0) ⊎ (non_neg (scaled_back row l qp a) ≡ non_neg a)
  zero_or_the_level's_sign (pos a) = inr (up (scaled_back row l qp (pos a)) (not_below (pos a) (from_zero a)))
    where
      up : (z : ℤ) → pos 0 ≤ℤ z → non_neg z ≡ non_neg (pos a)
      up (pos n) h = refl
      up (negsuc n) h = absurd h.le
  zero_or_the_level's_sign (negsuc a) =
      down (scaled_back row l qp (negsuc a)) (not_above (negsuc a) (record { le = tt }))
    where
      down : (z : ℤ) → z ≤ℤ pos 0 → (z ≡ pos 0) ⊎ (non_neg z ≡ non_neg (negsuc a))
      down (pos n) h = inl (ap pos (omega (arith, leb→le n 0 h.le)))
      down (negsuc n) h = inr refl

  pub larger_magnitude_no_smaller : (a b : ℤ) → non_neg a ≡ non_neg b → nat_abs a ≤ nat_abs b
      → nat_abs (scaled_back row l qp a) ≤ nat_abs (scaled_back row l qp b)
  larger_magnitude_no_smaller (pos a) (pos b) s h =
      magnitude_up _ _ (not_below (pos a) (from_zero a))
      (larger_level_no_smaller (pos a) (pos b) (record { le = le→leb a b h }))
  larger_magnitude_no_smaller (pos a) (negsuc b) s h = absurd (true≢false s)
  larger_magnitude_no_smaller (negsuc a) (pos b) s h = absurd (true≢false (sym s))
  larger_magnitude_no_smaller (negsuc a) (negsuc b) s h =
      magnitude_down _ _
      (larger_level_no_smaller (negsuc b) (negsuc a) (record { le = le→leb a b (omega arith) }))
      (not_above (negsuc a) (record { le = tt }))
