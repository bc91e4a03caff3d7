-- Numbers for scaling back and for the inverse transform, worked out apart from the definitions and computed over those
-- of the calls, and the order of their faults.
-- Assumes nothing.
use mathlib.Core.Path.{◌≡◌, refl}
use mathlib.Core.List.{List, [], ◌∷◌}
use Prim.Native.Nat.{ℕ}
use lib.IntN.{ℤ, pos, neg_ℤ}
use Rattle.integers.specs.Tests.{listed}
use Rattle.refusals.specs.Faults.{passed, refused}
use Rattle.tables.specs.Scales.{back}
use Rattle.decoding.specs.Inverse.{residual}
use Rattle.decoding.specs.Call.{ScaleBack, levels_lent, scale_verdict, scale_buffer}
use Rattle.decoding.specs.Call.{Inverse, coefficients_lent, inverse_verdict, inverse_buffer}

-- n, and -n
abbrev pub p : ℕ → ℤ
p n = pos n

abbrev pub m : ℕ → ℤ
m n = neg_ℤ (pos n)

-- a call on a buffer
abbrev pub levels : (l qp : ℕ) → List ℤ → ScaleBack
levels l qp buffer = levels_lent buffer l qp

-- accepted, with this buffer at the end
abbrev pub Scales : ScaleBack → List ℤ → Type 0
Scales s after = (scale_verdict s ≡ passed) × (scale_buffer s ≡ after)

-- refused, with the buffer as it was
abbrev pub RefusesToScale : ScaleBack → ℕ → Type 0
RefusesToScale s number = (scale_verdict s ≡ refused number 0) × (scale_buffer s ≡ s.buffer)

abbrev pub ScalingNumbers : Type 0
ScalingNumbers =
    -- side 2, QP 4, where s is 64; a surplus behind the block
    Scales (levels 1 4 (p 1 ∷ p 2 ∷ m 3 ∷ p 0 ∷ p 5 ∷ m 6 ∷ [])) (p 16 ∷ p 32 ∷ m 48 ∷ p 0 ∷ p 5 ∷ m 6 ∷ [])
    -- halves round up also below 0: 22.5 and -22.5; and what is no half
    × Scales (levels 1 1 (p 2 ∷ m 2 ∷ p 1 ∷ m 1 ∷ [])) (p 23 ∷ m 22 ∷ p 11 ∷ m 11 ∷ [])
    -- the ends of the range, and what is clipped to them
    × Scales (levels 1 4 (p 2047 ∷ p 2048 ∷ m 2048 ∷ m 2049 ∷ [])) (p 32752 ∷ p 32767 ∷ m 32768 ∷ m 32768 ∷ [])
    -- the largest QP, which clips at once
    × Scales (levels 1 63 (p 2 ∷ p 3 ∷ m 2 ∷ m 3 ∷ [])) (p 29184 ∷ p 32767 ∷ m 29184 ∷ m 32768 ∷ [])
    -- levels at their own ends
    × Scales (levels 1 0 (p 32767 ∷ m 32768 ∷ p 1 ∷ m 1 ∷ [])) (p 32767 ∷ m 32768 ∷ p 10 ∷ m 10 ∷ [])
    -- QP/6 in the exponent, QP mod 6 in the scale
    × Scales (levels 1 7 (p 1 ∷ m 1 ∷ p 4 ∷ m 4 ∷ [])) (p 23 ∷ m 22 ∷ p 90 ∷ m 90 ∷ [])
    -- s by QP mod 6
    × Scales (levels 1 0 (p 4 ∷ m 4 ∷ p 0 ∷ p 8 ∷ [])) (p 40 ∷ m 40 ∷ p 0 ∷ p 80 ∷ [])
    × Scales (levels 1 1 (p 4 ∷ m 4 ∷ p 0 ∷ p 8 ∷ [])) (p 45 ∷ m 45 ∷ p 0 ∷ p 90 ∷ [])
    × Scales (levels 1 2 (p 4 ∷ m 4 ∷ p 0 ∷ p 8 ∷ [])) (p 51 ∷ m 51 ∷ p 0 ∷ p 102 ∷ [])
    × Scales (levels 1 3 (p 4 ∷ m 4 ∷ p 0 ∷ p 8 ∷ [])) (p 57 ∷ m 57 ∷ p 0 ∷ p 114 ∷ [])
    × Scales (levels 1 4 (p 4 ∷ m 4 ∷ p 0 ∷ p 8 ∷ [])) (p 64 ∷ m 64 ∷ p 0 ∷ p 128 ∷ [])
    × Scales (levels 1 5 (p 4 ∷ m 4 ∷ p 0 ∷ p 8 ∷ [])) (p 72 ∷ m 72 ∷ p 0 ∷ p 144 ∷ [])
    -- side 4: 4 is added and 3 bits are dropped
    × Scales
    (levels 2 1
    (p 0 ∷ p 1 ∷ m 1 ∷ p 2 ∷ m 2 ∷ p 3 ∷ m 3 ∷ p 4 ∷ m 4 ∷ p 5 ∷ m 5 ∷ p 6 ∷ m 6 ∷ p 7 ∷ m 7 ∷ p 32767 ∷ []))
    (p 0 ∷ p 6 ∷ m 6 ∷ p 11 ∷ m 11 ∷ p 17 ∷ m 17 ∷ p 23 ∷ m 22 ∷ p 28 ∷ m 28 ∷ p 34 ∷ m 34 ∷ p 39 ∷ m 39 ∷ p 32767 ∷ [])

pub scaling_numbers : ScalingNumbers
unfolding scale_verdict scale_buffer back
scaling_numbers = (
  (refl, refl),
  (refl, refl),
  (refl, refl),
  (refl, refl),
  (refl, refl),
  (refl, refl),
  (refl, refl),
  (refl, refl),
  (refl, refl),
  (refl, refl),
  (refl, refl),
  (refl, refl),
  (refl, refl),
)

-- several faults at once: the first of the list decides
pub scaling_order :
    -- a side, a QP and a short buffer
    RefusesToScale (levels 0 64 []) 1
    × RefusesToScale (levels 6 64 (p 1 ∷ [])) 1
    -- a QP and a short buffer
    × RefusesToScale (levels 1 64 (p 1 ∷ p 0 ∷ p 0 ∷ [])) 2
    -- a short buffer alone
    × RefusesToScale (levels 1 63 (p 1 ∷ p 0 ∷ p 0 ∷ [])) 5
    -- a QP alone
    × RefusesToScale (levels 1 64 (p 1 ∷ p 0 ∷ p 0 ∷ p 0 ∷ [])) 2
unfolding scale_verdict scale_buffer
scaling_order = ((refl, refl), (refl, refl), (refl, refl), (refl, refl), (refl, refl))

-- ---- the inverse transform
abbrev pub coefficients : (lw lh : ℕ) → List ℤ → Inverse
coefficients lw lh buffer = coefficients_lent buffer lw lh

abbrev pub Restores : Inverse → List ℤ → Type 0
Restores t after = (inverse_verdict t ≡ passed) × (inverse_buffer t ≡ after)

abbrev pub RefusesToRestore : Inverse → ℕ → Type 0
RefusesToRestore t number = (inverse_verdict t ≡ refused number 0) × (inverse_buffer t ≡ t.buffer)

abbrev pub InverseNumbers : Type 0
InverseNumbers =
    -- the coefficients of 1 2 3 4; a surplus behind the block
    Restores (coefficients 1 1 (p 80 ∷ m 16 ∷ m 32 ∷ p 0 ∷ p 7 ∷ m 9 ∷ [])) (p 1 ∷ p 2 ∷ p 3 ∷ p 4 ∷ p 7 ∷ m 9 ∷ [])
    -- halves round up also below 0: -16/32, -48/32, 16/32, 48/32
    × Restores (coefficients 1 1 (p 0 ∷ p 0 ∷ m 32 ∷ p 16 ∷ [])) (p 0 ∷ m 1 ∷ p 1 ∷ p 2 ∷ [])
    -- and what is nearly one: -17/32, -47/32, 15/32, 49/32, which a rounding between the stages changes
    × Restores (coefficients 1 1 (p 0 ∷ m 1 ∷ m 32 ∷ p 16 ∷ [])) (m 1 ∷ m 1 ∷ p 0 ∷ p 2 ∷ [])
    -- side 4, whose matrix is not its own transpose: coefficients (0, 3) and (1, 0)
    × Restores
    (coefficients 2 2
    (p 0 ∷ p 0 ∷ p 0 ∷ p 300 ∷ p 1000 ∷ p 0 ∷ p 0 ∷ p 0 ∷ p 0 ∷ p 0 ∷ p 0 ∷ p 0 ∷ p 0 ∷ p 0 ∷ p 0 ∷ p 0 ∷ []))
    (p 46 ∷ p 29 ∷ p 53 ∷ p 36 ∷ p 22 ∷ p 5 ∷ p 29 ∷ p 12 ∷ m 12 ∷ m 29 ∷ m 5 ∷ m 22 ∷ m 36 ∷ m 53 ∷ m 29 ∷ m 46 ∷ [])
    -- 4 wide and 2 high, and the same coefficients 2 wide and 4 high
    × Restores (coefficients 2 1 (p 100 ∷ m 70 ∷ p 30 ∷ p 9 ∷ m 50 ∷ p 400 ∷ p 0 ∷ m 250 ∷ []))
    (p 12 ∷ p 16 ∷ m 15 ∷ m 7 ∷ m 9 ∷ m 15 ∷ p 22 ∷ p 20 ∷ [])
    × Restores (coefficients 1 2 (p 100 ∷ m 70 ∷ p 30 ∷ p 9 ∷ m 50 ∷ p 400 ∷ p 0 ∷ m 250 ∷ []))
    (p 9 ∷ m 4 ∷ p 1 ∷ p 9 ∷ m 21 ∷ p 29 ∷ p 15 ∷ m 14 ∷ [])
    -- side 8, the smallest square that is clipped: residuals (0, 0) and (0, 1) of 64 equal coefficients
    × (residual (listed (λ i. p 32767) 0 64) 3 3 0 0 ≡ p 32767)
    × (residual (listed (λ i. p 32767) 0 64) 3 3 0 1 ≡ m 15687)
    × (residual (listed (λ i. m 32768) 0 64) 3 3 0 0 ≡ m 32768)
    × (residual (listed (λ i. m 32768) 0 64) 3 3 0 1 ≡ p 15687)

pub inverse_numbers : InverseNumbers
unfolding inverse_verdict inverse_buffer residual listed
inverse_numbers = (
  (refl, refl),
  (refl, refl),
  (refl, refl),
  (refl, refl),
  (refl, refl),
  (refl, refl),
  refl,
  refl,
  refl,
  refl,
)

-- a side and a short buffer: the first of the list decides
pub inverse_order :
    RefusesToRestore (coefficients 0 1 []) 1
    × RefusesToRestore (coefficients 1 6 (p 1 ∷ [])) 1
    -- a side alone
    × RefusesToRestore (coefficients 1 0 (p 1 ∷ p 0 ∷ [])) 1
    -- a short buffer alone
    × RefusesToRestore (coefficients 2 1 (p 1 ∷ p 0 ∷ p 0 ∷ p 0 ∷ p 0 ∷ p 0 ∷ p 0 ∷ [])) 5
unfolding inverse_verdict inverse_buffer
inverse_order = ((refl, refl), (refl, refl), (refl, refl), (refl, refl))
