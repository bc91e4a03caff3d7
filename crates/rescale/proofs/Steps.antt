-- A level scaled back as the code does it fits 16 bits, and is the definition's: what factor and shift have in common
-- goes out of both. Where QP/6 is above log2 of the side, that is the whole shift, and nothing is left to round;
-- elsewhere it is the whole power of QP/6. The factor that is left fits 16 bits, and the half and the shift are small.
use mathlib.Core.Path.{◌≡◌, refl, sym, ap, ◌∙◌}
use mathlib.Core.List.{List}
use Prim.Native.Nat.{ℕ, ◌+◌, ◌-◌, ◌*◌, ◌/◌, ◌^◌, ◌≤◌, ◌<◌}
use native.Mathlib.Nat.{mul_assoc, mul-le-mul}
use native.Mathlib.Omega.{arith}
use lib.Pow.{pow-add, pow-lt, pow_mono, pow_pos}
use lib.IntN.{ℤ, pos, ◌+ℤ◌, ◌*ℤ◌, +ℤ_assoc}
use lib.Signed.{shr_z}
use mir.Syntax.{w16}
use mir.Val.{SFits}
use Rattle.integers.specs.Clip.{clipped}
use Rattle.integers.proofs.Ring.{dist_right, *-assoc}
use Rattle.integers.proofs.Floor.{floor_cancel}
use Rattle.integers.proofs.Clip.{clipped_fits}
use Rattle.refusals.specs.Sides.{most_log2}
use Rattle.tables.specs.Scales.{scale_of}
use Rattle.decoding.specs.Scaling.{factor, scaled_back}
use Rattle.rescale.specs.Inner.Step.{stepped}

pub stepped_fits : (times : ℤ) (half down : ℕ) (level : ℤ) → SFits w16 (stepped times half down level)
unfolding stepped
stepped_fits times half down level = clipped_fits _

-- a product with F, with H added and the last D bits dropped, of which 2^k is common to all but r
common : (z : ℤ) (g h d k r F H D : ℕ) → r < 2 ^ k → F ≡ g * 2 ^ k → H ≡ h * 2 ^ k + r → D ≡ d + k
    → shr_z (z *ℤ pos F +ℤ pos H) (2 ^ D) ≡ shr_z (z *ℤ pos g +ℤ pos h) (2 ^ d)
common z g h d k r F H D l f i e =
    let n = 2 ^ k in
    let product : z *ℤ pos F ≡ (z *ℤ pos g) *ℤ pos n =
    ap (λ (m : ℕ). z *ℤ pos m) f ∙ sym (*-assoc z (pos g) (pos n)) in
    let whole : z *ℤ pos F +ℤ pos H ≡ (z *ℤ pos g +ℤ pos h) *ℤ pos n +ℤ pos r =
    ap (λ (m : ℕ). z *ℤ pos F +ℤ pos m) i
    ∙ ap (λ (y : ℤ). y +ℤ pos (h * n + r)) product
    ∙ sym (+ℤ_assoc ((z *ℤ pos g) *ℤ pos n) (pos (h * n)) (pos r))
    ∙ ap (λ (y : ℤ). y +ℤ pos r) (sym (dist_right (z *ℤ pos g) (pos h) (pos n))) in
    ap (λ (y : ℤ). shr_z y (2 ^ D)) whole
    ∙ ap (λ (m : ℕ). shr_z ((z *ℤ pos g +ℤ pos h) *ℤ pos n +ℤ pos r) m) (ap (λ (m : ℕ). 2 ^ m) e ∙ pow-add 2 d k)
    ∙ floor_cancel (z *ℤ pos g +ℤ pos h) (2 ^ d) n r (pow_pos d) l

module _ (row : List ℕ) (l qp : ℕ) (z : ℤ) where
  pub nothing_dropped : l < qp / 6 → stepped (pos (scale_of row qp * 2 ^ (qp / 6 - 1 - l))) 0 0 z ≡ scaled_back row l qp z
  unfolding stepped scaled_back factor
  nothing_dropped h =
      let s = scale_of row qp in
      let u = qp / 6 - 1 - l in
      let power : qp / 6 ≡ u + (1 + l) = omega arith in
      let half : 1 + l - 1 ≡ l = omega arith in
      ap clipped
      (sym
      (common z (s * 2 ^ u) 0 0 (1 + l) (2 ^ l) (s * 2 ^ (qp / 6)) (2 ^ (1 + l - 1)) (1 + l)
      (pow-lt {i = l} {j = 1 + l} (omega arith))
      (ap (λ (m : ℕ). s * 2 ^ m) power ∙ ap (λ (m : ℕ). s * m) (pow-add 2 u (1 + l))
      ∙ sym (mul_assoc s (2 ^ u) (2 ^ (1 + l))))
      (omega (arith, ap (λ (m : ℕ). 2 ^ m) half))
      (omega arith)))

  pub some_dropped : qp / 6 ≤ l
      → stepped (pos (scale_of row qp)) (2 ^ (l - qp / 6)) (1 + l - qp / 6) z ≡ scaled_back row l qp z
  unfolding stepped scaled_back factor
  some_dropped h =
      let s = scale_of row qp in
      let p = qp / 6 in
      let power : 1 + l - 1 ≡ l - p + p = omega arith in
      ap clipped
      (sym
      (common z s (2 ^ (l - p)) (1 + l - p) p 0 (s * 2 ^ p) (2 ^ (1 + l - 1)) (1 + l) (pow_pos p) refl
      (omega (arith, ap (λ (m : ℕ). 2 ^ m) power, pow-add 2 (l - p) p))
      (omega arith)))

-- ---- how large what is left can be
pub factor_small : (s l qp : ℕ) → s ≤ 72 → 1 ≤ l → qp ≤ 63 → s * 2 ^ (qp / 6 - 1 - l) ≤ 18432
factor_small s l qp hs hl hq =
    mul-le-mul hs (pow_mono {i = qp / 6 - 1 - l} {j = 8} (omega arith))

pub half_small : (l p : ℕ) → l ≤ most_log2 → 2 ^ (l - p) ≤ 32
half_small l p h = pow_mono {i = l - p} {j = 5} (omega arith)
