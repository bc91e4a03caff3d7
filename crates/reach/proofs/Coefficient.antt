-- How far a coefficient comes back off: its level m, scaled back, lies as near to it as `strayed` says. The level is
-- within half a step of the coefficient times q, the scales q and s together nearly come to 2^20, and the shift rounds.
use mathlib.Core.Path.{◌≡◌, refl, sym, ap, ◌∙◌}
use Prim.Native.Nat.{ℕ, suc, ◌+◌, ◌-◌, ◌*◌, ◌/◌, ◌^◌, ◌≤◌}
use native.Mathlib.Nat.{mul_comm, mul_left_comm, mul-le-mul_left}
use native.Mathlib.Omega.{arith}
use lib.Dec.{lit<}
use lib.Pow.{pow-add}
use lib.IntN.{ℤ, pos, negsuc, neg_ℤ, nat_abs, ◌*ℤ◌, *ℤ_comm}
use Rattle.integers.specs.Floor.{rounded}
use Rattle.integers.proofs.Parts.{above, below}
use Rattle.integers.proofs.Ring.{*-assoc, *-neg}
use Rattle.refusals.specs.Sides.{most_log2}
use Rattle.tables.specs.Scales.{forward, back, scale_of}
use Rattle.decoding.specs.Scaling.{factor, scaled_back}
use Rattle.price.specs.Level.{shift_of, scaled, nearest, signed}
use Rattle.reach.specs.Bound.{plain_level, apart, strayed}
use Rattle.reach.proofs.Near.{Near, near_is, near_within, near_through, near_neg, near_times, near_right}
use Rattle.reach.proofs.Near.{near_cancel, near_rounded, near_clipped}

-- ---- the level
near_nearest : (b L : ℕ) → 1 ≤ b → Near (pos (2 ^ b) *ℤ pos (nearest b L)) (pos L) (2 ^ (b - 1))
unfolding nearest
near_nearest b L h = near_rounded (pos L) b h

near_level : (b q : ℕ) (c : ℤ) → 1 ≤ b
    → Near (pos (2 ^ b) *ℤ signed c (nearest b (scaled q c))) (pos q *ℤ c) (2 ^ (b - 1))
unfolding signed scaled
near_level b q (pos a) h = near_is refl (ap pos (mul_comm a q)) (near_nearest b (a * q) h)
near_level b q (negsuc a) h =
    near_is (sym (*-neg (pos (2 ^ b)) (pos (nearest b (suc a * q)))))
    (ap (λ (n : ℕ). neg_ℤ (pos n)) (mul_comm (suc a) q) ∙ sym (*-neg (pos q) (pos (suc a))))
    (near_neg (near_nearest b (suc a * q) h))

-- ---- the scales
near_naturals : (a b : ℕ) → Near (pos a) (pos b) (apart a b)
unfolding above below apart
near_naturals a b = record { up = omega arith; down = omega arith }

near_scales : (q s : ℕ) (c : ℤ) → nat_abs c ≤ 32736
    → Near (pos s *ℤ (pos q *ℤ c)) (pos (2 ^ 20) *ℤ c) (32736 * apart (q * s) (2 ^ 20))
near_scales q s c small =
    let d = apart (q * s) (2 ^ 20) in
    near_is
    (ap (λ (n : ℕ). pos n *ℤ c) (mul_comm q s) ∙ *-assoc (pos s) (pos q) c)
    refl
    (near_within (near_right c (near_naturals (q * s) (2 ^ 20)))
    (omega (arith, mul-le-mul_left d small, mul_comm d 32736)))

-- ---- scaled back
module _ (l qp : ℕ) (hl : l ≤ most_log2) (level : ℤ) where
  abbrev s : ℕ
  s = scale_of back qp

  abbrev y : ℤ
  y = rounded (level *ℤ pos (factor back qp)) (1 + l)

  shifted : 2 ^ (19 - l) * 2 ^ (1 + l) ≡ 2 ^ 20
  shifted = sym (pow-add 2 (19 - l) (1 + l)) ∙ ap (λ (k : ℕ). 2 ^ k) (let e : 19 - l + (1 + l) ≡ 20 = omega arith in e)

  half : 2 ^ (19 - l) * 2 ^ (1 + l - 1) ≡ 2 ^ 19
  half =
      sym (pow-add 2 (19 - l) (1 + l - 1))
      ∙ ap (λ (k : ℕ). 2 ^ k) (let e : 19 - l + (1 + l - 1) ≡ 19 = omega arith in e)

  factors : 2 ^ (19 - l) * factor back qp ≡ s * 2 ^ shift_of l qp
  unfolding factor shift_of
  factors =
      mul_left_comm (2 ^ (19 - l)) s (2 ^ (qp / 6)) ∙ ap (λ (n : ℕ). s * n) (sym (pow-add 2 (19 - l) (qp / 6)))

  near_step : Near (pos (2 ^ 20) *ℤ y) (pos s *ℤ (pos (2 ^ shift_of l qp) *ℤ level)) (2 ^ 19)
  near_step =
      let z = level *ℤ pos (factor back qp) in
      near_within
      (near_is
      (sym (*-assoc (pos (2 ^ (19 - l))) (pos (2 ^ (1 + l))) y) ∙ ap (λ (n : ℕ). pos n *ℤ y) shifted)
      (ap (λ (w : ℤ). pos (2 ^ (19 - l)) *ℤ w) (*ℤ_comm level (pos (factor back qp)))
      ∙ sym (*-assoc (pos (2 ^ (19 - l))) (pos (factor back qp)) level)
      ∙ ap (λ (n : ℕ). pos n *ℤ level) factors
      ∙ *-assoc (pos s) (pos (2 ^ shift_of l qp)) level)
      (near_times (2 ^ (19 - l)) (near_rounded z (1 + l) (omega arith))))
      (omega (arith, half))

module _ (l qp : ℕ) (hl : l ≤ most_log2) (c : ℤ) (small : nat_abs c ≤ 32736) where
  shift_some : 1 ≤ shift_of l qp
  unfolding shift_of
  shift_some = omega arith

  near_unclipped : Near (rounded (plain_level l qp c *ℤ pos (factor back qp)) (1 + l)) c (strayed l qp / 2 ^ 20)
  unfolding plain_level strayed
  near_unclipped =
      let s = scale_of back qp in
      let q = scale_of forward qp in
      let level = signed c (nearest (shift_of l qp) (scaled q c)) in
      near_cancel (2 ^ 20) (rounded (level *ℤ pos (factor back qp)) (1 + l)) c (strayed l qp) (lit< tt)
      (near_within
      (near_through
      (near_through (near_step l qp hl level) (near_times s (near_level (shift_of l qp) q c shift_some)))
      (near_scales q s c small))
      (omega arith))

  pub near_back : Near (scaled_back back l qp (plain_level l qp c)) c (strayed l qp / 2 ^ 20)
  unfolding scaled_back
  near_back = near_clipped _ c (omega arith) near_unclipped
