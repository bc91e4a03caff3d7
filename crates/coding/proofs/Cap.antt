-- The source's cap on L never acts here, so that the definitions leave it out. The source goes on with L or with the
-- largest i32 less 2^(b-1), whichever is smaller; where a coefficient has 16 bits and QP is at most 63 that is L, at
-- every place and whatever the sides.
use mathlib.Core.Path.{◌≡◌, ap, ◌∙◌}
use mathlib.Core.Bool.{false}
use mathlib.Core.List.{List}
use Prim.Native.Nat.{ℕ, ◌+◌, ◌-◌, ◌*◌, ◌/◌, ◌^◌, ◌≤◌, ◌<◌, min}
use native.Mathlib.Nat.{mul-le-mul, min-eq_left}
use native.Mathlib.Omega.{arith}
use borrow.Author.Tests.{ltb-false}
use lib.Pow.{pow_mono}
use lib.ListN.{length, get_or, length-map}
use lib.IntN.{ℤ, pos, nat_abs}
use Rattle.integers.specs.Sum.{at}
use Rattle.integers.proofs.Lists.{map_at}
use Rattle.tables.specs.Scales.{forward, scale_of}
use Rattle.price.specs.Level.{shift_of, scaled}
use Rattle.tables.proofs.Range.{scale_range}
use Rattle.coding.specs.Block.{Quant, scale_here, shift_here, log2_of, block_places, scanned, places}
use Rattle.coding.specs.Call.{qp_fault}

-- the L that the source goes on with
abbrev pub capped : ℕ → ℕ → ℕ
capped b L = min L (2 ^ 31 - 1 - 2 ^ (b - 1))

-- of one coefficient: L is at most 2^15·26214, and 2^(b-1) at most 2^28
pub below_the_cap : (l qp : ℕ) (z : ℤ) → qp ≤ 63 → nat_abs z ≤ 32768
    → scaled (scale_of forward qp) z ≤ 2 ^ 31 - 1 - 2 ^ (shift_of l qp - 1)
unfolding scaled shift_of
below_the_cap l qp z hq hz =
    let L : nat_abs z * scale_of forward qp ≤ 32768 * 26214 = mul-le-mul hz (scale_range qp).1 in
    let half : 2 ^ (19 - l + qp / 6 - 1) ≤ 2 ^ 28 = pow_mono {i = 19 - l + qp / 6 - 1} {j = 28} (omega arith) in
    omega arith

-- of every call by document 01's scales that refusal 2 lets pass, as its buffer has 16 bits for a coefficient
module _ (c : Quant) (scales : c.fixed.scales ≡ forward) (qp : qp_fault.holds c ≡ false)
    (few : (k : ℕ) → nat_abs (at c.buffer k) ≤ 32768) where
  coefficient_at : ℕ → ℤ
  coefficient_at p = at c.buffer (get_or (block_places c) p 0)

  L-at : (p : ℕ) → p < length (places c)
      → get_or (places c) p 0 ≡ scaled (scale_of forward c.settings.qp) (coefficient_at p)
  unfolding places scanned scale_here coefficient_at
  L-at p h =
      let n = length-map (scanned c) (λ z. scaled (scale_here c) z) in
      let m = length-map (block_places c) (λ p. at c.buffer p) in
      let z = map_at 0 (pos 0) (λ p. at c.buffer p) (block_places c) p (omega arith) in
      map_at (pos 0) 0 (λ z. scaled (scale_here c) z) (scanned c) p (omega arith)
      ∙ ap (λ (z : ℤ). scaled (scale_here c) z) z
      ∙ ap (λ (r : List ℕ). scaled (scale_of r c.settings.qp) (coefficient_at p)) scales

  pub cap_never_acts : (p : ℕ) → p < length (places c)
      → capped (shift_here c) (get_or (places c) p 0) ≡ get_or (places c) p 0
  unfolding shift_here qp_fault coefficient_at
  cap_never_acts p h =
      rw (L-at p h)
      (min-eq_left
      (below_the_cap (log2_of c) c.settings.qp (coefficient_at p) (ltb-false 63 c.settings.qp qp)
      (few (get_or (block_places c) p 0))))
