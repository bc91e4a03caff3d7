-- D of a block that the skip clears is below 2^57, whatever its side and QP: each L is below 2^b, so that 14564 errors
-- of it come to at most 2^37. So the price that such a block reports fits, and no refusal has to be asked of it.
use mathlib.Core.Path.{◌≡◌}
use mathlib.Core.Bool.{true}
use Prim.Native.Nat.{ℕ, ◌+◌, ◌-◌, ◌*◌, ◌/◌, ◌^◌, ◌≤◌, ◌<◌}
use native.Mathlib.Nat.{mul-le-mul, mul-le-mul_right, mul_left_comm, mul-div-le}
use native.Mathlib.Omega.{arith}
use lib.Pow.{pow_mono, pow-add}
use lib.ListN.{length, get_or}
use Rattle.refusals.specs.Sides.{most_log2}
use Rattle.refusals.specs.Faults.{passed}
use Rattle.tables.specs.Scales.{error_scale}
use Rattle.price.specs.Level.{shift_of, distortion, threshold}
use Rattle.price.proofs.Level.{distortion_of_0}
use Rattle.price.proofs.Bounds.{uncoded_at_most}
use Rattle.coding.specs.Block.{Quant, area, log2_of, scale_here, shift_here, rule_of, places, is_skipped}
use Rattle.coding.specs.Call.{quant_verdict, uncoded_here}
use Rattle.coding.proofs.Accepted.{Accepted, no_fault}
use Rattle.coding.proofs.Promises.{L-count, all_below_if_skipped}

-- the error of 0, where q is no smaller than the least scale of document 01
skipped_error : (l qp q L : ℕ) → l ≤ 19 → qp ≤ 63 → 14564 ≤ q → L ≤ 2 ^ shift_of l qp
    → L * error_scale l q / 2 ^ 20 ≤ 9436896
unfolding shift_of error_scale
skipped_error l qp q L hl hq some h =
    let b = 19 - l + qp / 6 in
    let E = 2 ^ (28 + l) / q in
    let whole : q * E ≤ 2 ^ (28 + l) = mul-div-le (2 ^ (28 + l)) q in
    let fewer : 14564 * E ≤ q * E = mul-le-mul_right E some in
    let few : 14564 * E ≤ 2 ^ (28 + l) = omega arith in
    let near : L * (14564 * E) ≤ 2 ^ b * 2 ^ (28 + l) = mul-le-mul h few in
    let top : 2 ^ (b + (28 + l)) ≤ 2 ^ 57 = pow_mono {i = b + (28 + l)} {j = 57} (omega arith) in
    omega (arith, near, top, pow-add 2 b (28 + l), mul_left_comm L 14564 E)

pub skipped_place : (l qp q L : ℕ) → l ≤ 19 → qp ≤ 63 → 14564 ≤ q → L ≤ 2 ^ shift_of l qp
    → distortion (shift_of l qp) (error_scale l q) L 0 ≤ 2 ^ 47 - 1
skipped_place l qp q L hl hq some h =
    let e = skipped_error l qp q L hl hq some h in
    rw (distortion_of_0 (shift_of l qp) (error_scale l q) L) (omega (arith, mul-le-mul e e))

module _ (c : Quant) (ok : quant_verdict c ≡ passed) (some : 14564 ≤ scale_here c) (skips : is_skipped c ≡ true) where
  facts : Accepted c
  facts = no_fault c ok

  few : area c ≤ 2 ^ most_log2 * 2 ^ most_log2
  unfolding area
  few =
      mul-le-mul (pow_mono {i = c.lw} {j = most_log2} facts.wide.1)
      (pow_mono {i = c.lh} {j = most_log2} facts.high.1)

  each : (k : ℕ) → k < length (places c) → (rule_of c).dist (get_or (places c) k 0) 0 ≤ 2 ^ 47 - 1
  unfolding rule_of shift_here log2_of threshold
  each k h =
      skipped_place (log2_of c) c.settings.qp (scale_here c) (get_or (places c) k 0)
      (omega (arith, facts.wide.1, facts.high.1)) facts.qp some (below k h)
    where
      below : (k : ℕ) → k < length (places c) → get_or (places c) k 0 ≤ 2 ^ shift_here c
      below k h = omega (arith, all_below_if_skipped c ok skips k (omega (arith, L-count c ok)))

  pub skipped_d_below : uncoded_here c < 2 ^ 57
  unfolding uncoded_here
  skipped_d_below =
      omega (
        arith,
        uncoded_at_most (rule_of c) (2 ^ 47 - 1) (places c) each,
        mul-le-mul_right (2 ^ 47 - 1) few,
        L-count c ok,
      )
