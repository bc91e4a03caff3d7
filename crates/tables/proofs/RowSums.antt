-- The magnitudes of a row of the matrix of side N add up to at most 64·N: this bounds every coefficient; those of the
-- first half of an odd row to at most 64·N/2. One computed test each over the sides; rows 0 and N/2 reach the first.
use Prim.Native.Nat.{ℕ, suc, ◌+◌, ◌*◌, ◌^◌, ◌<◌, ◌≤◌}
use native.Mathlib.Omega.{arith}
use lib.Dec.{T, leb, leb→le}
use lib.IntN.{nat_abs}
use mathlib.Core.Bool.{Bool}
use Rattle.integers.specs.Sum.{sum, sum_ℕ}
use Rattle.integers.specs.Tests.{all}
use Rattle.integers.proofs.Tests.{all_at}
use Rattle.refusals.specs.Sides.{most_log2}
use Rattle.tables.specs.Matrix.{matrix}
use Rattle.tables.specs.Inner.Symmetry.{Light}

weight : ℕ → ℕ → ℕ
weight N k = sum_ℕ N (λ n. nat_abs (matrix N k n))

row_test : ℕ → Bool
row_test l = all (2 ^ l) (λ k. leb (weight (2 ^ l) k) (64 * 2 ^ l))

computed : T (all (suc most_log2) row_test)
unfolding all row_test weight sum matrix
computed = tt

pub row_sum : (l : ℕ) → l ≤ most_log2 → (k : ℕ) → k < 2 ^ l
    → sum_ℕ (2 ^ l) (λ n. nat_abs (matrix (2 ^ l) k n)) ≤ 64 * 2 ^ l
unfolding row_test weight
row_sum l hl k hk =
    leb→le (weight (2 ^ l) k) (64 * 2 ^ l)
    (all_at (2 ^ l) (λ k. leb (weight (2 ^ l) k) (64 * 2 ^ l))
    (all_at (suc most_log2) row_test computed l (omega arith)) k hk)

half_weight : ℕ → ℕ → ℕ
half_weight h k = sum_ℕ h (λ n. nat_abs (matrix (h + h) (2 * k + 1) n))

half_test : ℕ → Bool
half_test l = all (2 ^ l) (λ k. leb (half_weight (2 ^ l) k) (64 * 2 ^ l))

halves_computed : T (all most_log2 half_test)
unfolding all half_test half_weight sum matrix
halves_computed = tt

pub matrix_light : (l : ℕ) → l < most_log2 → Light matrix (2 ^ l)
unfolding half_test half_weight
matrix_light l hl k hk =
    leb→le (half_weight (2 ^ l) k) (64 * 2 ^ l)
    (all_at (2 ^ l) (λ k. leb (half_weight (2 ^ l) k) (64 * 2 ^ l))
    (all_at most_log2 half_test halves_computed l hl) k hk)
