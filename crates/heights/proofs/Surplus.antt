-- What stands behind a block counts for nothing: its extremes are of its own samples and its own levels.
-- Assumes nothing.
use mathlib.Core.Path.{◌≡◌, ap}
use mathlib.Core.List.{List, map}
use Prim.Native.Nat.{ℕ, ◌*◌, ◌^◌, ◌<◌}
use lib.ListN.{take}
use lib.IntN.{ℤ}
use Rattle.integers.specs.Sum.{on_max, at}
use Rattle.integers.proofs.Sums.{sum_ext}
use Rattle.decoding.specs.Scaling.{scaled_back, coefficients_back}
use Rattle.decoding.specs.Inverse.{residuals}
use Rattle.heights.specs.Extremes.{decoded, above, darker, lighter, extremes}

-- levels that agree on the block
pub front_decoded : (row : List ℕ) (l qp : ℕ) (levels levels' : List ℤ)
    → take (2 ^ l * 2 ^ l) levels ≡ take (2 ^ l * 2 ^ l) levels'
    → decoded row l qp levels ≡ decoded row l qp levels'
unfolding decoded coefficients_back
front_decoded row l qp levels levels' f =
    ap (λ (m : List ℤ). residuals (map (scaled_back row l qp) m) l l) f

-- lists that agree on the first n
module _ (n : ℕ) (r r' s s' : List ℤ) (e : (i : ℕ) → i < n → at r i ≡ at s i)
    (e' : (i : ℕ) → i < n → at r' i ≡ at s' i) where
  pub same_darker : darker n r r' ≡ darker n s s'
  unfolding darker
  same_darker =
      sum_ext on_max n (λ i. above (at r i) (at r' i)) (λ i. above (at s i) (at s' i)) (λ i h. rw (e i h, e' i h))

  pub same_lighter : lighter n r r' ≡ lighter n s s'
  unfolding lighter
  same_lighter =
      sum_ext on_max n (λ i. above (at r' i) (at r i)) (λ i. above (at s' i) (at s i)) (λ i h. rw (e i h, e' i h))

pub front_decides : (row : List ℕ) (l qp : ℕ) (r s levels levels' : List ℤ)
    → ((i : ℕ) → i < 2 ^ l * 2 ^ l → at r i ≡ at s i) → take (2 ^ l * 2 ^ l) levels ≡ take (2 ^ l * 2 ^ l) levels'
    → extremes row l qp r levels ≡ extremes row l qp s levels'
unfolding extremes
front_decides row l qp r s levels levels' e f =
    let n = 2 ^ l * 2 ^ l in
    let d = decoded row l qp levels in
    let same : d ≡ decoded row l qp levels' = front_decoded row l qp levels levels' f in
    let k : (i : ℕ) → i < n → at d i ≡ at (decoded row l qp levels') i = λ i h. ap (λ (m : List ℤ). at m i) same in
    rw (same_darker n r d s (decoded row l qp levels') e k, same_lighter n r d s (decoded row l qp levels') e k)
