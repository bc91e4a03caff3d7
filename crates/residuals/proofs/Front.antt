-- The residuals depend on nothing behind the block: those of the front of a buffer are the buffer's. So the call may
-- hand over the block alone.
use mathlib.Core.Path.{◌≡◌, sym, ◌∙◌, ap}
use mathlib.Core.List.{List}
use Prim.Native.Nat.{ℕ, ◌+◌, ◌*◌, ◌/◌, ◌%◌, ◌^◌}
use native.Mathlib.Nat.{mul_comm}
use native.Mathlib.Omega.{arith}
use lib.ListN.{take}
use lib.Seq.{get_or-take}
use lib.IntN.{ℤ, pos, ◌*ℤ◌}
use Rattle.integers.specs.Sum.{on_ℤ, sum_ℤ, at}
use Rattle.integers.specs.Floor.{rounded}
use Rattle.integers.specs.Clip.{clipped}
use Rattle.integers.proofs.Sums.{sum_ext}
use Rattle.integers.proofs.Grid.{inside}
use Rattle.integers.proofs.Tests.{listed_at, listed_length}
use Rattle.integers.proofs.Fill.{filled_all}
use Rattle.tables.specs.Matrix.{matrix}
use Rattle.decoding.specs.Inverse.{product_back, residual, residuals}

module _ (buffer : List ℤ) (lw lh : ℕ) where
  abbrev front : List ℤ
  front = take (2 ^ lw * 2 ^ lh) buffer

  product_front : (y x : ℕ) → product_back front (2 ^ lw) (2 ^ lh) y x ≡ product_back buffer (2 ^ lw) (2 ^ lh) y x
  unfolding product_back
  product_front y x =
      let w = 2 ^ lw in
      let h = 2 ^ lh in
      sum_ext on_ℤ h (λ v. sum_ℤ w (λ u. (matrix h v y *ℤ matrix w u x) *ℤ at front (v * w + u)))
      (λ v. sum_ℤ w (λ u. (matrix h v y *ℤ matrix w u x) *ℤ at buffer (v * w + u)))
      (λ v hv.
      sum_ext on_ℤ w (λ u. (matrix h v y *ℤ matrix w u x) *ℤ at front (v * w + u))
      (λ u. (matrix h v y *ℤ matrix w u x) *ℤ at buffer (v * w + u))
      (λ u hu.
      ap (λ (z : ℤ). (matrix h v y *ℤ matrix w u x) *ℤ z)
      (get_or-take (w * h) buffer (v * w + u) (pos 0) (omega (arith, inside w v u hu h hv, mul_comm w h)))))

  entry : List ℤ → ℕ → ℤ
  entry c i = residual c lw lh (i / 2 ^ lw) (i % 2 ^ lw)

  front_same : residuals front lw lh ≡ residuals buffer lw lh
  unfolding residuals residual entry
  front_same =
      let n = 2 ^ lw * 2 ^ lh in
      filled_all (pos 0) (residuals front lw lh) (residuals buffer lw lh) n
      (listed_length (entry front) 0 n ∙ sym (listed_length (entry buffer) 0 n))
      (omega (arith, listed_length (entry front) 0 n))
      (λ i hi.
      listed_at (pos 0) (entry front) n i hi
      ∙ ap (λ (z : ℤ). clipped (rounded z 17)) (product_front (i / 2 ^ lw) (i % 2 ^ lw))
      ∙ sym (listed_at (pos 0) (entry buffer) n i hi))

-- the front that a caller counts as w · h
pub residuals_front : (buffer : List ℤ) (w h lw lh : ℕ) → w ≡ 2 ^ lw → h ≡ 2 ^ lh
    → residuals (take (w * h) buffer) lw lh ≡ residuals buffer lw lh
residuals_front buffer w h lw lh ew eh = rw (ew, eh) (front_same buffer lw lh)
