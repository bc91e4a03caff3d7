-- The inverse transform: the residuals of a block of coefficients w wide and h high, by rows. The two-sided product with
-- the transposed matrices, rounded once and clipped.
use Rattle.std.specs.Prelude.{List, ℕ, ◌+◌, ◌*◌, ◌/◌, ◌%◌, ◌^◌, ℤ, ◌*ℤ◌}
use Rattle.integers.specs.Sum.{sum, sum_ℤ, at}
use Rattle.integers.specs.Floor.{rounded}
use Rattle.integers.specs.Clip.{clipped}
use Rattle.integers.specs.Tests.{listed}
use Rattle.tables.specs.Matrix.{matrix}

-- the sum over v, u of T_h[v][y] · T_w[u][x] · coefficient(v, u)
unfoldable pub product_back : List ℤ → (w h y x : ℕ) → ℤ
unfolding sum matrix
product_back c w h y x = sum_ℤ h (λ v. sum_ℤ w (λ u. (matrix h v y *ℤ matrix w u x) *ℤ at c (v * w + u)))

-- residual (y, x) of a block with log2 sides lw and lh: that sum plus 2^16, shifted right by 17, clipped to 16 bits
unfoldable pub residual : List ℤ → (lw lh y x : ℕ) → ℤ
unfolding product_back clipped
residual c lw lh y x = clipped (rounded (product_back c (2 ^ lw) (2 ^ lh) y x) 17)

-- stored at y·w + x
unfoldable pub residuals : List ℤ → (lw lh : ℕ) → List ℤ
unfolding residual listed
residuals c lw lh = listed (λ i. residual c lw lh (i / 2 ^ lw) (i % 2 ^ lw)) 0 (2 ^ lw * 2 ^ lh)
