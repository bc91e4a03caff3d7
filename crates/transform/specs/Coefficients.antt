-- The coefficients of a block of residuals w wide and h high, by rows: the two-sided product with the matrices, rounded
-- once.
use Rattle.std.specs.Prelude.{List, ℕ, ◌+◌, ◌*◌, ◌/◌, ◌%◌, ◌^◌, ℤ, ◌*ℤ◌}
use Rattle.integers.specs.Sum.{sum, sum_ℤ, at}
use Rattle.integers.specs.Floor.{rounded}
use Rattle.integers.specs.Tests.{listed}
use Rattle.tables.specs.Matrix.{matrix}

-- S: the sum over y, x of T_h[v][y] · T_w[u][x] · residual(y, x)
unfoldable pub product : List ℤ → (w h v u : ℕ) → ℤ
unfolding sum matrix
product r w h v u = sum_ℤ h (λ y. sum_ℤ w (λ x. (matrix h v y *ℤ matrix w u x) *ℤ at r (y * w + x)))

-- coefficient (v, u) of a block with log2 sides lw and lh: (S + 2^(s-1)) shifted right by s, flooring, s = 7 + log2 w +
-- log2 h
unfoldable pub coefficient : List ℤ → (lw lh v u : ℕ) → ℤ
unfolding product
coefficient r lw lh v u = rounded (product r (2 ^ lw) (2 ^ lh) v u) (7 + lw + lh)

-- stored at v·w + u
unfoldable pub coefficients : List ℤ → (lw lh : ℕ) → List ℤ
unfolding coefficient listed
coefficients r lw lh = listed (λ i. coefficient r lw lh (i / 2 ^ lw) (i % 2 ^ lw)) 0 (2 ^ lw * 2 ^ lh)
