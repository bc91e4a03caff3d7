-- Scaling back: levels become coefficients again, each by itself.
use Rattle.std.specs.Prelude.{List, map, ℕ, ◌+◌, ◌*◌, ◌/◌, ◌^◌, ℤ, pos, ◌*ℤ◌, take}
use Rattle.integers.specs.Floor.{rounded}
use Rattle.integers.specs.Clip.{clipped}
use Rattle.tables.specs.Scales.{scale_of}

-- what a level is multiplied by: s × 2^(QP/6), by a row of scales
unfoldable pub factor : (row : List ℕ) (qp : ℕ) → ℕ
unfolding scale_of
factor row qp = scale_of row qp * 2 ^ (qp / 6)

-- level × s × 2^(QP/6), plus 2^l, shifted right by 1 + l, clipped to 16 bits; l is log2 of the side
unfoldable pub scaled_back : (row : List ℕ) (l qp : ℕ) → ℤ → ℤ
unfolding factor clipped
scaled_back row l qp level = clipped (rounded (level *ℤ pos (factor row qp)) (1 + l))

-- those of the square block at the front of a buffer
unfoldable pub coefficients_back : (row : List ℕ) (l qp : ℕ) → List ℤ → List ℤ
unfolding scaled_back
coefficients_back row l qp levels = map (scaled_back row l qp) (take (2 ^ l * 2 ^ l) levels)
