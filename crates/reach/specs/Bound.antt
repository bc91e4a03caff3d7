-- How far off a sample can be where every level is m: a bound by side and QP alone. Rounding, scaling back and the two
-- transforms each add their share; `gain` and `skew` are of the matrices, and proofs/Matrices.antt computes that they
-- hold.
use Rattle.std.specs.Prelude.{List, [], ◌∷◌, map, ℕ, ◌+◌, ◌-◌, ◌*◌, ◌/◌, ◌^◌, get_or, ℤ}
use Rattle.tables.specs.Scales.{forward, back, scale_of}
use Rattle.price.specs.Level.{shift_of, scaled, nearest, signed}

-- the level m of a coefficient, with its sign; and those of a list of coefficients
unfoldable pub plain_level : (l qp : ℕ) → ℤ → ℤ
unfolding signed nearest shift_of scaled scale_of forward
plain_level l qp c = signed c (nearest (shift_of l qp) (scaled (scale_of forward qp) c))

unfoldable pub plain_levels : (l qp : ℕ) → List ℤ → List ℤ
unfolding plain_level
plain_levels l qp c = map (plain_level l qp) c

-- |a - b|
unfoldable pub apart : ℕ → ℕ → ℕ
apart a b = (a - b) + (b - a)

-- how far a coefficient of at most 32736 comes back off, in units of 2^-20: half a unit of the rounding, half a step,
-- and what the two scales q and s miss 2^20 by
unfoldable pub strayed : (l qp : ℕ) → ℕ
unfolding scale_of forward back shift_of apart
strayed l qp =
    let s = scale_of back qp in
    2 ^ 19 + s * 2 ^ (shift_of l qp - 1) + 32736 * apart (scale_of forward qp * s) (2 ^ 20)

-- by log2 of the side: the magnitudes of a column add up to at most this
unfoldable pub gain : ℕ → ℕ
gain l = get_or (64 ∷ 128 ∷ 247 ∷ 479 ∷ 941 ∷ 1864 ∷ []) l 0

-- and the products of a column with all columns miss 2^(12+l), for its own, and 0, for the others, by this together
unfoldable pub skew : ℕ → ℕ
skew l = get_or (0 ∷ 0 ∷ 178 ∷ 456 ∷ 1020 ∷ 4048 ∷ []) l 0

-- in units of 2^-(24+2l): the inverse's rounding, a coefficient's error and its rounding at every place, and how far
-- the two transforms are from returning residuals of at most 1023
unfoldable pub missed : (l qp : ℕ) → ℕ
unfolding strayed gain skew
missed l qp =
    let unit = 2 ^ (7 + l + l) in
    let whole = 2 ^ (12 + l) in
    unit * 2 ^ 16
    + gain l * (gain l * (unit * (strayed l qp / 2 ^ 20) + 2 ^ (6 + l + l)))
    + 1023 * skew l * (2 * whole + skew l)

unfoldable pub bound : (l qp : ℕ) → ℕ
unfolding missed
bound l qp = missed l qp / 2 ^ (24 + l + l)
