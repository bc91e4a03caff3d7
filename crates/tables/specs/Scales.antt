-- The scales by QP mod 6, q forward and s back, and the error scale E of a side and a scale. A row of scales is an
-- argument, so that another row is one more list.
use Rattle.std.specs.Prelude.{List, [], ◌∷◌, ℕ, ◌+◌, ◌/◌, ◌%◌, ◌^◌, get_or}

unfoldable pub forward : List ℕ
forward = 26214 ∷ 23302 ∷ 20560 ∷ 18396 ∷ 16384 ∷ 14564 ∷ []

-- s, by which levels are scaled back
unfoldable pub back : List ℕ
back = 40 ∷ 45 ∷ 51 ∷ 57 ∷ 64 ∷ 72 ∷ []

-- the scale of a QP: q of the first row, s of the second
unfoldable pub scale_of : List ℕ → ℕ → ℕ
scale_of row qp = get_or row (qp % 6) 0

-- E = floor(2^(28+l) / q)
unfoldable pub error_scale : (l q : ℕ) → ℕ
error_scale l q = 2 ^ (28 + l) / q
