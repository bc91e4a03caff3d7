-- An encoder's lambda at a QP: 0.57 times two to the (QP - 24)/3, in millionths.
use Rattle.std.specs.Prelude.{cond, ℕ, ◌+◌, ◌*◌, ◌/◌, ◌%◌, ◌^◌, eqb}

-- 570000 times two to the k/3, k below 3, to the nearest whole number
unfoldable pub third : ℕ → ℕ
third k = cond (eqb k 0) 570000 (cond (eqb k 1) 718155 904819)

-- and times two to the QP/3 - 8, whole thirds of a QP, to the nearest
abbrev pub usual_of : ℕ → ℕ
usual_of qp = (third (qp % 3) * 2 ^ (qp / 3) + 128) / 256
