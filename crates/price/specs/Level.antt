-- What becomes of one coefficient: its magnitude scaled, rounded and compared with the threshold, and how far a
-- magnitude is from it. The scale q, the shift b and the error scale e are arguments, since block sides, QP and scale
-- tables vary them.
use Rattle.std.specs.Prelude.{ℕ, ◌+◌, ◌-◌, ◌*◌, ◌/◌, ◌^◌, Bool, cond, ℤ, pos, negsuc, ◌*ℤ◌, neg_ℤ, unsigned_abs}
use Rattle.std.proofs.Math.IntN.{sub_ℕ}
use Rattle.std.specs.Int.Signed.{shr_z}

-- b = 19 - l + QP/6, l being log2 of the side
unfoldable pub shift_of : ℕ → ℕ → ℕ
shift_of l qp = 19 - l + qp / 6

-- L = |c|·q
unfoldable pub scaled : ℕ → ℤ → ℕ
scaled q c = unsigned_abs c * q

-- m = (L + 2^(b-1)) >> b
unfoldable pub nearest : ℕ → ℕ → ℕ
nearest b L = (L + 2 ^ (b - 1)) / 2 ^ b

-- the error of magnitude a: ((L - a·2^b)·E) >> 20, flooring also below 0
unfoldable pub error : ℕ → ℕ → ℕ → ℕ → ℤ
error b e L a = shr_z (sub_ℕ L (a * 2 ^ b) *ℤ pos e) (2 ^ 20)

abbrev pub square : ℕ → ℕ
square x = x * x

-- distortion is its square
unfoldable pub distortion : ℕ → ℕ → ℕ → ℕ → ℕ
unfolding error
distortion b e L a = square (unsigned_abs (error b e L a))

-- the quick skip clears a block in which every L is below this
unfoldable pub threshold : Bool → ℕ → ℕ
threshold intra_slice b = 2 ^ b - cond intra_slice 201 153 * 2 ^ (b - 9)

-- magnitude a with the sign of its coefficient c
unfoldable pub signed : ℤ → ℕ → ℤ
signed (pos n) a = pos a
signed (negsuc n) a = neg_ℤ (pos a)
