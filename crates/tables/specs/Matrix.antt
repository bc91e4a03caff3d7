-- T_N, the matrix of the N-point transform, by the rule of 31 numbers. The rule is over the largest side B and the
-- numbers c(a), so that another side with other numbers is one more instance; document 01 has B = 32 and c from column
-- 0 of T_32.
use Rattle.std.specs.Prelude.{cond, List, [], ◌∷◌, ◌++◌, ltb, get_or, ℤ, pos, neg_ℤ}
use Rattle.std.specs.Prelude.{ℕ, zero, suc, ◌+◌, ◌*◌, ◌-◌, ◌/◌, ◌%◌, ◌^◌}
use Rattle.integers.specs.Tests.{listed}

-- a = (2n + 1)·k mod 4B, replaced by 4B - a when above 2B
unfoldable pub angle : (B k n : ℕ) → ℕ
angle B k n = let a = (2 * n + 1) * k % (4 * B) in cond (ltb (2 * B) a) (4 * B - a) a

-- c(a) for a below B, and -c(2B - a) above; a = B never arises
unfoldable pub wave : (B : ℕ) → (ℕ → ℤ) → ℕ → ℤ
wave B c a = cond (ltb a B) (c a) (neg_ℤ (c (2 * B - a)))

-- the matrix of side B: row 0 is 64 throughout
unfoldable pub by_rule : (B : ℕ) → (ℕ → ℤ) → ℕ → ℕ → ℤ
unfolding angle wave
by_rule B c zero n = pos 64
by_rule B c (suc k) n = wave B c (angle B (suc k) n)

-- c(1) to c(31): column 0 of T_32 below its first row
unfoldable pub first_column : ℕ → ℤ
first_column a =
    pos
    (get_or
    (0
    ∷ 90 ∷ 90 ∷ 90 ∷ 89 ∷ 88 ∷ 87 ∷ 85 ∷ 84 ∷ 82 ∷ 80 ∷ 78 ∷ 75 ∷ 73 ∷ 70 ∷ 67 ∷ 64
    ∷ 61 ∷ 57 ∷ 54 ∷ 50 ∷ 47 ∷ 43 ∷ 39 ∷ 35 ∷ 30 ∷ 26 ∷ 22 ∷ 18 ∷ 13 ∷ 9 ∷ 4 ∷ [])
    a 0)

-- a matrix for each side: its entry by side, row and column
abbrev pub Matrices : Type 0
Matrices = (N k n : ℕ) → ℤ

-- T_N[k][n] is T_32[k·32/N][n]
unfoldable pub matrix : Matrices
unfolding by_rule first_column
matrix N k n = by_rule 32 first_column (k * (32 / N)) n

-- the matrix of side 2^l by rows
unfoldable pub by_rows : ℕ → List ℤ
unfolding matrix listed
by_rows l = listed (λ i. matrix (2 ^ l) (i / 2 ^ l) (i % 2 ^ l)) 0 (4 ^ l)

-- those of the five sides, one after the other, as they are listed
unfoldable pub five_matrices : List ℤ
unfolding by_rows
five_matrices = by_rows 1 ++ (by_rows 2 ++ (by_rows 3 ++ (by_rows 4 ++ by_rows 5)))
