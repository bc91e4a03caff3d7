-- The odd rows of the matrix of side 2h as the butterflies read them: their first halves by columns, so that entry n·h
-- + k is M_2h[2k + 1][n]; of any family M, and of T.
use Rattle.std.specs.Prelude.{List, ℕ, ◌+◌, ◌*◌, ◌/◌, ◌%◌, ℤ}
use Rattle.integers.specs.Tests.{listed}
use Rattle.tables.specs.Matrix.{Matrices, matrix}

unfoldable pub odd_rows_of : Matrices → ℕ → List ℤ
unfolding listed
odd_rows_of M h = listed (λ i. M (h + h) (2 * (i % h) + 1) (i / h)) 0 (h * h)

unfoldable pub odd_rows : ℕ → List ℤ
unfolding odd_rows_of matrix
odd_rows h = odd_rows_of matrix h
