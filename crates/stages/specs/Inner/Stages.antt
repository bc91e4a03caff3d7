-- A stage: each line of a list of lines is transformed and goes down a column of its own in a grid, so that the columns
-- of the first stage are the lines of the second.
use Rattle.std.specs.Prelude.{◌≡◌, List, ℕ, ◌+◌, ◌*◌, ◌^◌, ◌<◌, ℤ, ◌*ℤ◌}
use Rattle.integers.specs.Sum.{sum, sum_ℤ, at}
use Rattle.tables.specs.Matrix.{Matrices}

-- coefficient k of line j of a list of lines
unfoldable pub stage_at : Matrices → (N : ℕ) → List ℤ → (j k : ℕ) → ℤ
unfolding sum
stage_at M N src j k = sum_ℤ N (λ n. M N k n *ℤ at src (j * N + n))

-- the first m lines, each down a column of its own: number k of line j is g j k
abbrev pub Columns : (g : ℕ → ℕ → ℤ) (n w : ℕ) (column : ℕ → ℕ) (dst : List ℤ) (m : ℕ) → Type 0
Columns g n w column dst m = (j k : ℕ) → j < m → k < n → at dst (k * w + column j) ≡ g j k

-- the coefficients of the first m lines, f of each
abbrev pub Staged : (M : Matrices) (f : ℤ → ℤ) (l lines : ℕ) (src dst : List ℤ) (m : ℕ) → Type 0
Staged M f l lines src dst m = Columns (λ j k. f (stage_at M (2 ^ l) src j k)) (2 ^ l) lines (λ j. j) dst m
