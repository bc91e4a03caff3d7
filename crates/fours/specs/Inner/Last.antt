-- The last stage of a block with a side of 4: its sums need a bit more than 32, and are rounded and clipped at once.
use Rattle.std.specs.Prelude.{List, ℕ, ◌+◌, ◌*◌, ℤ}
use Rattle.integers.specs.Sum.{at}
use Rattle.integers.specs.Floor.{rounded}
use Rattle.integers.specs.Clip.{clipped}
use Rattle.tables.specs.Matrix.{matrix}
use Rattle.unfold.specs.Inner.Back.{value_at}

-- residual n of four sums x
abbrev pub last_of : (ℕ → ℤ) → ℕ → ℤ
last_of x n = clipped (rounded (value_at matrix 4 x n) 17)

-- residual n of line j of a list of lines of 4 sums
abbrev pub last_at : List ℤ → (j n : ℕ) → ℤ
last_at x j n = last_of (λ k. at x (j * 4 + k)) n
