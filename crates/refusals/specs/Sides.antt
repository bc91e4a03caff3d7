-- The sides that a block may have, by their log2: 1 and up to this one. A block of a larger side is another number
-- here.
use Rattle.std.specs.Prelude.{ℕ}

abbrev pub most_log2 : ℕ
most_log2 = 5

-- the largest QP
abbrev pub most_qp : ℕ
most_qp = 63
