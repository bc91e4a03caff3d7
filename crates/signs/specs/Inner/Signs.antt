-- What is kept of the coefficients of a block, by rows: what the functions that read and write the block say to the
-- ones that choose.
use Rattle.std.specs.Prelude.{◌≡◌, cond, List, ℕ, ◌<◌, leb, length, get_or, ℤ, nat_abs}
use Rattle.integers.specs.Sum.{at}
use Rattle.price.specs.Price.{nonzeros}
use Rattle.scaling.specs.declared.scale.Scale.{Scale}

-- |c| where its m is above 0, else 0
abbrev pub kept_of : Scale → ℤ → ℕ
kept_of g z = cond (leb g.least (nat_abs z)) (nat_abs z) 0

-- what is kept of a block, by rows, and how many of them are not 0
pub record KeptAs (g : Scale) (block : List ℤ) (kept : List ℕ) (r : ℕ) : Type 0 where
  pub room : length kept ≡ length block
  pub each : (k : ℕ) → k < length block → get_or kept k 0 ≡ kept_of g (at block k)
  pub count : r ≡ nonzeros kept
