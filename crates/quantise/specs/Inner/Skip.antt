-- What the skip asks of a block, and what it answers: the price of an empty block. Its coefficients are small enough
-- that D is worked out by sums of 32 bits.
use Rattle.std.specs.Prelude.{◌≡◌, List, ℕ, ◌+◌, ◌^◌, ◌≤◌, ℤ, nat_abs}
use Rattle.integers.specs.Sum.{over, on_ℕ, on_max}
use Rattle.scaling.specs.declared.scale.Scale.{Scale}
use Rattle.coding.specs.declared.Coded.{Coded}
use Rattle.coefficients.specs.Inner.Coefficients.{Within, energy, zero_distortion}

pub record Skippable (g : Scale) (block : List ℤ) (top empty : ℕ) : Type 0 where
  pub largest : top ≡ over on_max nat_abs block
  pub few : Within block 32767
  pub small : over on_ℕ energy block ≤ 2 ^ 31
  pub whole : over on_ℕ (zero_distortion g) block ≤ 2 ^ 57
  pub modest : empty ≤ 2 ^ 48

pub record SkippedAs (g : Scale) (block : List ℤ) (empty : ℕ) (r : Coded) : Type 0 where
  pub count : r.count ≡ 0
  pub price : r.price ≡ over on_ℕ (zero_distortion g) block + empty
