-- What the functions of the quantiser say to one another: the rooms that are lent, what is asked of a block, and the
-- block that is written.
use Rattle.std.specs.Prelude.{◌≡◌, List, map, ℕ, ◌*◌, ◌^◌, ◌≤◌, length, ℤ}
use Rattle.integers.specs.Sum.{at}
use Rattle.scan.specs.Scan.{scan}
use Rattle.scan.specs.Order.{in_order, laid}
use Rattle.price.specs.Level.{scaled}
use Rattle.price.specs.Price.{uncoded, nonzeros, price}
use Rattle.scaling.specs.declared.scale.Scale.{Scale}
use Rattle.weights.specs.declared.prices.Prices.{Prices}
use Rattle.weights.specs.Inner.Prices.{Fine, rule_by}
use Rattle.weights.specs.Inner.Places.{Cleared}
use Rattle.coefficients.specs.Inner.Coefficients.{Within}
use Rattle.coding.specs.declared.Coded.{Coded}
use Rattle.coding.specs.declared.Mode.{Mode}
use Rattle.coding.specs.Block.{written_in, signs}

-- rooms that have the block's length, and no level yet
pub record Lent (block : List ℤ) (scan kept levels : List ℕ) : Type 0 where
  pub scan_room : length scan ≡ length block
  pub kept_room : length kept ≡ length block
  pub levels_room : length levels ≡ length block
  pub cleared : Cleared levels

-- the coefficients' L in scan order
abbrev pub places_by : Scale → (w h : ℕ) → List ℤ → List ℕ
places_by g w h block = map (λ z. scaled g.q z) (in_order w h block)

-- what refusals 6 to 9 leave of a block, whose D is d
pub record Codable (p : Prices) (g : Scale) (w h : ℕ) (block : List ℤ) (d : ℕ) : Type 0 where
  pub room : length block ≡ w * h
  pub fine : (k : ℕ) → Fine p g (scaled g.q (at block k))
  pub few : Within block 32767
  pub is : d ≡ uncoded (rule_by p g) (places_by g w h block)
  pub small : d ≤ 2 ^ 60

pub record CodedAs (mode : Mode) (p : Prices) (g : Scale) (w h : ℕ) (block after : List ℤ) (r : Coded) : Type 0 where
  pub buffer :
      after ≡ laid (scan w h) (signs (in_order w h block) (written_in mode (rule_by p g) (places_by g w h block)))
      block
  pub count : r.count ≡ nonzeros (written_in mode (rule_by p g) (places_by g w h block))
  pub price : r.price ≡ price (rule_by p g) (written_in mode (rule_by p g) (places_by g w h block))
      (places_by g w h block)
