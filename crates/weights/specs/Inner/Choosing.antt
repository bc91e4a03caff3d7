-- What the walk and the search ask alike of magnitudes that are kept by rows: they can be weighed, and D is over the
-- whole block, of which less is kept.
use Rattle.std.specs.Prelude.{◌≡◌, List, ℕ, ◌^◌, ◌≤◌}
use Rattle.price.specs.Price.{uncoded, nonzeros}
use Rattle.scaling.specs.declared.scale.Scale.{Scale}
use Rattle.weights.specs.declared.prices.Prices.{Prices}
use Rattle.weights.specs.Inner.Prices.{rule_by}
use Rattle.weights.specs.Inner.Places.{kept_places, Weighable}

-- the block's D is d, and n of its magnitudes are kept
pub record Choosable (p : Prices) (g : Scale) (d w h : ℕ) (kept : List ℕ) (n : ℕ) : Type 0 where
  pub weighable : Weighable p g w h kept
  pub left : uncoded (rule_by p g) (kept_places g w h kept) ≤ d
  pub small : d ≤ 2 ^ 60
  pub count : n ≡ nonzeros kept
