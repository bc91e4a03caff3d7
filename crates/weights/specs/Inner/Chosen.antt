-- What the walk and the search answer alike: of what is kept, the block that a definition writes of its places, and its
-- price.
use Rattle.std.specs.Prelude.{◌≡◌, List, ℕ, ◌+◌, ◌*◌, length}
use Rattle.price.specs.Rule.{Rule}
use Rattle.price.specs.Price.{uncoded, price}
use Rattle.weights.specs.declared.kept.Kept.{Kept}
use Rattle.weights.specs.Inner.Prices.{rule_by}
use Rattle.weights.specs.Inner.Places.{kept_places, Standing, Cleared}

abbrev pub rule_of : Kept → Rule
rule_of k = rule_by k.weights.prices k.weights.scale

-- its places, in scan order
abbrev pub places_of : Kept → List ℕ
places_of k = kept_places k.weights.scale k.scan.w k.scan.h k.magnitudes.now

-- levels that have room for the block's, and are all 0 yet
pub record Blank (k : Kept) (levels : List ℕ) : Type 0 where
  pub room : length levels ≡ k.scan.w * k.scan.h
  pub cleared : Cleared levels

-- the block that `write` makes of the places, by rows, and its price x: what is not kept stays uncoded
pub record ChosenBy (write : Rule → List ℕ → List ℕ) (k : Kept) (after : List ℕ) (x : ℕ) : Type 0 where
  pub room : length after ≡ k.scan.w * k.scan.h
  pub levels : Standing k.scan.w k.scan.h after (write (rule_of k) (places_of k))
  pub price : x + uncoded (rule_of k) (places_of k)
      ≡ k.d + price (rule_of k) (write (rule_of k) (places_of k)) (places_of k)
