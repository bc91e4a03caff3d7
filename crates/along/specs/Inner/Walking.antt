-- The walk over what is kept of a block, as its loop begins and as it leaves it.
use Rattle.std.specs.Prelude.{◌≡◌, List, ℕ, ◌*◌, ◌^◌, ◌≤◌, length, get_or}
use Rattle.price.specs.Rule.{is_zero}
use Rattle.price.specs.Price.{uncoded}
use Rattle.price.specs.Walk.{walked}
use Rattle.price.specs.Inner.OnePass.{walk}
use Rattle.scaling.specs.declared.scale.Scale.{Scale}
use Rattle.weights.specs.declared.prices.Prices.{Prices}
use Rattle.weights.specs.declared.kept.Kept.{Kept}
use Rattle.weights.specs.Inner.Prices.{rule_by}
use Rattle.weights.specs.Inner.Places.{kept_places, Weighable, Standing}
use Rattle.weights.specs.Inner.Chosen.{rule_of, places_of}
use Rattle.step.specs.declared.Walk.{Walk}
use Rattle.step.specs.Inner.Totals.{totals_of}
use Rattle.along.specs.declared.Walked.{Walked}

-- the walk over magnitudes that are kept by rows can begin with `start`
pub record BeginsAt (p : Prices) (g : Scale) (start : Walk) (w h : ℕ) (kept : List ℕ) : Type 0 where
  pub weighable : Weighable p g w h kept
  pub left : uncoded (rule_by p g) (kept_places g w h kept) ≤ start.base
  pub base : start.base ≤ 2 ^ 61

-- so the walk over a block with `first`
pub record Begins (k : Kept) (first : Walk) : Type 0 where
  pub left : uncoded (rule_of k) (places_of k) ≤ first.base
  pub base : first.base ≤ 2 ^ 61

-- the walk from `first`: its best price and its cut, and its magnitudes, all of which are 0 from `end` on
pub record WalkedAlong (p : Prices) (g : Scale) (first : Walk) (w h : ℕ) (kept after : List ℕ)
    (r : Walked) : Type 0 where
  pub best : r.walk.best ≡ (walk (rule_by p g) 0 (totals_of first) (kept_places g w h kept)).best
  pub cut : r.walk.cut ≡ (walk (rule_by p g) 0 (totals_of first) (kept_places g w h kept)).cut
  pub room : length after ≡ w * h
  pub levels : Standing w h after (walked (rule_by p g) (is_zero first.prev) (kept_places g w h kept))
  pub within : r.end ≤ w * h
  pub tail : (k : ℕ) → r.end ≤ k
      → get_or (walked (rule_by p g) (is_zero first.prev) (kept_places g w h kept)) k 0 ≡ 0

abbrev pub WalkedOver : Kept → (first : Walk) → (after : List ℕ) → Walked → Type 0
WalkedOver k first after r =
    WalkedAlong k.weights.prices k.weights.scale first k.scan.w k.scan.h k.magnitudes.now after r
