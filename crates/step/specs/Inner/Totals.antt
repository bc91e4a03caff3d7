-- The walk's totals as code holds them, and what the functions of a place say of them.
use Rattle.std.specs.Prelude.{ℕ, ◌+◌, ◌^◌, ◌≤◌, ◌<◌}
use Rattle.price.specs.Level.{nearest, distortion}
use Rattle.price.specs.Rule.{is_zero}
use Rattle.price.specs.Inner.OnePass.{Totals}
use Rattle.scaling.specs.declared.scale.Scale.{Scale}
use Rattle.weights.specs.declared.prices.Prices.{Prices}
use Rattle.weights.specs.Inner.Prices.{zero_price, Fine}
use Rattle.step.specs.declared.Walk.{Walk}

abbrev pub totals_of : Walk → Totals
totals_of w = record { base = w.base; best = w.best; cut = w.cut; prev = w.prev }

-- a place with m = 0 pays for a 0, and is passed
abbrev pub passed : Prices → Totals → Totals
passed p w = record { base = w.base + zero_price p (is_zero w.prev); best = w.best; cut = w.cut; prev = 0 }

-- what a step at place n needs
pub record Ready (p : Prices) (g : Scale) (w : Walk) (n L : ℕ) : Type 0 where
  pub fine : Fine p g L
  pub some : 1 ≤ nearest g.shift L
  pub left : distortion g.shift g.error L 0 ≤ w.base
  pub base : w.base ≤ 2 ^ 62
  pub place : n < 4096
