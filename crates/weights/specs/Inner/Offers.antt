-- The one offer of a place: the cheaper of the nonzero magnitudes that it may take, by what they cost beside their run.
use Rattle.std.specs.Prelude.{◌≡◌, Bool, cond, ℕ, ◌+◌, ◌-◌, ◌^◌, ◌≤◌, eqb}
use Rattle.price.specs.Level.{nearest, distortion}
use Rattle.price.specs.Walk.{cheaper}
use Rattle.scaling.specs.declared.scale.Scale.{Scale}
use Rattle.weights.specs.declared.prices.Prices.{Prices}
use Rattle.weights.specs.declared.offers.Offer.{Offer}
use Rattle.weights.specs.Inner.Prices.{level_price}

-- what a magnitude of 1 and more costs beside its run
unfoldable pub bare : Prices → Scale → ℕ → ℕ → ℕ
unfolding distortion level_price
bare p g L a = distortion g.shift g.error L a + level_price p a

-- of two magnitudes the cheaper; at a tie the upper, or the lower where that goes first
abbrev pub first_of : Bool → (ℕ → ℕ) → (upper lower : ℕ) → ℕ
first_of lowerFirst f upper lower = cond lowerFirst (cheaper f lower upper) (cheaper f upper lower)

-- the cheaper of m and m - 1; m alone where it is 1
unfoldable pub offered : Bool → Prices → Scale → ℕ → ℕ
unfolding nearest cheaper bare
offered lowerFirst p g L =
    let m = nearest g.shift L in
    let a = first_of lowerFirst (bare p g L) m (m - 1) in
    cond (eqb m 1) m a

pub record Offered (lowerFirst : Bool) (p : Prices) (g : Scale) (L : ℕ) (r : Offer) : Type 0 where
  pub is : r.level ≡ offered lowerFirst p g L
  pub price : r.price ≡ bare p g L r.level
  pub some : 1 ≤ r.level
  pub small : r.price ≤ 2 ^ 61 + 2 ^ 59
