-- Which finished blocks are priced, by what, and how far: a level put back can cost nearly 2^61, and 1024 of them more
-- than 64 bits, so that a price is held at 2^62.
use Rattle.std.specs.Prelude.{◌≡◌, cond, List, map, ℕ, ◌+◌, ◌-◌, ◌*◌, ◌^◌, ◌≤◌, ◌<◌, ltb, length, get_or, take}
use Rattle.scan.specs.Scan.{most_places}
use Rattle.price.specs.Level.{nearest, distortion}
use Rattle.price.specs.Rule.{Allowed}
use Rattle.price.specs.Price.{nonzeros}
use Rattle.scaling.specs.declared.scale.Scale.{Scale}
use Rattle.weights.specs.declared.prices.Prices.{Prices}
use Rattle.weights.specs.Inner.Prices.{Fine}

-- a price held at 2^62: from there on it is only known to be too high
unfoldable pub held : ℕ → ℕ
held x = cond (ltb x (2 ^ 62)) x (2 ^ 62)

-- the places of a block whose |c| in scan order are cs
abbrev pub places_of : Scale → List ℕ → List ℕ
places_of g cs = map (λ c. c * g.q) cs

-- what a place with this |c| adds to D
abbrev pub uncoded_at : Scale → ℕ → ℕ
uncoded_at g c = distortion g.shift g.error (c * g.q) 0

-- the flags of a coded block of size n
abbrev pub flags_to : Prices → List ℕ → ℕ → ℕ
flags_to p ls n = p.coded + nonzeros (take (n - 1) ls) * p.more + p.last

-- magnitudes that can be priced: each is 0, m or m - 1 at its place, and refusals 7 and 8 let the block pass
pub record Priceable (p : Prices) (g : Scale) (levels cs : List ℕ) : Type 0 where
  pub long : length levels ≡ length cs
  pub few : length cs ≤ most_places
  pub fine : (k : ℕ) → Fine p g (get_or cs k 0 * g.q)
  pub allowed : (k : ℕ) → k < length cs → Allowed (nearest g.shift (get_or cs k 0 * g.q)) (get_or levels k 0)
