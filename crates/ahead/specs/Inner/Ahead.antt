-- One place of the search as functions say it: what is chosen of two, a place passed and a place weighed, and what must
-- be known before it for the sums to fit.
use Rattle.std.specs.Prelude.{◌≡◌, true, cond, ℕ, ◌+◌, ◌^◌, ◌≤◌, ltb}
use Rattle.price.specs.Level.{nearest, distortion}
use Rattle.scaling.specs.declared.scale.Scale.{Scale}
use Rattle.weights.specs.declared.prices.Prices.{Prices}
use Rattle.weights.specs.Inner.Prices.{Fine}
use Rattle.weights.specs.Inner.Offers.{bare, offered}
use Rattle.ahead.specs.declared.Ahead.{Ahead}
use Rattle.ahead.specs.declared.Choice.{Choice}
use Rattle.ahead.specs.declared.Weighed.{Weighed}

-- 0 at the price x, or a at the price y where that is strictly less
pub record ChosenOf (x y a : ℕ) (r : Choice) : Type 0 where
  pub level : r.level ≡ cond (ltb y x) a 0
  pub price : r.price ≡ cond (ltb y x) y x

abbrev pub passed_by : Prices → Ahead → Ahead
passed_by p t = record { zero = t.zero + p.zeros; level = t.zero + p.zero; rest = t.rest }

pub record Ready (p : Prices) (g : Scale) (t : Ahead) (L : ℕ) : Type 0 where
  pub fine : Fine p g L
  pub some : 1 ≤ nearest g.shift L
  pub zero : t.zero ≤ 2 ^ 63 + 2 ^ 61
  pub level : t.level ≤ 2 ^ 63 + 2 ^ 61
  pub rest : t.rest ≤ 2 ^ 60

-- the price behind a nonzero level: it is the last one, unless going on is strictly cheaper
abbrev pub behind_by : Prices → Ahead → ℕ
behind_by p t = cond (ltb (t.level + p.more) (t.rest + p.last)) (t.level + p.more) (t.rest + p.last)

-- a 0 at the place, and the offer there, but for what depends on the level before
abbrev pub zero_by : Scale → Ahead → ℕ → ℕ
zero_by g t L = t.zero + distortion g.shift g.error L 0

abbrev pub level_by : Prices → Scale → Ahead → ℕ → ℕ
level_by p g t L = behind_by p t + bare p g L (offered true p g L)

pub record WeighedBy (p : Prices) (g : Scale) (t : Ahead) (L : ℕ) (r : Weighed) : Type 0 where
  pub zero : ChosenOf (zero_by g t L + p.zeros) (level_by p g t L + p.heads) (offered true p g L)
      (record { level = r.taken.after_zero; price = r.ahead.zero })
  pub level : ChosenOf (zero_by g t L + p.zero) (level_by p g t L + p.head) (offered true p g L)
      (record { level = r.taken.after_level; price = r.ahead.level })
  pub rest : r.ahead.rest ≡ t.rest + distortion g.shift g.error L 0
  pub on : r.taken.goes_on ≡ ltb (t.level + p.more) (t.rest + p.last)
  pub offer : (1 ≤ offered true p g L) × (bare p g L (offered true p g L) ≤ 2 ^ 61 + 2 ^ 59)

-- so, and both levels are of 15 bits
pub record WeighedSmall (p : Prices) (g : Scale) (t : Ahead) (L : ℕ) (r : Weighed) : Type 0 where
  pub by : WeighedBy p g t L r
  pub small : (r.taken.after_zero ≤ 32767) × (r.taken.after_level ≤ 32767)
