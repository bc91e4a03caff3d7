-- The walk's running totals, as code holds them. base: the coded flag, the costs and more flags of what is walked, and
-- the distortions of 0 behind it. best and cut: the least price of a cut so far, and that cut. prev: the level before.
-- One pass over the places finds the cut of specs/Walk.antt and its price (proofs/OnePass.antt).
use Rattle.std.specs.Prelude.{ℕ, zero, suc, ◌+◌, ◌-◌, cond, not, ◌&&◌, List, [], ◌∷◌, nat_lt}
use Rattle.price.specs.Rule.{Rule, is_zero, cost}
use Rattle.price.specs.Price.{uncoded}
use Rattle.price.specs.Walk.{chosen}

pub record Totals : Type 0 where
  pub base : ℕ
  pub best : ℕ
  pub cut : ℕ
  pub prev : ℕ

-- the more flag, which only a nonzero level has
abbrev pub flag : Rule → ℕ → ℕ
flag r zero = 0
flag r (suc a) = r.more

-- nothing is walked, and the empty block is the cheapest so far; the first place counts as after a nonzero level. d: D,
-- of the places or of more than those
unfoldable pub start_with : Rule → ℕ → Totals
start_with r d = record { base = d + r.coded; best = d + r.empty; cut = 0; prev = 1 }

unfoldable pub start : Rule → List ℕ → Totals
unfolding uncoded start_with
start r ps = start_with r (uncoded r ps)

-- place n takes magnitude a; with it the total is b, and a cut behind it costs l
unfoldable pub advance : Rule → ℕ → Totals → ℕ → ℕ → ℕ → Totals
advance r n w a b l =
    let t = not (is_zero a) && nat_lt l w.best in
    record { base = b + flag r a; best = cond t l w.best; cut = cond t (suc n) w.cut; prev = a }

-- one step, at place n, which is p
unfoldable pub step : Rule → ℕ → Totals → ℕ → Totals
unfolding cost chosen advance
step r n w p =
    let z = is_zero w.prev in
    let a = chosen r z p in
    let b = w.base - r.dist p 0 + cost r z p a in
    advance r n w a b (b + r.last)

-- the steps over the places ps, the first of which is place n
unfoldable pub walk : Rule → ℕ → Totals → List ℕ → Totals
unfolding step
walk r n w [] = w
walk r n w (p ∷ ps) = walk r (suc n) (step r n w p) ps
