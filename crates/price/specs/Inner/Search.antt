-- How the cheapest block is found in one pass back and one forth. A rate depends only on whether the level before is 0,
-- so two least prices a place are enough: of what comes from there on after a 0, and after a nonzero level. They are
-- worked out backwards; then the block is read off forwards, 0 before m - 1 before m, and ending before going on. That
-- it is the block of specs/Cheapest.antt is in proofs/Search.antt.
use Rattle.std.specs.Prelude.{ℕ, zero, suc, ◌+◌, Bool, true, false, cond, List, [], ◌∷◌, nat_lt}
use Rattle.price.specs.Rule.{Rule, is_zero, cost}
use Rattle.price.specs.Price.{uncoded}
use Rattle.price.specs.Walk.{cheaper}
use Rattle.price.specs.Cheapest.{empty_block}

-- the least price of some blocks, or none where there is no such block
pub data Least : Type 0 where
  none : Least
  some : ℕ → Least

unfoldable pub plus : ℕ → Least → Least
plus c none = none
plus c (some x) = some (c + x)

-- is the first strictly less?
unfoldable pub under : Least → Least → Bool
under none y = false
under (some x) none = true
under (some x) (some y) = nat_lt x y

-- y where it is strictly less, else x
unfoldable pub lesser : Least → Least → Least
unfolding under
lesser x y = cond (under y x) y x

-- the least price from a place on, but for the coded flag, of what has a nonzero level still to come
pub record Ahead : Type 0 where
  pub after_zero : Least
  pub after_level : Least

abbrev pub after : Bool → Ahead → Least
after true t = t.after_zero
after false t = t.after_level

-- behind a nonzero level come the places ps, of which t is known
module _ (r : Rule) (ps : List ℕ) (t : Ahead) where
  -- it is the last one, and all behind it are 0
  unfoldable pub ending : Least
  unfolding uncoded
  ending = some (r.last + uncoded r ps)

  -- it is not
  unfoldable pub going_on : Least
  unfolding plus
  going_on = plus r.more t.after_level

  unfoldable pub goes_on : Bool
  unfolding ending going_on under
  goes_on = under going_on ending

  unfoldable pub behind : Least
  unfolding ending going_on lesser
  behind = lesser ending going_on

-- the cheaper of the nonzero magnitudes allowed at the place p, m - 1 at a tie; z: the level before it is 0
unfoldable pub offer : Rule → Bool → ℕ → ℕ → ℕ
unfolding cost cheaper
offer r z p zero = 0
offer r z p (suc zero) = 1
offer r z p (suc (suc n)) = cheaper (cost r z p) (suc n) (suc (suc n))

-- at the place p, behind which come the places ps
module _ (r : Rule) (z : Bool) (p : ℕ) (ps : List ℕ) (t : Ahead) where
  -- a 0 here, and a nonzero level to come
  unfoldable pub with_zero : Least
  unfolding cost plus
  with_zero = plus (cost r z p 0) t.after_zero

  -- the magnitude a here
  unfoldable pub with_level : ℕ → Least
  unfolding cost plus behind
  with_level a = plus (cost r z p a) (behind r ps t)

  -- the magnitude taken where m is the rounded one, and the least price with it
  unfoldable pub taken_by : ℕ → ℕ
  unfolding with_zero with_level offer under
  taken_by zero = 0
  taken_by (suc n) = let a = offer r z p (suc n) in cond (under (with_level a) with_zero) a 0

  unfoldable pub least_by : ℕ → Least
  unfolding with_zero with_level offer lesser
  least_by zero = with_zero
  least_by (suc n) = lesser with_zero (with_level (offer r z p (suc n)))

  unfoldable pub taken : ℕ
  unfolding taken_by
  taken = taken_by (r.top p)

-- backwards
unfoldable pub ahead : Rule → List ℕ → Ahead
unfolding least_by
ahead r [] = record { after_zero = none; after_level = none }
ahead r (p ∷ ps) =
    let t = ahead r ps in
    record { after_zero = least_by r true p ps t (r.top p); after_level = least_by r false p ps t (r.top p) }

-- forwards: what follows the magnitude a, which is the rest after a 0 or after a level, or nothing
unfoldable pub read_off : Rule → Bool → List ℕ → List ℕ
unfolding taken goes_on ahead empty_block
read_off r z [] = []
read_off r z (p ∷ ps) =
    let t = ahead r ps in
    let a = taken r z p ps t in
    let on = read_off r (is_zero a) ps in
    let ended = empty_block ps in
    a ∷ cond (is_zero a) on (cond (goes_on r ps t) on ended)

-- the whole: the empty block, and one with nonzero levels only where that is strictly cheaper
unfoldable pub coded_price : Rule → List ℕ → Least
unfolding plus ahead
coded_price r ps = plus r.coded (ahead r ps).after_level

unfoldable pub empty_price : Rule → List ℕ → ℕ
unfolding uncoded
empty_price r ps = uncoded r ps + r.empty

unfoldable pub is_coded : Rule → List ℕ → Bool
unfolding coded_price empty_price under
is_coded r ps = under (coded_price r ps) (some (empty_price r ps))

unfoldable pub found : Rule → List ℕ → List ℕ
unfolding is_coded read_off empty_block
found r ps = let ls = read_off r false ps in let ended = empty_block ps in cond (is_coded r ps) ls ended

unfoldable pub found_price : Rule → List ℕ → Least
unfolding coded_price empty_price lesser
found_price r ps = lesser (some (empty_price r ps)) (coded_price r ps)
