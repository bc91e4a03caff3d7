-- The cheapest block, over prices small enough to add up by hand: at each tie the first in dictionary order, and once a
-- block that is cheaper than the walk's.
use Rattle.std.proofs.Common.{◌≡◌, ℕ, zero, suc, ◌+◌, ◌-◌, ◌*◌, Bool, cond, ltb, List, [], ◌∷◌, refl}
use Rattle.price.specs.Rule.{Rule}
use Rattle.price.specs.Price.{price}
use Rattle.price.specs.Walk.{written}
use Rattle.price.specs.Cheapest.{cheapest}
use Rattle.price.specs.Inner.Search.{some, found, found_price}

-- A place is the distortion of its 0; below 16 m is 1, else 2, and a magnitude 1 below m has distortion 4
top : ℕ → ℕ
top p = cond (ltb p 16) 1 2

dist : ℕ → ℕ → ℕ
dist p zero = p
dist p (suc a) = 4 * (top p - suc a)

-- a unit of a magnitude has rate 4, and a nonzero one 3 more after a 0
rate : Bool → ℕ → ℕ
rate z zero = 0
rate z (suc a) = 4 * suc a + cond z 3 0

small : Rule
small = record { top = top; dist = dist; rate = rate; coded = 1; empty = 2; more = 2; last = 1 }

-- the cheapest by the list, by the search, and its price
abbrev Cheapest : List ℕ → List ℕ → ℕ → Type 0
Cheapest ps ls x = (cheapest small ps ≡ ls) × (found small ps ≡ ls) × (found_price small ps ≡ some x)

-- 0 before m, where nothing else is nonzero: 4 + 2 as 1 + 4 + 1
empty_before_coded : Cheapest (4 ∷ []) (0 ∷ []) 6
unfolding small top dist rate cheapest found found_price
empty_before_coded = (refl, refl, refl)

-- m - 1 before m: 1 + (4 + 4) + 1 as 1 + (0 + 8) + 1
m-1_before_m : Cheapest (16 ∷ []) (1 ∷ []) 10
unfolding small top dist rate cheapest found found_price
m-1_before_m = (refl, refl, refl)

-- ending before going on: 1 + 8 + 1 + 6 as 1 + 8 + 2 + 4 + 1
ending_before_going_on : Cheapest (16 ∷ 6 ∷ []) (1 ∷ 0 ∷ []) 16
unfolding small top dist rate cheapest found found_price
ending_before_going_on = (refl, refl, refl)

-- 0 before m, in front of a nonzero level: 1 + 3 + (4 + 4 + 3) + 1 as 1 + 4 + 2 + 8 + 1
zero_before_m : Cheapest (3 ∷ 16 ∷ []) (0 ∷ 1 ∷ []) 16
unfolding small top dist rate cheapest found found_price
zero_before_m = (refl, refl, refl)

-- the walk takes a 0 for 4, as cheap there as a 1, and pays 1 + 4 + (0 + 8 + 3) + 1; with the 1 it is 1 + 4 + 2 + 8 + 1
cheaper_than_the_walk : Cheapest (4 ∷ 16 ∷ []) (1 ∷ 1 ∷ []) 16
unfolding small top dist rate cheapest found found_price
cheaper_than_the_walk = (refl, refl, refl)

the_walk_is_dearer : (written small (4 ∷ 16 ∷ []) ≡ 0 ∷ 2 ∷ []) × (price small (0 ∷ 2 ∷ []) (4 ∷ 16 ∷ []) ≡ 17)
unfolding small top dist rate written price
the_walk_is_dearer = (refl, refl)
