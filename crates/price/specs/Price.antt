-- The price of a finished block, from its magnitudes alone: no walk is spoken of. With its last nonzero level at place
-- p it is the costs of places 0..p, the distortions of 0 after p, the coded flag, the more flag per nonzero level
-- before p and the last flag for p. The empty block's is D and the empty flag.
use Rattle.std.specs.Prelude.{ℕ, zero, suc, ◌+◌, ◌*◌, Bool, false, List, [], ◌∷◌, take, drop}
use Rattle.price.specs.Rule.{Rule, is_zero, cost}

-- D: the distortions of 0
unfoldable pub uncoded : Rule → List ℕ → ℕ
uncoded r [] = 0
uncoded r (p ∷ ps) = r.dist p 0 + uncoded r ps

-- the distortions of the levels
unfoldable pub squared_error : Rule → List ℕ → List ℕ → ℕ
squared_error r [] ps = 0
squared_error r (a ∷ ls) [] = 0
squared_error r (a ∷ ls) (p ∷ ps) = r.dist p a + squared_error r ls ps

-- the costs of the levels; the first place counts as after a 0 where z says so
unfoldable pub costs : Rule → Bool → List ℕ → List ℕ → ℕ
unfolding cost
costs r z [] ps = 0
costs r z (a ∷ ls) [] = 0
costs r z (a ∷ ls) (p ∷ ps) = cost r z p a + costs r (is_zero a) ls ps

-- the count of nonzero levels
unfoldable pub nonzeros : List ℕ → ℕ
nonzeros [] = 0
nonzeros (zero ∷ ls) = nonzeros ls
nonzeros (suc a ∷ ls) = suc (nonzeros ls)

-- the size with magnitude a in front, from the size n without it
abbrev pub in_front : ℕ → ℕ → ℕ
in_front a (suc n) = suc (suc n)
in_front zero zero = 0
in_front (suc a) zero = 1

-- the size of a block: the count of its places up to and with the last nonzero level, 0 where all are 0
unfoldable pub size : List ℕ → ℕ
size [] = 0
size (a ∷ ls) = in_front a (size ls)

abbrev pub all_zero : List ℕ → Bool
all_zero ls = is_zero (size ls)

-- the price by the size: 0, or p + 1 for a last nonzero level at place p
unfoldable pub price_to : ℕ → Rule → List ℕ → List ℕ → ℕ
unfolding uncoded costs nonzeros
price_to zero r ls ps = uncoded r ps + r.empty
price_to (suc p) r ls ps =
    costs r false (take (suc p) ls) ps + uncoded r (drop (suc p) ps) + r.coded + nonzeros (take p ls) * r.more + r.last

unfoldable pub price : Rule → List ℕ → List ℕ → ℕ
unfolding size price_to
price r ls ps = price_to (size ls) r ls ps
