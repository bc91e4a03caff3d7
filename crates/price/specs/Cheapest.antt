-- The cheapest block of all: among all blocks whose magnitudes are each 0, m, or m - 1 where m is at least 2, the one
-- of least price; at equal price the one whose magnitudes in scan order come first in dictionary order. All blocks are
-- listed in that order here, so it is the first of least price. specs/Inner/Search.antt says how it is found without
-- the list.
use Rattle.std.specs.Prelude.{ℕ, zero, suc, List, [], ◌∷◌, ◌++◌, map}
use Rattle.price.specs.Rule.{Rule}
use Rattle.price.specs.Price.{price}
use Rattle.price.specs.Walk.{first_least}

-- the magnitudes allowed where m is the rounded one, the smaller first
abbrev pub allowed : ℕ → List ℕ
allowed zero = 0 ∷ []
allowed (suc zero) = 0 ∷ 1 ∷ []
allowed (suc (suc n)) = 0 ∷ suc n ∷ suc (suc n) ∷ []

-- each magnitude in front of each block
unfoldable pub fronted : List ℕ → List (List ℕ) → List (List ℕ)
fronted [] bs = []
fronted (a ∷ ms) bs = map (λ b. a ∷ b) bs ++ fronted ms bs

-- all blocks over the places, in dictionary order
unfoldable pub blocks : Rule → List ℕ → List (List ℕ)
unfolding fronted
blocks r [] = [] ∷ []
blocks r (p ∷ ps) = fronted (allowed (r.top p)) (blocks r ps)

-- the block without a nonzero level, which is the first of them
unfoldable pub empty_block : List ℕ → List ℕ
empty_block [] = []
empty_block (p ∷ ps) = 0 ∷ empty_block ps

unfoldable pub cheapest : Rule → List ℕ → List ℕ
unfolding price first_least blocks empty_block
cheapest r ps = first_least (λ ls. price r ls ps) (empty_block ps) (blocks r ps)
