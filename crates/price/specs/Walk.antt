-- The walk and its cut. In scan order each place takes the cheapest magnitude allowed after those before it, ties
-- preferring 0, then m. Of the walk cut behind each of its nonzero levels, and of the empty block, the cheapest is
-- written, ties preferring the empty block, then the earliest cut. Both choices are the first of least value in a list.
use Rattle.std.specs.Prelude.{ℕ, zero, suc, ◌-◌, ◌<◌, Bool, false, cond, List, [], ◌∷◌, nat_lt, slice_index}
use Rattle.price.specs.Rule.{Rule, is_zero, cost}
use Rattle.price.specs.Price.{price}

-- b where its value is strictly less, else a
unfoldable pub cheaper : {A : Type 0} → (A → ℕ) → A → A → A
cheaper f a b = cond (nat_lt (f b) (f a)) b a

-- of a and those behind it the first of least value
unfoldable pub first_least : {A : Type 0} → (A → ℕ) → A → List A → A
unfolding cheaper
first_least f a [] = a
first_least f a (b ∷ bs) = first_least f (cheaper f a b) bs

-- the magnitude taken at the place p; where m is 0 or 1, m - 1 is 0 once more
unfoldable pub chosen : Rule → Bool → ℕ → ℕ
unfolding cost first_least
chosen r z p = let m = r.top p in first_least (cost r z p) 0 (m ∷ (m - 1) ∷ [])

-- the magnitudes walked; z: the level before the first place is 0
unfoldable pub walked : Rule → Bool → List ℕ → List ℕ
unfolding chosen
walked r z [] = []
walked r z (p ∷ ps) = let a = chosen r z p in a ∷ walked r (is_zero a) ps

-- is the level before place k a 0? z stands before the first
abbrev pub zero_before : Bool → List ℕ → ℕ → Bool
zero_before z ls zero = z
zero_before z ls (suc k) = is_zero (slice_index ls k)

-- the block cut behind its first k places
unfoldable pub cut_at : ℕ → List ℕ → List ℕ
cut_at k [] = []
cut_at zero (a ∷ ls) = 0 ∷ cut_at zero ls
cut_at (suc k) (a ∷ ls) = a ∷ cut_at k ls

-- the cuts that may be made: behind no place, which is the empty block, and behind a nonzero level
abbrev pub Cut : List ℕ → ℕ → Type 0
Cut ls zero = Unit
Cut ls (suc k) = 0 < slice_index ls k

-- the cuts behind a nonzero level of ls, in order, where n places come before ls
unfoldable pub ends : ℕ → List ℕ → List ℕ
ends n [] = []
ends n (zero ∷ ls) = ends (suc n) ls
ends n (suc a ∷ ls) = suc n ∷ ends (suc n) ls

-- the cut taken
unfoldable pub cut_of : Rule → List ℕ → ℕ
unfolding price first_least walked cut_at ends
cut_of r ps = let ls = walked r false ps in first_least (λ k. price r (cut_at k ls) ps) 0 (ends 0 ls)

-- the magnitudes of the block written
unfoldable pub written : Rule → List ℕ → List ℕ
unfolding walked cut_at cut_of
written r ps = cut_at (cut_of r ps) (walked r false ps)
