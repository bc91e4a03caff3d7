-- The price by recursion over the places, which is how proofs go along a block, and that it is the price of
-- specs/Price.antt wherever there is a level for each place. Then the price of a cut, from its first place to the later
-- ones.
use Rattle.std.proofs.Common.{◌≡◌, ℕ, zero, suc, ◌+◌, ◌*◌, ◌<◌, Bool, false, cond, List, [], ◌∷◌, map, length}
use Rattle.std.proofs.Common.{get_or, take, drop, refl, ap, ◌∙◌, suc-mul, arith}
use Rattle.price.specs.Rule.{Rule, is_zero, cost}
use Rattle.price.specs.Price.{uncoded, costs, nonzeros, in_front, size, all_zero, price}
use Rattle.price.specs.Walk.{cut_at}
use Rattle.price.specs.Inner.OnePass.{flag}

-- what is paid from a place on, but for the coded flag, where a nonzero level is still to come
unfoldable pub rest : Rule → Bool → List ℕ → List ℕ → ℕ
rest r z [] ps = 0
rest r z (a ∷ ls) [] = 0
rest r z (a ∷ ls) (p ∷ ps) =
    cost r z p a + cond (all_zero ls) (r.last + uncoded r ps) (flag r a + rest r (is_zero a) ls ps)

-- the same in the words of the price, for a last nonzero level at place n
abbrev Worded : Rule → Bool → List ℕ → List ℕ → ℕ → Type 0
Worded r z ls ps n =
    rest r z ls ps
    ≡ costs r z (take (suc n) ls) ps + uncoded r (drop (suc n) ps) + nonzeros (take n ls) * r.more + r.last

flags : (r : Rule) (a : ℕ) (ls : List ℕ) (n : ℕ)
    → nonzeros (take (suc n) (a ∷ ls)) * r.more ≡ flag r a + nonzeros (take n ls) * r.more
unfolding nonzeros
flags r zero ls n = omega arith
flags r (suc a) ls n = omega (arith, suc-mul (nonzeros (take n ls)) r.more)

rest_worded : (r : Rule) (z : Bool) (ls ps : List ℕ) (n : ℕ) → length ls ≡ length ps → size ls ≡ suc n
    → Worded r z ls ps n
unfolding size rest costs uncoded nonzeros
rest_worded r z [] ps n h e = absurd (omega arith)
rest_worded r z (a ∷ ls) [] n h e = absurd (omega arith)
rest_worded r z (a ∷ ls) (p ∷ ps) n h e = go a (size ls) n refl e (λ y m. rest_worded r y ls ps m (omega arith))
  where
    go : (a k n : ℕ) → size ls ≡ k → in_front a (size ls) ≡ suc n
        → ((y : Bool) (m : ℕ) → size ls ≡ suc m → Worded r y ls ps m)
        → Worded r z (a ∷ ls) (p ∷ ps) n
    go a (suc k) n q e f =
        let i : n ≡ suc k = omega (arith, rw q at e) in
        rw (i, q) (omega (arith, f (is_zero a) k q, flags r a ls k))
    go zero zero n q e f = absurd (omega (arith, rw q at e))
    go (suc a) zero n q e f =
        let i : n ≡ 0 = omega (arith, rw q at e) in
        rw (i, q) (omega arith)

pub price_recursive : (r : Rule) (ls ps : List ℕ) → length ls ≡ length ps
    → price r ls ps ≡ cond (all_zero ls) (uncoded r ps + r.empty) (r.coded + rest r false ls ps)
unfolding price
price_recursive r ls ps h = go (size ls) refl
  where
    go : (n : ℕ) → size ls ≡ n
        → price r ls ps ≡ cond (is_zero (size ls)) (uncoded r ps + r.empty) (r.coded + rest r false ls ps)
    go zero e = rw e
    go (suc n) e = rw e (omega (arith, rest_worded r false ls ps n h e))

-- a cut keeps the length, and its size is where it is made
pub length_cut : (k : ℕ) (ls : List ℕ) → length (cut_at k ls) ≡ length ls
unfolding cut_at
length_cut k [] = refl
length_cut zero (a ∷ ls) = ap suc (length_cut zero ls)
length_cut (suc k) (a ∷ ls) = ap suc (length_cut k ls)

size_empty : (ls : List ℕ) → size (cut_at 0 ls) ≡ 0
unfolding size cut_at
size_empty [] = refl
size_empty (a ∷ ls) = rw (size_empty ls)

size_cut : (ls : List ℕ) (k : ℕ) → 0 < get_or ls k 0 → size (cut_at (suc k) ls) ≡ suc k
unfolding size cut_at
size_cut [] k h = absurd (omega arith)
size_cut (zero ∷ ls) zero h = absurd (omega arith)
size_cut (suc a ∷ ls) zero h = rw (size_empty ls)
size_cut (a ∷ ls) (suc k) h = rw (size_cut ls k h)

-- what a cut right behind the first place costs, and a later one
pub rest_here : (r : Rule) (z : Bool) (a : ℕ) (ls : List ℕ) (p : ℕ) (ps : List ℕ)
    → rest r z (cut_at 1 (a ∷ ls)) (p ∷ ps) ≡ cost r z p a + (r.last + uncoded r ps)
unfolding rest cut_at
rest_here r z a ls p ps = rw (size_empty ls)

pub rest_later : (r : Rule) (z : Bool) (a : ℕ) (ls : List ℕ) (p : ℕ) (ps : List ℕ) (k : ℕ) → 0 < get_or ls k 0
    → rest r z (cut_at (suc (suc k)) (a ∷ ls)) (p ∷ ps)
    ≡ cost r z p a + (flag r a + rest r (is_zero a) (cut_at (suc k) ls) ps)
unfolding rest cut_at
rest_later r z a ls p ps k h = rw (size_cut ls k h)

pub price_empty : (r : Rule) (ls ps : List ℕ) → price r (cut_at 0 ls) ps ≡ uncoded r ps + r.empty
unfolding price
price_empty r ls ps = rw (size_empty ls)

-- a 0 for each place is the block cut before its first
zeros_are_cut : (ps : List ℕ) → map (λ p. 0) ps ≡ cut_at 0 ps
unfolding cut_at
zeros_are_cut [] = refl
zeros_are_cut (p ∷ ps) = ap (λ (l : List ℕ). 0 ∷ l) (zeros_are_cut ps)

pub price_of_zeros : (r : Rule) (ps : List ℕ) → price r (map (λ p. 0) ps) ps ≡ uncoded r ps + r.empty
price_of_zeros r ps = ap (λ (ls : List ℕ). price r ls ps) (zeros_are_cut ps) ∙ price_empty r ps ps

pub price_cut : (r : Rule) (ls ps : List ℕ) (k : ℕ) → length ls ≡ length ps → 0 < get_or ls k 0
    → price r (cut_at (suc k) ls) ps ≡ r.coded + rest r false (cut_at (suc k) ls) ps
price_cut r ls ps k e h = price_recursive r (cut_at (suc k) ls) ps (length_cut (suc k) ls ∙ e) ∙ rw (size_cut ls k h)
