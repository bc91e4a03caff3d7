-- The cut taken: it may be made, no cut that may be made is cheaper, and none before it is as cheap. These leave one
-- cut only. The cuts that may be made are listed from the first to the last; nothing is asked of a price.
use Rattle.std.proofs.Common.{◌≡◌, ℕ, zero, suc, ◌+◌, ◌<◌, ◌≤◌, Bool, true, false, ltb, List, [], ◌∷◌, get_or}
use Rattle.std.proofs.Common.{sym, refl, subst, inl, inr, arith, ltb-false, ltb-true}
use Rattle.price.specs.Rule.{Rule}
use Rattle.price.specs.Price.{price}
use Rattle.price.specs.Walk.{walked, cut_at, Cut, ends, cut_of}
use Rattle.price.proofs.Best.{Order, Wins, Best, In, Ordered, best_of_same, first_least_best}

pub smaller_first : Order ◌≤◌
smaller_first = record { itself = λ a. omega arith; onward = λ a b c h g. omega arith; no_two = λ a b h g. omega arith }

-- at the smaller of two, what wins is strictly cheaper
pub dearer_if_earlier : {f : ℕ → ℕ} {c k : ℕ} → Wins f ◌≤◌ c k → k < c → f c < f k
dearer_if_earlier {f} {c} {k} h l = go (ltb (f c) (f k)) refl
  where
    go : (t : Bool) → ltb (f c) (f k) ≡ t → f c < f k
    go true e = ltb-true (f c) (f k) e
    go false e = absurd (omega (arith, h.no_later (omega (arith, h.no_dearer, ltb-false (f c) (f k) e))))

-- behind a nonzero level of ls, before which are n places
abbrev Behind : ℕ → List ℕ → ℕ → Type 0
Behind n ls k = (j : ℕ) × (0 < get_or ls j 0) × (k ≡ n + suc j)

ends_behind : (n : ℕ) (ls : List ℕ) (k : ℕ) → In k (ends n ls) → Behind n ls k
unfolding ends
ends_behind n [] k s = absurd s
ends_behind n (zero ∷ ls) k s = let h = ends_behind (suc n) ls k s in (suc h.0, h.1, omega arith)
ends_behind n (suc a ∷ ls) k (inl e) = (zero, omega arith, omega arith)
ends_behind n (suc a ∷ ls) k (inr s) = let h = ends_behind (suc n) ls k s in (suc h.0, h.1, omega arith)

behind_ends : (n : ℕ) (ls : List ℕ) (k j : ℕ) → 0 < get_or ls j 0 → k ≡ n + suc j → In k (ends n ls)
unfolding ends
behind_ends n [] k j h e = absurd (omega arith)
behind_ends n (zero ∷ ls) k zero h e = absurd (omega arith)
behind_ends n (zero ∷ ls) k (suc j) h e = behind_ends (suc n) ls k j h (omega arith)
behind_ends n (suc a ∷ ls) k zero h e = inl (omega arith)
behind_ends n (suc a ∷ ls) k (suc j) h e = inr (behind_ends (suc n) ls k j h (omega arith))

ends_ordered : (n : ℕ) (ls : List ℕ) → Ordered ◌≤◌ (ends n ls)
unfolding ends
ends_ordered n [] = tt
ends_ordered n (zero ∷ ls) = ends_ordered (suc n) ls
ends_ordered n (suc a ∷ ls) = (λ k s. omega (arith, (ends_behind (suc n) ls k s).2), ends_ordered (suc n) ls)

pub cut_best : (r : Rule) (ps : List ℕ)
    → (let ls = walked r false ps in Best (λ k. price r (cut_at k ls) ps) ◌≤◌ (Cut ls) (cut_of r ps))
unfolding cut_of
cut_best r ps =
    best_of_same out into (first_least_best _ smaller_first 0 (ends 0 ls) (λ k s. omega arith, ends_ordered 0 ls))
  where
    ls : List ℕ
    ls = walked r false ps

    out : (k : ℕ) → In k (0 ∷ ends 0 ls) → Cut ls k
    out k (inl e) = subst (Cut ls) (sym e) tt
    out k (inr s) =
        let h = ends_behind 0 ls k s in
        let e : suc h.0 ≡ k = omega arith in
        subst (Cut ls) e h.1

    into : (k : ℕ) → Cut ls k → In k (0 ∷ ends 0 ls)
    into zero h = inl refl
    into (suc k) h = inr (behind_ends 0 ls (suc k) k h (omega arith))
