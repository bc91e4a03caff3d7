-- Demand 3, of the definitions of specs/: what each magnitude walked and written is, that the block written is the
-- cheapest of the walk's cuts, the earliest at a tie, and that this leaves no second outcome. That one pass finds it,
-- and reports its price, is in proofs/OnePass.antt.
use Rattle.std.proofs.Common.{◌≡◌, ℕ, zero, suc, ◌<◌, ◌≤◌, Bool, true, false, ltb, ◌⊎◌, List, [], ◌∷◌, length}
use Rattle.std.proofs.Common.{get_or, refl, ◌∙◌, inl, inr, ⊎_elim, arith, ltb-false, ltb-true}
use Rattle.price.specs.Rule.{Rule, Allowed}
use Rattle.price.specs.Price.{nonzeros, price}
use Rattle.price.specs.Walk.{walked, cut_at, Cut, cut_of, written}
use Rattle.price.proofs.Choice.{CheapestAt, length_walked, walked_cheapest, cheapest_walked}
use Rattle.price.proofs.Price.{length_cut}
use Rattle.price.proofs.Best.{best_unique}
use Rattle.price.proofs.Cut.{smaller_first, dearer_if_earlier, cut_best}

cut_level : (c : ℕ) (ls : List ℕ) (k : ℕ) → (get_or (cut_at c ls) k 0 ≡ 0) ⊎ (get_or (cut_at c ls) k 0 ≡ get_or ls k 0)
unfolding cut_at
cut_level c [] k = inl refl
cut_level zero (a ∷ ls) zero = inl refl
cut_level zero (a ∷ ls) (suc k) = cut_level zero ls k
cut_level (suc c) (a ∷ ls) zero = inr refl
cut_level (suc c) (a ∷ ls) (suc k) = cut_level c ls k

pub nonzeros_at_most : (ls : List ℕ) → nonzeros ls ≤ length ls
unfolding nonzeros
nonzeros_at_most [] = omega arith
nonzeros_at_most (zero ∷ ls) = omega (arith, nonzeros_at_most ls)
nonzeros_at_most (suc a ∷ ls) = omega (arith, nonzeros_at_most ls)

module _ (r : Rule) (ps : List ℕ) where
  -- each magnitude walked is the cheapest allowed after those before it, ties preferring 0, then m
  pub walked_cheapest_after_those_before : (k : ℕ) → k < length ps → CheapestAt r false (walked r false ps) ps k
  walked_cheapest_after_those_before = walked_cheapest r false ps

  -- and no other list is such
  pub walked_unique : (ls : List ℕ) → length ls ≡ length ps → ((k : ℕ) → k < length ps → CheapestAt r false ls ps k)
      → ls ≡ walked r false ps
  walked_unique ls = cheapest_walked r false ls ps

  -- the block written is the walk, cut where a cut may be made
  pub written_is_the_walk_cut : (written r ps ≡ cut_at (cut_of r ps) (walked r false ps))
      × Cut (walked r false ps) (cut_of r ps)
  unfolding written
  written_is_the_walk_cut = (refl, (cut_best r ps).member)

  pub written_length : length (written r ps) ≡ length ps
  unfolding written
  written_length = length_cut (cut_of r ps) (walked r false ps) ∙ length_walked r false ps

  pub count_at_most_places : nonzeros (written r ps) ≤ length ps
  count_at_most_places = omega (arith, nonzeros_at_most (written r ps), written_length)

  -- a magnitude of the walk, wherever it is cut, is 0, m or m - 1, and so is one that is written
  pub cut_zero_or_m_or_m-1 : (c k : ℕ) → k < length ps
      → Allowed (r.top (get_or ps k 0)) (get_or (cut_at c (walked r false ps)) k 0)
  cut_zero_or_m_or_m-1 c k h =
      ⊎_elim (λ e. inl e) (λ e. rw e (walked_cheapest r false ps k h).allowed)
      (cut_level c (walked r false ps) k)

  pub written_zero_or_m_or_m-1 : (k : ℕ) → k < length ps → Allowed (r.top (get_or ps k 0)) (get_or (written r ps) k 0)
  unfolding written
  written_zero_or_m_or_m-1 = cut_zero_or_m_or_m-1 (cut_of r ps)

  -- the block written is no dearer than the empty block or the walk cut behind any nonzero level
  pub written_no_dearer : (k : ℕ) → Cut (walked r false ps) k
      → price r (written r ps) ps ≤ price r (cut_at k (walked r false ps)) ps
  unfolding written
  written_no_dearer k h = ((cut_best r ps).wins k h).no_dearer

  -- what may be cut before it is dearer: at equal price the empty block wins, then the earliest cut
  pub empty_wins_then_earliest : (k : ℕ) → Cut (walked r false ps) k → k < cut_of r ps
      → price r (written r ps) ps < price r (cut_at k (walked r false ps)) ps
  unfolding written
  empty_wins_then_earliest k h l = dearer_if_earlier ((cut_best r ps).wins k h) l

  -- and no other cut is such
  pub cut_unique : (c : ℕ)
      → (let ls = walked r false ps in let f : ℕ → ℕ = λ k. price r (cut_at k ls) ps in
      Cut ls c → ((k : ℕ) → Cut ls k → f c ≤ f k) → ((k : ℕ) → Cut ls k → k < c → f c < f k) → c ≡ cut_of r ps)
  cut_unique c made low first =
      best_unique f smaller_first
      (record { member = made; wins = λ k h. record { no_dearer = low k h; no_later = go k h (ltb k c) refl } })
      (cut_best r ps)
    where
      f : ℕ → ℕ
      f k = price r (cut_at k (walked r false ps)) ps

      go : (k : ℕ) → Cut (walked r false ps) k → (t : Bool) → ltb k c ≡ t → f k ≡ f c → c ≤ k
      go k h true e q = absurd (omega (arith, first k h (ltb-true k c e)))
      go k h false e q = ltb-false k c e
