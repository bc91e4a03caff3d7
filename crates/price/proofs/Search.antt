-- The search finds the cheapest block of all, and its price. Along the places, from the last to the first, and in both
-- states: what it holds is the least that is still to be paid by a block with a nonzero level, and what it reads off is
-- the first block in dictionary order that pays no more.
use Rattle.std.proofs.Common.{◌≡◌, ℕ, zero, suc, ◌+◌, ◌<◌, ◌≤◌, Bool, true, false, cond, ◌⊎◌, List, [], ◌∷◌}
use Rattle.std.proofs.Common.{sym, refl, ◌∙◌, subst, inl, inr, ⊎_elim, true≢false, arith}
use Rattle.price.specs.Rule.{Rule, Allowed, is_zero, cost}
use Rattle.price.specs.Price.{uncoded, in_front, size, all_zero, price}
use Rattle.price.specs.Walk.{cheaper, first_least}
use Rattle.price.specs.Cheapest.{empty_block, cheapest}
use Rattle.price.specs.Inner.Search.{Least, none, some, plus, under, lesser, Ahead, after, ending, going_on}
use Rattle.price.specs.Inner.Search.{goes_on}
use Rattle.price.specs.Inner.Search.{behind, offer}
use Rattle.price.specs.Inner.Search.{with_zero, with_level, taken_by, least_by, taken, ahead, read_off}
use Rattle.price.specs.Inner.Search.{coded_price, empty_price, is_coded, found, found_price}
use Rattle.price.proofs.Best.{Best, best_unique, best_of_same, first_least_best}
use Rattle.price.proofs.Price.{rest, price_recursive}
use Rattle.price.proofs.Cut.{smaller_first}
use Rattle.price.proofs.Tail.{Quiet}
use Rattle.price.proofs.Dictionary.{Before, less, dictionary}
use Rattle.price.proofs.Blocks.{Led, led_each, Block, block_length, empty_block_lem, empty_first}
use Rattle.price.proofs.Blocks.{in_allowed, allowed_in, allowed_ordered}
use Rattle.price.proofs.Cheapest.{cheapest_best}
use Rattle.price.proofs.Finds.{Finds, nothing, first, Either, finds_lesser, finds_same, finds_plus, finds_led}

-- ---- the blocks with a nonzero level, and all of them
abbrev Coded : Rule → List ℕ → List ℕ → Type 0
Coded r ps k = Block r ps k × (all_zero k ≡ false)

abbrev Empty : Rule → List ℕ → List ℕ → Type 0
Empty r ps k = Block r ps k × (all_zero k ≡ true)

zero_front : (k : List ℕ) → all_zero (0 ∷ k) ≡ all_zero k
unfolding size
zero_front k = go (size k)
  where
    go : (n : ℕ) → is_zero (in_front 0 n) ≡ is_zero n
    go zero = refl
    go (suc n) = refl

level_front : (a : ℕ) (k : List ℕ) → 0 < a → all_zero (a ∷ k) ≡ false
unfolding size
level_front a k h = go a (size k) h
  where
    go : (a n : ℕ) → 0 < a → is_zero (in_front a n) ≡ false
    go zero n h = absurd (omega arith)
    go (suc a) zero h = refl
    go (suc a) (suc n) h = refl

all_zero_empty : (ps : List ℕ) → all_zero (empty_block ps) ≡ true
unfolding empty_block size
all_zero_empty [] = refl
all_zero_empty (p ∷ ps) = zero_front (empty_block ps) ∙ all_zero_empty ps

-- e is paid by the empty block, and by the others c and what is still to be paid
finds_all : {f w : List ℕ → ℕ} {x : Least} {l : List ℕ} (r : Rule) (ps : List ℕ) (e c : ℕ)
    → ((k : List ℕ) → Block r ps k → w k ≡ cond (all_zero k) e (c + f k)) → Finds f (Coded r ps) x l
    → Finds w (Block r ps) (lesser (some e) (plus c x)) (cond (under (plus c x) (some e)) l (empty_block ps))
finds_all {f} {w} r ps e c h g =
    finds_same (λ k s. ⊎_elim (λ i. i.0) (λ i. i.0) s) (λ k b. split k b (all_zero k) refl)
    (finds_lesser (λ k s. empty_first r ps k s.0) (first empty_best (sym (alike (empty_block ps) ended)))
    (finds_plus c (λ k s. h k s.0 ∙ rw s.1) g))
  where
    split : (k : List ℕ) → Block r ps k → (t : Bool) → all_zero k ≡ t → Either (Empty r ps) (Coded r ps) k
    split k b true q = inl (b, q)
    split k b false q = inr (b, q)

    ended : Empty r ps (empty_block ps)
    ended = (empty_block_lem r ps, all_zero_empty ps)

    alike : (k : List ℕ) → Empty r ps k → w k ≡ e
    alike k s = h k s.0 ∙ rw s.1

    empty_best : Best w Before (Empty r ps) (empty_block ps)
    empty_best =
        record {
          member = ended;
          wins = λ k s.
              record {
                no_dearer = omega (arith, alike k s, alike (empty_block ps) ended);
                no_later = λ q. empty_first r
                    ps k s.0;
              };
        }

-- ---- one place: a 0 in front of a block with a nonzero level, or a nonzero magnitude in front of any
abbrev Level : ℕ → ℕ → Type 0
Level m a = Allowed m a × (0 < a)

nonzero : {S : Type 0} (a : ℕ) → 0 < a → (a ≡ 0) ⊎ S → S
nonzero a h (inl e) = absurd (omega arith)
nonzero a h (inr s) = s

offer_best : (r : Rule) (z : Bool) (p n : ℕ) → Best (cost r z p) ◌≤◌ (Level (suc n)) (offer r z p (suc n))
unfolding offer cheaper first_least
offer_best r z p zero =
    best_of_same (λ a s. (allowed_in 1 a (inr s), (allowed_ordered 1).0 a s))
    (λ a h. nonzero a h.1 (in_allowed 1 a h.0))
    (first_least_best (cost r z p) smaller_first 1 [] (λ a s. absurd s, tt))
offer_best r z p (suc n) =
    let m = suc (suc n) in
    best_of_same (λ a s. (allowed_in m a (inr s), (allowed_ordered m).0 a s))
    (λ a h. nonzero a h.1 (in_allowed m a h.0))
    (first_least_best (cost r z p) smaller_first (suc n) (m ∷ [])
    (λ a s. ⊎_elim (λ e. omega arith) (λ e. absurd e) s, (λ a s. absurd s, tt)))

module _ (r : Rule) (z : Bool) (p : ℕ) (ps : List ℕ)
    (later : (y : Bool) → Finds (λ k. rest r y k ps) (Coded r ps) (after y (ahead r ps)) (read_off r y ps)) where
  abbrev t : Ahead
  t = ahead r ps

  -- what follows the magnitude a
  abbrev follows : ℕ → List ℕ
  follows a = let on = read_off r (is_zero a) ps in cond (is_zero a) on (cond (goes_on r ps t) on (empty_block ps))

  abbrev value : List ℕ → ℕ
  value k = rest r z k (p ∷ ps)

  zero_finds : Finds value (Led (λ a. a ≡ 0) (Coded r ps)) (with_zero r z p ps t) (0 ∷ follows 0)
  unfolding with_zero rest
  zero_finds = finds_led priced only (later true)
    where
      only : Best (cost r z p) ◌≤◌ (λ a. a ≡ 0) 0
      only = record
          { member = refl; wins = λ a e. rw e (record { no_dearer = omega arith; no_later = λ q. omega arith }) }

      priced : (a : ℕ) (k : List ℕ) → a ≡ 0 → Coded r ps k → value (a ∷ k) ≡ cost r z p a + rest r true k ps
      priced zero k e s = rw s.1 (omega arith)
      priced (suc a) k e s = absurd (omega arith)

  -- what is still to be paid behind a nonzero level
  abbrev value_behind : List ℕ → ℕ
  value_behind k = cond (all_zero k) (r.last + uncoded r ps) (r.more + rest r false k ps)

  behind_finds : (a : ℕ) → 0 < a → Finds value_behind (Block r ps) (behind r ps t) (follows a)
  unfolding behind goes_on ending going_on
  behind_finds zero h = absurd (omega arith)
  behind_finds (suc a) h = finds_all r ps (r.last + uncoded r ps) r.more (λ k b. refl) (later false)

  level_finds : (n : ℕ)
      → (let a = offer r z p (suc n) in Finds value (Led (Level (suc n)) (Block r ps)) (with_level r z p ps t a)
      (a ∷ follows a))
  unfolding with_level rest
  level_finds n =
      let best = offer_best r z p n in
      finds_led priced best (behind_finds (offer r z p (suc n)) best.member.1)
    where
      priced : (a : ℕ) (k : List ℕ) → Level (suc n) a → Block r ps k → value (a ∷ k) ≡ cost r z p a + value_behind k
      priced zero k h b = absurd (omega arith)
      priced (suc a) k h b = refl

  -- by the rounded magnitude m
  abbrev CodedBy : ℕ → List ℕ → Type 0
  CodedBy m l = Led (Allowed m) (Block r ps) l × (all_zero l ≡ false)

  abbrev Parts : ℕ → List ℕ → Type 0
  Parts m = Either (Led (λ a. a ≡ 0) (Coded r ps)) (Led (Level m) (Block r ps))

  joined : (m : ℕ) (l : List ℕ) → Parts m l → CodedBy m l
  joined m l s =
      ⊎_elim (led_each (CodedBy m) (λ a k e c. ((inl e, c.0), rw e (zero_front k ∙ c.1))) l)
      (led_each (CodedBy m) (λ a k h b. ((h.0, b), level_front a k h.1)) l) s

  parted : (m : ℕ) (l : List ℕ) → CodedBy m l → Parts m l
  parted m [] c = absurd c.0
  parted m (zero ∷ k) c = inl (refl, (c.0.1, sym (zero_front k) ∙ c.1))
  parted m (suc a ∷ k) c = inr ((c.0.0, omega arith), c.0.1)

  zero_before_lem : (m : ℕ) (l : List ℕ) → Led (Level m) (Block r ps) l → Before (0 ∷ follows 0) l
  zero_before_lem m = led_each (Before (0 ∷ follows 0)) (λ a k h b. less h.1)

  no_level : (l : List ℕ) → Led (Level 0) (Block r ps) l → ⊥
  no_level = led_each (λ l. ⊥) (λ a k h b. nonzero a h.1 (in_allowed 0 a h.0))

  place_finds : (m : ℕ)
      → (let a = taken_by r z p ps t m in Finds value (CodedBy m) (least_by r z p ps t m) (a ∷ follows a))
  unfolding taken_by least_by
  place_finds zero =
      finds_same (λ l s. joined 0 l (inl s)) (λ l c. ⊎_elim (λ s. s) (λ s. absurd (no_level l s)) (parted 0 l c))
      zero_finds
  place_finds (suc n) =
      let a = offer r z p (suc n) in
      let on = under (with_level r z p ps t a) (with_zero r z p ps t) in
      subst (Finds value (CodedBy (suc n)) (least_by r z p ps t (suc n))) (which a on)
      (finds_same (joined (suc n)) (parted (suc n)) (finds_lesser (zero_before_lem (suc n)) zero_finds (level_finds n)))
    where
      which : (a : ℕ) (on : Bool) → cond on (a ∷ follows a) (0 ∷ follows 0) ≡ cond on a 0 ∷ follows (cond on a 0)
      which a true = refl
      which a false = refl

-- ---- all places, in both states
pub ahead_none : (r : Rule) (z : Bool) → after z (ahead r []) ≡ none
unfolding ahead
ahead_none r true = refl
ahead_none r false = refl

pub ahead_at : (r : Rule) (z : Bool) (p : ℕ) (ps : List ℕ)
    → after z (ahead r (p ∷ ps)) ≡ least_by r z p ps (ahead r ps) (r.top p)
unfolding ahead
ahead_at r true p ps = refl
ahead_at r false p ps = refl

no_place : (r : Rule) (k : List ℕ) → Coded r [] k → ⊥
unfolding size
no_place r [] s = true≢false s.1
no_place r (a ∷ k) s = s.0

ahead_finds : (r : Rule) (ps : List ℕ) (z : Bool)
    → Finds (λ k. rest r z k ps) (Coded r ps) (after z (ahead r ps)) (read_off r z ps)
unfolding read_off taken
ahead_finds r [] z = rw (ahead_none r z) (nothing (no_place r))
ahead_finds r (p ∷ ps) z = rw (ahead_at r z p ps) (place_finds r z p ps (ahead_finds r ps) (r.top p))

module _ (r : Rule) (ps : List ℕ) where
  found_finds : Finds (λ ls. price r ls ps) (Block r ps) (found_price r ps) (found r ps)
  unfolding found found_price is_coded coded_price empty_price
  found_finds =
      finds_all r ps (uncoded r ps + r.empty) r.coded (λ ls b. price_recursive r ls ps (block_length r ps ls b))
      (ahead_finds r ps false)

  is_cheapest : {x : Least} {ls : List ℕ} → Finds (λ k. price r k ps) (Block r ps) x ls
      → (ls ≡ cheapest r ps) × (x ≡ some (price r (cheapest r ps) ps))
  is_cheapest (nothing h) = absurd (h (empty_block ps) (empty_block_lem r ps))
  is_cheapest (first h e) = let q = best_unique _ dictionary h (cheapest_best r ps) in (q, rw (e, q))

  pub found_is_cheapest : found r ps ≡ cheapest r ps
  found_is_cheapest = (is_cheapest found_finds).0

  pub found_price_lem : found_price r ps ≡ some (price r (cheapest r ps) ps)
  found_price_lem = (is_cheapest found_finds).1

-- ---- past the last place whose m is not 0 there is nothing to find
pub quiet_ahead : (r : Rule) (ps : List ℕ) → Quiet r ps → (z : Bool) → after z (ahead r ps) ≡ none
unfolding least_by with_zero plus
quiet_ahead r [] q z = ahead_none r z
quiet_ahead r (p ∷ ps) q z =
    ahead_at r z p ps ∙ rw (q 0 (omega arith), quiet_ahead r ps (λ k h. q (suc k) (omega arith)) true)
