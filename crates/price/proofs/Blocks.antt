-- All blocks over the places: those whose magnitudes are each allowed at their place. The list of specs/Cheapest.antt
-- holds these and no others, in dictionary order, so the first of least price in it is the first of least price in that
-- order.
use Rattle.std.proofs.Common.{◌≡◌, ℕ, zero, suc, ◌<◌, ◌⊎◌, List, [], ◌∷◌, ◌++◌, map, length, get_or, sym}
use Rattle.std.proofs.Common.{refl, ap, inl, inr, ⊎_elim, arith}
use Rattle.price.specs.Rule.{Rule, Allowed}
use Rattle.price.specs.Cheapest.{allowed, fronted, blocks, empty_block}
use Rattle.price.proofs.Best.{In, Ordered}
use Rattle.price.proofs.Dictionary.{Before, both, less, same}

-- a magnitude of A in front of a block of K
abbrev pub Led : (ℕ → Type 0) → (List ℕ → Type 0) → List ℕ → Type 0
Led A K [] = ⊥
Led A K (a ∷ k) = A a × K k

pub led_each : {A : ℕ → Type 0} {K : List ℕ → Type 0} (P : List ℕ → Type 0)
    → ((a : ℕ) (k : List ℕ) → A a → K k → P (a ∷ k))
    → (l : List ℕ) → Led A K l → P l
led_each P h [] s = absurd s
led_each P h (a ∷ k) s = h a k s.0 s.1

pub led_in : {A B : ℕ → Type 0} {K L : List ℕ → Type 0} → ((a : ℕ) → A a → B a) → ((k : List ℕ) → K k → L k)
    → (l : List ℕ) → Led A K l → Led B L l
led_in {B = B} {L = L} h g l s = led_each (Led B L) (λ a k i j. (h a i, g k j)) l s

-- a block over the places: each magnitude is allowed at its place
abbrev pub Block : Rule → List ℕ → List ℕ → Type 0
Block r [] [] = Unit
Block r [] (a ∷ k) = ⊥
Block r (p ∷ ps) l = Led (Allowed (r.top p)) (Block r ps) l

pub block_length : (r : Rule) (ps ls : List ℕ) → Block r ps ls → length ls ≡ length ps
block_length r [] [] b = refl
block_length r [] (a ∷ ls) b = absurd b
block_length r (p ∷ ps) [] b = absurd b
block_length r (p ∷ ps) (a ∷ ls) b = ap suc (block_length r ps ls b.1)

pub block_allowed : (r : Rule) (ps ls : List ℕ) → Block r ps ls → (k : ℕ) → k < length ps
    → Allowed (r.top (get_or ps k 0)) (get_or ls k 0)
block_allowed r [] ls b k h = absurd (omega arith)
block_allowed r (p ∷ ps) [] b k h = absurd b
block_allowed r (p ∷ ps) (a ∷ ls) b zero h = b.0
block_allowed r (p ∷ ps) (a ∷ ls) b (suc k) h = block_allowed r ps ls b.1 k (omega arith)

pub allowed_block : (r : Rule) (ps ls : List ℕ) → length ls ≡ length ps
    → ((k : ℕ) → k < length ps → Allowed (r.top (get_or ps k 0)) (get_or ls k 0)) → Block r ps ls
allowed_block r [] [] e h = tt
allowed_block r [] (a ∷ ls) e h = absurd (omega arith)
allowed_block r (p ∷ ps) [] e h = absurd (omega arith)
allowed_block r (p ∷ ps) (a ∷ ls) e h =
    (h 0 (omega arith), allowed_block r ps ls (omega arith) (λ k l. h (suc k) (omega arith)))

-- the empty block is one, and comes before each
pub empty_block_lem : (r : Rule) (ps : List ℕ) → Block r ps (empty_block ps)
unfolding empty_block
empty_block_lem r [] = tt
empty_block_lem r (p ∷ ps) = (inl refl, empty_block_lem r ps)

pub empty_first : (r : Rule) (ps ls : List ℕ) → Block r ps ls → Before (empty_block ps) ls
unfolding empty_block
empty_first r [] [] b = both
empty_first r [] (a ∷ ls) b = absurd b
empty_first r (p ∷ ps) [] b = absurd b
empty_first r (p ∷ ps) (zero ∷ ls) b = same refl (empty_first r ps ls b.1)
empty_first r (p ∷ ps) (suc a ∷ ls) b = let q : 0 < suc a = omega arith in less q

-- ---- the list of the magnitudes allowed
pub in_allowed : (m a : ℕ) → Allowed m a → In a (allowed m)
in_allowed zero a h = inl (⊎_elim (λ e. e) (⊎_elim (λ e. e) (λ e. absurd (omega arith))) h)
in_allowed (suc zero) a (inl e) = inl e
in_allowed (suc zero) a (inr (inl e)) = inr (inl e)
in_allowed (suc zero) a (inr (inr e)) = absurd (omega arith)
in_allowed (suc (suc n)) a (inl e) = inl e
in_allowed (suc (suc n)) a (inr (inl e)) = inr (inr (inl e))
in_allowed (suc (suc n)) a (inr (inr e)) = inr (inl (omega arith))

pub allowed_in : (m a : ℕ) → In a (allowed m) → Allowed m a
allowed_in zero a (inl e) = inl e
allowed_in zero a (inr s) = absurd s
allowed_in (suc zero) a (inl e) = inl e
allowed_in (suc zero) a (inr (inl e)) = inr (inl e)
allowed_in (suc zero) a (inr (inr s)) = absurd s
allowed_in (suc (suc n)) a (inl e) = inl e
allowed_in (suc (suc n)) a (inr (inl e)) = inr (inr (omega arith, omega arith))
allowed_in (suc (suc n)) a (inr (inr (inl e))) = inr (inl e)
allowed_in (suc (suc n)) a (inr (inr (inr s))) = absurd s

pub allowed_ordered : (m : ℕ) → Ordered ◌<◌ (allowed m)
allowed_ordered zero = (λ b s. absurd s, tt)
allowed_ordered (suc zero) = (λ b s. ⊎_elim (λ e. omega arith) (λ e. absurd e) s, (λ b s. absurd s, tt))
allowed_ordered (suc (suc n)) = (
  λ b s. ⊎_elim (λ e. omega arith) (⊎_elim (λ e. omega arith) (λ e. absurd e)) s,
  (λ b s. ⊎_elim (λ e. omega arith) (λ e. absurd e) s, (λ b s. absurd s, tt)),
)

-- ---- the list of the blocks: the magnitude a in front of each of bs, and then cs
module _ (a : ℕ) (cs : List (List ℕ)) where
  abbrev front : List (List ℕ) → List (List ℕ)
  front bs = map (λ b. a ∷ b) bs ++ cs

  front_or_behind : (bs : List (List ℕ)) (l : List ℕ) → In l (front bs) → Led (λ c. c ≡ a) (λ b. In b bs) l ⊎ In l cs
  front_or_behind [] l s = inr s
  front_or_behind (b ∷ bs) l (inl e) = inl (rw e (refl, inl refl))
  front_or_behind (b ∷ bs) l (inr s) =
      ⊎_elim (λ h. inl (led_in (λ c e. e) (λ k i. inr i) l h)) (λ i. inr i) (front_or_behind bs l s)

  in_front_lem : (bs : List (List ℕ)) (c : ℕ) (k : List ℕ) → c ≡ a → In k bs → In (c ∷ k) (front bs)
  in_front_lem [] c k e s = absurd s
  in_front_lem (b ∷ bs) c k e (inl q) = inl cc
  in_front_lem (b ∷ bs) c k e (inr s) = inr (in_front_lem bs c k e s)

  in_behind : (bs : List (List ℕ)) (l : List ℕ) → In l cs → In l (front bs)
  in_behind [] l s = s
  in_behind (b ∷ bs) l s = inr (in_behind bs l s)

  front_ordered : (bs : List (List ℕ)) → Ordered Before bs → Ordered Before cs
      → ((k l : List ℕ) → In l cs → Before (a ∷ k) l)
      → Ordered Before (front bs)
  front_ordered [] o q h = q
  front_ordered (b ∷ bs) o q h = (
    λ l s. ⊎_elim (λ i. led_each (Before (a ∷ b)) (λ c k e j. same (sym e) (o.0 k j)) l i) (λ i. h b l i)
        (front_or_behind bs l s),
    front_ordered bs o.1 q h,
  )

module _ (bs : List (List ℕ)) where
  fronted_led : (ms : List ℕ) (l : List ℕ) → In l (fronted ms bs) → Led (λ a. In a ms) (λ b. In b bs) l
  unfolding fronted
  fronted_led [] l s = absurd s
  fronted_led (a ∷ ms) l s =
      ⊎_elim (λ h. led_in (λ c e. inl e) (λ k i. i) l h) (λ h. led_in (λ c i. inr i) (λ k i. i) l (fronted_led ms l h))
      (front_or_behind a (fronted ms bs) bs l s)

  in_fronted : (ms : List ℕ) (a : ℕ) (k : List ℕ) → In a ms → In k bs → In (a ∷ k) (fronted ms bs)
  unfolding fronted
  in_fronted [] a k h s = absurd h
  in_fronted (c ∷ ms) a k (inl e) s = in_front_lem c (fronted ms bs) bs a k e s
  in_fronted (c ∷ ms) a k (inr h) s = in_behind c (fronted ms bs) bs (a ∷ k) (in_fronted ms a k h s)

  fronted_ordered : (ms : List ℕ) → Ordered ◌<◌ ms → Ordered Before bs → Ordered Before (fronted ms bs)
  unfolding fronted
  fronted_ordered [] o q = tt
  fronted_ordered (a ∷ ms) o q =
      front_ordered a (fronted ms bs) bs q (fronted_ordered ms o.1 q)
      (λ k l s. led_each (Before (a ∷ k)) (λ c j h i. less (o.0 c h)) l (fronted_led ms l s))

pub blocks_in : (r : Rule) (ps ls : List ℕ) → In ls (blocks r ps) → Block r ps ls
unfolding blocks
blocks_in r [] ls (inl e) = rw e tt
blocks_in r [] ls (inr s) = absurd s
blocks_in r (p ∷ ps) ls s =
    led_in (allowed_in (r.top p)) (blocks_in r ps) ls (fronted_led (blocks r ps) (allowed (r.top p)) ls s)

pub in_blocks : (r : Rule) (ps ls : List ℕ) → Block r ps ls → In ls (blocks r ps)
unfolding blocks
in_blocks r [] [] b = inl refl
in_blocks r [] (a ∷ ls) b = absurd b
in_blocks r (p ∷ ps) [] b = absurd b
in_blocks r (p ∷ ps) (a ∷ ls) b =
    in_fronted (blocks r ps) (allowed (r.top p)) a ls (in_allowed (r.top p) a b.0) (in_blocks r ps ls b.1)

pub blocks_ordered : (r : Rule) (ps : List ℕ) → Ordered Before (blocks r ps)
unfolding blocks
blocks_ordered r [] = (λ l s. absurd s, tt)
blocks_ordered r (p ∷ ps) =
    fronted_ordered (blocks r ps) (allowed (r.top p)) (allowed_ordered (r.top p)) (blocks_ordered r ps)
