-- The best of a set: none of the set has a smaller value, and at equal value none comes before it in an order. The
-- walk's cut and the cheapest block of all are both such, since each is the first of least value in a list that stands
-- in order.
use Rattle.std.proofs.Common.{◌≡◌, ℕ, ◌≤◌, Bool, true, false, cond, ltb, ◌⊎◌, List, [], ◌∷◌, refl, inl, inr}
use Rattle.std.proofs.Common.{⊎_elim, arith, ltb-false, ltb-true}
use Rattle.price.specs.Walk.{cheaper, first_least}

-- R says which comes first
pub record Order {A : Type 0} (R : A → A → Type 0) : Type 0 where
  pub itself : (a : A) → R a a
  pub onward : (a b c : A) → R a b → R b c → R a c
  pub no_two : (a b : A) → R a b → R b a → a ≡ b

-- c is no dearer than k, and at equal value comes no later
pub record Wins {A : Type 0} (f : A → ℕ) (R : A → A → Type 0) (c k : A) : Type 0 where
  pub no_dearer : f c ≤ f k
  pub no_later : f k ≡ f c → R c k

pub record Best {A : Type 0} (f : A → ℕ) (R : A → A → Type 0) (S : A → Type 0) (c : A) : Type 0 where
  pub member : S c
  pub wins : (k : A) → S k → Wins f R c k

abbrev pub In : {A : Type 0} → A → List A → Type 0
In k [] = ⊥
In k (a ∷ bs) = (k ≡ a) ⊎ In k bs

-- each comes before those behind it
abbrev pub Ordered : {A : Type 0} → (A → A → Type 0) → List A → Type 0
Ordered R [] = Unit
Ordered {A} R (a ∷ bs) = ((b : A) → In b bs → R a b) × Ordered R bs

pub best_of_same : {A : Type 0} {f : A → ℕ} {R : A → A → Type 0} {S S' : A → Type 0} {c : A}
    → ((k : A) → S k → S' k) → ((k : A) → S' k → S k) → Best f R S c → Best f R S' c
best_of_same {c = c} to from h = record { member = to c h.member; wins = λ k s. h.wins k (from k s) }

module _ {A : Type 0} (f : A → ℕ) {R : A → A → Type 0} (order : Order R) where
  pub best_unique : {S : A → Type 0} {c d : A} → Best f R S c → Best f R S d → c ≡ d
  best_unique {c = c} {d = d} h g =
      let i = h.wins d g.member in
      let j = g.wins c h.member in
      order.no_two c d (i.no_later (omega arith)) (j.no_later (omega arith))

  -- past b, where a is in hand: b only where it is strictly cheaper
  pass : (a b : A) (bs : List A) → Ordered R (a ∷ b ∷ bs) → (t : Bool) → ltb (f b) (f a) ≡ t
      → ((c : A) → Ordered R (c ∷ bs) → Best f R (λ k. In k (c ∷ bs)) (first_least f c bs))
      → Best f R (λ k. In k (a ∷ b ∷ bs)) (first_least f (cond t b a) bs)
  pass a b bs o true e further = record { member = inr i.member; wins = against }
    where
      i : Best f R (λ k. In k (b ∷ bs)) (first_least f b bs)
      i = further b o.1

      against : (k : A) → In k (a ∷ b ∷ bs) → Wins f R (first_least f b bs) k
      against k (inl q) =
          let l = ltb-true (f b) (f a) e in
          let j = i.wins b (inl refl) in
          rw q (record { no_dearer = omega arith; no_later = λ h. absurd (omega arith) })
      against k (inr s) = i.wins k s
  pass a b bs o false e further = record { member = ⊎_elim (λ q. inl q) (λ s. inr (inr s)) i.member; wins = against }
    where
      i : Best f R (λ k. In k (a ∷ bs)) (first_least f a bs)
      i = further a (λ k s. o.0 k (inr s), o.1.1)

      against : (k : A) → In k (a ∷ b ∷ bs) → Wins f R (first_least f a bs) k
      against k (inl q) = i.wins k (inl q)
      against k (inr (inl q)) =
          let l = ltb-false (f b) (f a) e in
          let j = i.wins a (inl refl) in
          rw q (record {
            no_dearer = omega arith;
            no_later = λ h. order.onward _ a b (j.no_later (omega arith)) (o.0 b (inl refl));
          })
      against k (inr (inr s)) = i.wins k (inr s)

  pub first_least_best : (a : A) (bs : List A) → Ordered R (a ∷ bs) → Best f R (λ k. In k (a ∷ bs)) (first_least f a bs)
  unfolding first_least cheaper
  first_least_best a [] o = record { member = inl refl; wins = only }
    where
      only : (k : A) → In k (a ∷ []) → Wins f R a k
      only k (inl q) = rw q (record { no_dearer = omega arith; no_later = λ e. order.itself a })
      only k (inr s) = absurd s
  first_least_best a (b ∷ bs) o = pass a b bs o (ltb (f b) (f a)) refl (λ c h. first_least_best c bs h)
