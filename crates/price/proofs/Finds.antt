-- What a search may hold of a set of blocks, if any is in it: the least value, and the first block in dictionary order
-- that has it. The laws by which it is held of a larger set: of two sets, at one more price, and with one more
-- magnitude in front.
use Rattle.std.proofs.Common.{◌≡◌, ℕ, ◌+◌, ◌<◌, ◌≤◌, Bool, true, false, cond, ltb, ◌⊎◌, List, ◌∷◌, refl, inl}
use Rattle.std.proofs.Common.{inr, ⊎_elim, arith, ltb-false, ltb-true}
use Rattle.price.specs.Inner.Search.{Least, none, some, plus, under, lesser}
use Rattle.price.proofs.Best.{Wins, Best, best_of_same}
use Rattle.price.proofs.Dictionary.{Before, before_led}
use Rattle.price.proofs.Blocks.{Led, led_each}

-- of the set S: it is empty; or x is the least value in it, and l the first block that has it
pub data Finds (f : List ℕ → ℕ) (S : List ℕ → Type 0) : Least → List ℕ → Type 0 where
  nothing : {l : List ℕ} → ((k : List ℕ) → S k → ⊥) → Finds f S none l
  first : {x : ℕ} {l : List ℕ} → Best f Before S l → x ≡ f l → Finds f S (some x) l

-- ---- the lesser of two
abbrev pub Either : (List ℕ → Type 0) → (List ℕ → Type 0) → List ℕ → Type 0
Either S T k = S k ⊎ T k

module _ {f : List ℕ → ℕ} {S T : List ℕ → Type 0} where
  best_second : {l : List ℕ} → Best f Before T l → ((k : List ℕ) → S k → f l < f k) → Best f Before (Either S T) l
  best_second {l} h g = record { member = inr h.member; wins = λ k s. ⊎_elim (λ i. dearer k (g k i)) (h.wins k) s }
    where
      dearer : (k : List ℕ) → f l < f k → Wins f Before l k
      dearer k q = record { no_dearer = omega arith; no_later = λ e. absurd (omega arith) }

  best_first : {j : List ℕ} → Best f Before S j → ((k : List ℕ) → T k → Wins f Before j k)
      → Best f Before (Either S T) j
  best_first h g = record { member = inl h.member; wins = λ k s. ⊎_elim (h.wins k) (g k) s }

  -- the second only where it is strictly less, since the first comes before all of T
  pub finds_lesser : {x y : Least} {j l : List ℕ} → ((k : List ℕ) → T k → Before j k) → Finds f S x j → Finds f T y l
      → Finds f (Either S T) (lesser x y) (cond (under y x) l j)
  unfolding lesser under
  finds_lesser order (nothing h) (nothing g) = nothing (λ k s. ⊎_elim (h k) (g k) s)
  finds_lesser order (nothing h) (first g q) = first (best_second g (λ k s. absurd (h k s))) q
  finds_lesser order (first h p) (nothing g) = first (best_first h (λ k s. absurd (g k s))) p
  finds_lesser {j = j} {l = l} order (first {x = x} h p) (first {x = y} g q) = go (ltb y x) refl
    where
      earlier : (k : List ℕ) → T k → Wins f Before l k → x ≤ y → Wins f Before j k
      earlier k s i e = record { no_dearer = omega arith; no_later = λ v. order k s }

      go : (t : Bool) → ltb y x ≡ t → Finds f (Either S T) (cond t (some y) (some x)) (cond t l j)
      go true e = first (best_second g (λ k s. let i = h.wins k s in omega (arith, ltb-true y x e))) q
      go false e = first (best_first h (λ k s. earlier k s (g.wins k s) (ltb-false y x e))) p

-- ---- the same by other words, at c more, and with a magnitude in front
pub finds_same : {f : List ℕ → ℕ} {S T : List ℕ → Type 0} {x : Least} {l : List ℕ} → ((k : List ℕ) → S k → T k)
    → ((k : List ℕ) → T k → S k) → Finds f S x l → Finds f T x l
finds_same to from (nothing h) = nothing (λ k s. h k (from k s))
finds_same to from (first h p) = first (best_of_same to from h) p

pub finds_plus : {f w : List ℕ → ℕ} {S : List ℕ → Type 0} {x : Least} {l : List ℕ} (c : ℕ)
    → ((k : List ℕ) → S k → w k ≡ c + f k)
    → Finds f S x l → Finds w S (plus c x) l
unfolding plus
finds_plus c e (nothing h) = nothing h
finds_plus {f} {w} {l = l} c e (first {x = y} h p) =
    first {x = c + y} (record { member = h.member; wins = λ k s. dearer k (e k s) (h.wins k s) })
    (omega (arith, here))
  where
    here : w l ≡ c + f l
    here = e l h.member

    dearer : (k : List ℕ) → w k ≡ c + f k → Wins f Before l k → Wins w Before l k
    dearer k q i = record { no_dearer = omega (arith, here); no_later = λ u. i.no_later (omega (arith, here)) }

-- the cheapest magnitude in front of the cheapest block
pub finds_led : {f w : List ℕ → ℕ} {g : ℕ → ℕ} {A : ℕ → Type 0} {K : List ℕ → Type 0} {a : ℕ} {x : Least} {l : List ℕ}
    → ((b : ℕ) (k : List ℕ) → A b → K k → w (b ∷ k) ≡ g b + f k) → Best g ◌≤◌ A a → Finds f K x l
    → Finds w (Led A K) (plus (g a) x) (a ∷ l)
unfolding plus
finds_led e i (nothing h) = nothing (led_each (λ k. ⊥) (λ b k s t. h k t))
finds_led {f} {w} {g} {A} {K} {a} {l = l} e i (first {x = y} h p) =
    first {x = g a + y} {l = a ∷ l}
    (record {
      member = (i.member, h.member);
      wins = led_each (Wins w Before (a ∷ l)) (λ b k s t. dearer b k (e b k s t) (i.wins b s) (h.wins k t));
    })
    (omega (arith, here))
  where
    here : w (a ∷ l) ≡ g a + f l
    here = e a l i.member h.member

    dearer : (b : ℕ) (k : List ℕ) → w (b ∷ k) ≡ g b + f k → Wins g ◌≤◌ a b → Wins f Before l k
        → Wins w Before (a ∷ l) (b ∷ k)
    dearer b k q m n =
        record {
          no_dearer = omega (arith, here);
          no_later = λ u. before_led a b (m.no_later (omega (arith, here))) (n.no_later (omega (arith, here)));
        }
