-- The walk's choice at a place: it is allowed, none that is allowed costs less, and at a tie 0 goes before m, and m
-- before m - 1. These three leave one magnitude only, so the magnitudes walked are the only ones chosen like that.
use Rattle.std.proofs.Common.{◌≡◌, ℕ, zero, suc, ◌+◌, ◌-◌, ◌<◌, ◌≤◌, Bool, true, false, cond, ltb, ◌⊎◌, List}
use Rattle.std.proofs.Common.{[], ◌∷◌, length, get_or, sym, refl, ap, ◌∙◌, subst, inl, inr, ⊎_elim, arith}
use Rattle.std.proofs.Common.{ltb-false, ltb-true, le-ltb, lt-ltb}
use Rattle.integers.proofs.Order.{below_or_not}
use Rattle.price.specs.Rule.{Rule, Allowed, is_zero, cost}
use Rattle.price.specs.Walk.{cheaper, first_least, chosen, walked, zero_before}

-- c is the cheaper of a and b: b only where it is strictly cheaper
pub record Cheaper (f : ℕ → ℕ) (a b c : ℕ) : Type 0 where
  pub first : f c ≤ f a
  pub second : f c ≤ f b
  pub which : (c ≡ a) ⊎ ((c ≡ b) × (f c < f a))

pub cheaper_is : (f : ℕ → ℕ) (a b : ℕ) → Cheaper f a b (cheaper f a b)
unfolding cheaper
cheaper_is f a b = go (ltb (f b) (f a)) refl
  where
    go : (t : Bool) → ltb (f b) (f a) ≡ t → Cheaper f a b (cond t b a)
    go true e = let h =
        ltb-true (f b) (f a) e in record { first = omega arith; second = omega arith; which = inr (refl, h) }
    go false e = let h =
        ltb-false (f b) (f a) e in record { first = omega arith; second = omega arith; which = inl refl }

-- costs that differ by the same everywhere have one first least
pub same_least : (f g : ℕ → ℕ) (a b : ℕ) → ((k : ℕ) → f k + a ≡ g k + b) → (x : ℕ) (ks : List ℕ)
    → first_least f x ks ≡ first_least g x ks
unfolding cheaper first_least
same_least f g a b e x [] = refl
same_least f g a b e x (k ∷ ks) =
    ap (λ (t : Bool). first_least f (cond t k x) ks) test ∙ same_least f g a b e (cheaper g x k) ks
  where
    test : ltb (f k) (f x) ≡ ltb (g k) (g x)
    test =
        ⊎_elim (λ (l : f k < f x). lt-ltb (f k) (f x) l ∙ sym (lt-ltb (g k) (g x) (omega (arith, e k, e x))))
        (λ (l : f x ≤ f k). le-ltb (f k) (f x) l ∙ sym (le-ltb (g k) (g x) (omega (arith, e k, e x))))
        (below_or_not (f k) (f x))

-- c is the cheapest magnitude allowed where m is the rounded one
pub record Cheapest (f : ℕ → ℕ) (m c : ℕ) : Type 0 where
  pub allowed : Allowed m c
  pub least : (a : ℕ) → Allowed m a → f c ≤ f a
  pub zero_first : f 0 ≡ f c → c ≡ 0
  pub top_next : f m ≡ f c → (c ≡ 0) ⊎ (c ≡ m)

-- c, below m by 1, is allowed: where m is 0 or 1 it is 0
one_less : (m c : ℕ) → c ≡ m - 1 → Allowed m c
one_less zero c e = inl (omega arith)
one_less (suc zero) c e = inl (omega arith)
one_less (suc (suc n)) c e = inr (inr (omega arith, omega arith))

module _ (f : ℕ → ℕ) (m b c : ℕ) (hb : Cheaper f 0 m b) (hc : Cheaper f b (m - 1) c) where
  least_of_three : (a : ℕ) → Allowed m a → f c ≤ f a
  least_of_three a (inl e) = rw e (omega arith)
  least_of_three a (inr (inl e)) = rw e (omega arith)
  least_of_three a (inr (inr e)) = let q : a ≡ m - 1 = omega arith in rw q hc.second

  cheapest_of_three : (b ≡ 0) ⊎ ((b ≡ m) × (f b < f 0)) → (c ≡ b) ⊎ ((c ≡ m - 1) × (f c < f b)) → Cheapest f m c
  cheapest_of_three (inl q) (inl p) =
      record { allowed = inl (p ∙ q); least = least_of_three; zero_first = λ e. p ∙ q; top_next = λ e. inl (p ∙ q) }
  cheapest_of_three (inr q) (inl p) =
      let g = ap f p in
      record {
        allowed = inr (inl (p ∙ q.0));
        least = least_of_three;
        zero_first = λ e. absurd (omega arith);
        top_next = λ e. inr (p ∙ q.0);
      }
  cheapest_of_three q (inr p) =
      record {
        allowed = one_less m c p.0;
        least = least_of_three;
        zero_first = λ e. absurd (omega arith);
        top_next = λ e. absurd (omega arith);
      }

pub chosen_cheapest : (r : Rule) (z : Bool) (p : ℕ) → Cheapest (cost r z p) (r.top p) (chosen r z p)
unfolding first_least chosen
chosen_cheapest r z p =
    let f = cost r z p in
    let m = r.top p in
    let hb = cheaper_is f 0 m in
    let hc = cheaper_is f (cheaper f 0 m) (m - 1) in
    cheapest_of_three f m _ _ hb hc hb.which hc.which

pub cheapest_unique : (f : ℕ → ℕ) (m c d : ℕ) → Cheapest f m c → Cheapest f m d → c ≡ d
cheapest_unique f m c d hc hd = go hc.allowed hd.allowed
  where
    same : f c ≡ f d
    same = omega (arith, hc.least d hd.allowed, hd.least c hc.allowed)

    both_zero : (a b : ℕ) → Cheapest f m b → f a ≡ f b → a ≡ 0 → b ≡ a
    both_zero a b h e q = h.zero_first (ap f (sym q) ∙ e) ∙ sym q

    both_top : (a b : ℕ) → Cheapest f m a → Cheapest f m b → f a ≡ f b → a ≡ m → a ≡ b
    both_top a b ha hb e q =
        ⊎_elim (λ (i : b ≡ 0). both_zero b a ha (sym e) i) (λ (i : b ≡ m). q ∙ sym i) (hb.top_next (ap f (sym q) ∙ e))

    go : Allowed m c → Allowed m d → c ≡ d
    go (inl p) q = sym (both_zero c d hd same p)
    go (inr (inl p)) q = both_top c d hc hd same p
    go (inr (inr p)) (inl q) = both_zero d c hc (sym same) q
    go (inr (inr p)) (inr (inl q)) = sym (both_top d c hd hc (sym same) q)
    go (inr (inr p)) (inr (inr q)) = omega arith

pub length_walked : (r : Rule) (z : Bool) (ps : List ℕ) → length (walked r z ps) ≡ length ps
unfolding walked
length_walked r z [] = refl
length_walked r z (p ∷ ps) = ap suc (length_walked r (is_zero (chosen r z p)) ps)

-- the level of ls at place k is the cheapest allowed after those before it; z: the level before the first place is 0
abbrev pub CheapestAt : Rule → Bool → List ℕ → List ℕ → ℕ → Type 0
CheapestAt r z ls ps k = let p = get_or ps k 0 in Cheapest (cost r (zero_before z ls k) p) (r.top p) (get_or ls k 0)

before_in_tail : (z : Bool) (a : ℕ) (ls : List ℕ) (k : ℕ)
    → zero_before z (a ∷ ls) (suc k) ≡ zero_before (is_zero a) ls k
before_in_tail z a ls zero = refl
before_in_tail z a ls (suc k) = refl

pub walked_cheapest : (r : Rule) (z : Bool) (ps : List ℕ) (k : ℕ) → k < length ps → CheapestAt r z (walked r z ps) ps k
unfolding walked
walked_cheapest r z [] k h = absurd (omega arith)
walked_cheapest r z (p ∷ ps) zero h = chosen_cheapest r z p
walked_cheapest r z (p ∷ ps) (suc k) h =
    let a = chosen r z p in
    rw (before_in_tail z a (walked r (is_zero a) ps) k) (walked_cheapest r (is_zero a) ps k (omega arith))

pub cheapest_walked : (r : Rule) (z : Bool) (ls ps : List ℕ) → length ls ≡ length ps
    → ((k : ℕ) → k < length ps → CheapestAt r z ls ps k) → ls ≡ walked r z ps
unfolding walked
cheapest_walked r z [] [] e h = refl
cheapest_walked r z [] (p ∷ ps) e h = absurd (omega arith)
cheapest_walked r z (a ∷ ls) [] e h = absurd (omega arith)
cheapest_walked r z (a ∷ ls) (p ∷ ps) e h =
    let q = cheapest_unique (cost r z p) (r.top p) a (chosen r z p) (h 0 (omega arith)) (chosen_cheapest r z p) in
    let i = cheapest_walked r (is_zero a) ls ps (omega arith)
    (λ k g. rw (before_in_tail z a ls k) at (h (suc k) (omega arith))) in
    subst (λ (c : ℕ). a ∷ ls ≡ c ∷ walked r (is_zero c) ps) q (ap (λ (l : List ℕ). a ∷ l) i)
