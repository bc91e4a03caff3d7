-- One pass over the places with the running totals finds the cut of specs/Walk.antt and its price: code that keeps four
-- numbers does what the definition says of all cuts. The proof goes from place to place with what is spent so far, c.
use Rattle.std.proofs.Common.{◌≡◌, ℕ, zero, suc, ◌+◌, ◌-◌, ◌<◌, ◌≤◌, Bool, true, false, cond, ltb, List, []}
use Rattle.std.proofs.Common.{◌∷◌, length, get_or, take, refl, ap, ◌∙◌, arith}
use Rattle.price.specs.Rule.{Rule, is_zero, cost}
use Rattle.price.specs.Price.{uncoded, price}
use Rattle.price.specs.Walk.{first_least, chosen, walked, cut_at, ends, cut_of, written}
use Rattle.price.specs.Inner.OnePass.{Totals, flag, start_with, start, advance, step, walk}
use Rattle.price.proofs.Choice.{same_least, length_walked}
use Rattle.price.proofs.Price.{rest, rest_here, rest_later, price_empty, price_cut}

-- the total after a step: what was spent, what the place costs, its flag, and u, which is left of D
pub step_base : (r : Rule) (n : ℕ) (w : Totals) (p c u : ℕ) → w.base ≡ c + (r.dist p 0 + u)
    → (let z = is_zero w.prev in let a = chosen r z p in (step r n w p).base ≡ c + (cost r z p a + flag r a) + u)
unfolding advance step
step_base r n w p c u e = omega arith

either : (f : ℕ → ℕ) (t : Bool) (j k x y : ℕ) → x ≡ f j → y ≡ f k → cond t x y ≡ f (cond t j k)
either f true j k x y p q = p
either f false j k x y p q = q

-- A step from w to v at place n weighs, by f, the cut behind a nonzero level a, and nothing behind a 0.
record Advanced (f : ℕ → ℕ) (n : ℕ) (w v : Totals) (a : ℕ) : Type 0 where
  best : v.best ≡ f v.cut
  cut : (ls : List ℕ) → first_least f v.cut (ends (suc n) ls) ≡ first_least f w.cut (ends n (a ∷ ls))

-- f prices the cuts behind the nonzero levels of ls, before which are n places and c is spent
abbrev Prices : (ℕ → ℕ) → Rule → ℕ → ℕ → Bool → List ℕ → List ℕ → Type 0
Prices f r n c z ls ps = (k j : ℕ) → j ≡ n + suc k → 0 < get_or ls k 0 → f j ≡ c + rest r z (cut_at (suc k) ls) ps

module _ (f : ℕ → ℕ) (r : Rule) where
  advanced : (n : ℕ) (w : Totals) (a b l : ℕ) → w.best ≡ f w.cut → (0 < a → l ≡ f (suc n))
      → Advanced f n w (advance r n w a b l) a
  unfolding first_least ends advance
  advanced n w zero b l p q = record { best = p; cut = λ ls. refl }
  advanced n w (suc a) b l p q =
      let e : l ≡ f (suc n) = q (omega arith) in
      record {
        best = either f (ltb l w.best) (suc n) w.cut l w.best e p;
        cut = λ ls. ap (λ (k : ℕ). first_least f k (ends (suc n) ls)) (rw (e, p));
      }

  module _ (n c : ℕ) (z : Bool) (a p : ℕ) (ls ps : List ℕ) (h : Prices f r n c z (a ∷ ls) (p ∷ ps)) where
    prices_here : 0 < a → f (suc n) ≡ c + (cost r z p a + (r.last + uncoded r ps))
    prices_here g = h zero (suc n) (omega arith) g ∙ ap (λ (y : ℕ). c + y) (rest_here r z a ls p ps)

    prices_later : Prices f r (suc n) (c + (cost r z p a + flag r a)) (is_zero a) ls ps
    prices_later k j e g = omega (arith, h (suc k) j (omega arith) g, rest_later r z a ls p ps k g)

  follow : (n : ℕ) (w : Totals) (ps : List ℕ) (c : ℕ) → w.base ≡ c + uncoded r ps → w.best ≡ f w.cut
      → (let z = is_zero w.prev in let ls = walked r z ps in let v = walk r n w ps in
      Prices f r n c z ls ps → (v.best ≡ f v.cut) × (v.cut ≡ first_least f w.cut (ends n ls)))
  unfolding uncoded first_least walked ends walk
  follow n w [] c e b h = (b, refl)
  follow n w (p ∷ ps) c e b h =
      let z = is_zero w.prev in
      let a = chosen r z p in
      let x = step r n w p in
      let ls = walked r (is_zero a) ps in
      let t = w.base - r.dist p 0 + cost r z p a in
      let s : Advanced f n w x a = advanced n w a t (t + r.last) b
      (λ g. omega (arith, prices_here n c z a p ls ps h g)) in
      let d = step_base r n w p c (uncoded r ps) e in
      let i = follow (suc n) x ps (c + (cost r z p a + flag r a)) d s.best (prices_later n c z a p ls ps h) in
      (i.0, i.1 ∙ s.cut ls)

-- D may be over more than the places walked: the walk is the same, and its price has the rest of D besides
module _ (r : Rule) (ps : List ℕ) (d : ℕ) (h : uncoded r ps ≤ d) where
  beside : ℕ
  beside = d - uncoded r ps

  cut_price : ℕ → ℕ
  cut_price k = price r (cut_at k (walked r false ps)) ps

  found : (let v = walk r 0 (start_with r d) ps in
      (v.best ≡ beside + cut_price v.cut) × (v.cut ≡ cut_of r ps))
  unfolding start_with cut_of beside cut_price
  found =
      let ls = walked r false ps in
      let s = follow (λ k. beside + cut_price k) r 0 (start_with r d) ps (beside + r.coded) (omega arith)
      (omega (arith, price_empty r ls ps))
      (λ k j e l. let i : j ≡ suc k = omega arith in
      rw i (omega (arith, price_cut r ls ps k (length_walked r false ps) l))) in
      (s.0, s.1 ∙ same_least (λ k. beside + cut_price k) cut_price 0 beside (λ k. omega arith) 0 (ends 0 ls))

  pub one_pass_cut_with : (walk r 0 (start_with r d) ps).cut ≡ cut_of r ps
  one_pass_cut_with = found.1

  pub one_pass_price_with : (walk r 0 (start_with r d) ps).best + uncoded r ps ≡ d + price r (written r ps) ps
  unfolding written beside cut_price
  one_pass_price_with = omega (arith, found.0, ap cut_price found.1)

module _ (r : Rule) (ps : List ℕ) where
  pub one_pass_cut : (walk r 0 (start r ps) ps).cut ≡ cut_of r ps
  unfolding start
  one_pass_cut = one_pass_cut_with r ps (uncoded r ps) (omega arith)

  pub one_pass_price : (walk r 0 (start r ps) ps).best ≡ price r (written r ps) ps
  unfolding start
  one_pass_price = omega (arith, one_pass_price_with r ps (uncoded r ps) (omega arith))

-- the level that a step leaves is the magnitude walked there
pub one_pass_level : (r : Rule) (n : ℕ) (w : Totals) (ps : List ℕ) (i : ℕ) → i < length ps
    → (walk r n w (take (suc i) ps)).prev ≡ get_or (walked r (is_zero w.prev) ps) i 0
unfolding walked walk
one_pass_level r n w [] i h = absurd (omega arith)
one_pass_level r n w (p ∷ ps) zero h = refl
one_pass_level r n w (p ∷ ps) (suc i) h = one_pass_level r (suc n) (step r n w p) ps i (omega arith)
