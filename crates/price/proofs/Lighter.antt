-- Places at which m is 0 may be taken for others at which it is 0: every block's price changes by the same, so the
-- block that is walked and cut stays the same, and so does the cheapest. Code keeps nothing of such places.
use Rattle.std.proofs.Common.{◌≡◌, ℕ, ◌+◌, Bool, true, false, cond, ◌⊎◌, List, [], ◌∷◌, sym, refl, ap, ◌∙◌}
use Rattle.std.proofs.Common.{subst, inl, inr, arith}
use Rattle.price.specs.Rule.{Rule, Allowed, is_zero, cost}
use Rattle.price.specs.Price.{uncoded, all_zero, price}
use Rattle.price.specs.Walk.{first_least, chosen, walked, cut_at, ends, cut_of, written}
use Rattle.price.specs.Cheapest.{cheapest}
use Rattle.price.specs.Inner.OnePass.{flag}
use Rattle.price.proofs.Choice.{same_least, length_walked}
use Rattle.price.proofs.Price.{length_cut, rest, price_recursive}
use Rattle.price.proofs.Promises.{cut_zero_or_m_or_m-1}
use Rattle.price.proofs.Tail.{only_zero, quiet_chosen}
use Rattle.price.proofs.Blocks.{Block, block_length, allowed_block}
use Rattle.price.proofs.Cheapest.{cheapest_allowed, none_cheaper, none_earlier, cheapest_unique}

module _ (r : Rule) where
  -- the same place, or m is 0 at both
  abbrev pub Stands : ℕ → ℕ → Type 0
  Stands p q = (p ≡ q) ⊎ ((r.top p ≡ 0) × (r.top q ≡ 0))

  -- place by place
  abbrev pub Lighter : List ℕ → List ℕ → Type 0
  Lighter [] [] = Unit
  Lighter [] (q ∷ qs) = ⊥
  Lighter (p ∷ ps) [] = ⊥
  Lighter (p ∷ ps) (q ∷ qs) = Stands p q × Lighter ps qs

  same_top : (p q : ℕ) → Stands p q → r.top p ≡ r.top q
  same_top p q (inl e) = ap r.top e
  same_top p q (inr h) = h.0 ∙ sym h.1

  turned : (ps qs : List ℕ) → Lighter ps qs → Lighter qs ps
  turned [] [] h = tt
  turned [] (q ∷ qs) h = absurd h
  turned (p ∷ ps) [] h = absurd h
  turned (p ∷ ps) (q ∷ qs) h = (other h.0, turned ps qs h.1)
    where
      other : Stands p q → Stands q p
      other (inl e) = inl (sym e)
      other (inr g) = inr (g.1, g.0)

  lighter_block : (ps qs ls : List ℕ) → Lighter ps qs → Block r ps ls → Block r qs ls
  lighter_block [] [] ls h b = b
  lighter_block [] (q ∷ qs) ls h b = absurd h
  lighter_block (p ∷ ps) [] ls h b = absurd h
  lighter_block (p ∷ ps) (q ∷ qs) [] h b = absurd b
  lighter_block (p ∷ ps) (q ∷ qs) (a ∷ ls) h b =
      (subst (λ (m : ℕ). Allowed m a) (same_top p q h.0) b.0, lighter_block ps qs ls h.1 b.1)

  lighter_cost : (z : Bool) (p q a : ℕ) → Stands p q → Allowed (r.top p) a
      → cost r z p a + r.dist q 0 ≡ cost r z q a + r.dist p 0
  unfolding cost
  lighter_cost z p q a (inl e) m = rw e
  lighter_cost z p q a (inr h) m = rw (only_zero (r.top p) a h.0 m) (omega arith)

  lighter_rest : (z : Bool) (ps qs ls : List ℕ) → Lighter ps qs → Block r ps ls → all_zero ls ≡ false
      → rest r z ls ps + uncoded r qs ≡ rest r z ls qs + uncoded r ps
  unfolding rest uncoded
  lighter_rest z [] [] [] h b e = refl
  lighter_rest z [] [] (a ∷ ls) h b e = absurd b
  lighter_rest z [] (q ∷ qs) ls h b e = absurd h
  lighter_rest z (p ∷ ps) [] ls h b e = absurd h
  lighter_rest z (p ∷ ps) (q ∷ qs) [] h b e = absurd b
  lighter_rest z (p ∷ ps) (q ∷ qs) (a ∷ ls) h b e =
      let c = lighter_cost z p q a h.0 b.0 in
      let x = behind (all_zero ls) refl (λ f. lighter_rest (is_zero a) ps qs ls h.1 b.1 f) in
      omega (arith, c, x)
    where
      behind : (t : Bool) → all_zero ls ≡ t
          → (all_zero ls ≡ false → rest r (is_zero a) ls ps + uncoded r qs ≡ rest r (is_zero a) ls qs + uncoded r ps)
          → cond (all_zero ls) (r.last + uncoded r ps) (flag r a + rest r (is_zero a) ls ps) + uncoded r qs
          ≡ cond (all_zero ls) (r.last + uncoded r qs) (flag r a + rest r (is_zero a) ls qs) + uncoded r ps
      behind true f i = rw f (omega arith)
      behind false f i = rw f (omega (arith, i f))

  -- the price changes by what the uncoded squares do
  pub lighter_price : (ps qs ls : List ℕ) → Lighter ps qs → Block r ps ls → price r ls ps + uncoded r qs
      ≡ price r ls qs + uncoded r ps
  lighter_price ps qs ls h b =
      rw (
        price_recursive r ls ps (block_length r ps ls b),
        price_recursive r ls qs (block_length r qs ls (lighter_block ps qs ls h b)),
      )
      (go (all_zero ls) refl)
    where
      go : (t : Bool) → all_zero ls ≡ t
          → cond (all_zero ls) (uncoded r ps + r.empty) (r.coded + rest r false ls ps) + uncoded r qs
          ≡ cond (all_zero ls) (uncoded r qs + r.empty) (r.coded + rest r false ls qs) + uncoded r ps
      go true e = rw e (omega arith)
      go false e = rw e (omega (arith, lighter_rest false ps qs ls h b e))

  pub lighter_cheapest : (ps qs : List ℕ) → Lighter ps qs → cheapest r ps ≡ cheapest r qs
  lighter_cheapest ps qs h =
      let c = cheapest r ps in
      let a = cheapest_allowed r ps in
      let back : (ls : List ℕ) → Block r qs ls → Block r ps ls = λ ls b. lighter_block qs ps ls (turned ps qs h) b in
      cheapest_unique r qs c (lighter_block ps qs c h a)
      (λ k b. omega (
        arith,
        none_cheaper r ps k (back k b),
        lighter_price ps qs k h (back k b),
        lighter_price ps qs c h a,
      ))
      (λ k b e. none_earlier r ps k (back k b)
      (omega (arith, e, lighter_price ps qs k h (back k b), lighter_price ps qs c h a)))

  -- ---- the walk, and its cut
  lighter_chosen : (z : Bool) (p q : ℕ) → Stands p q → chosen r z p ≡ chosen r z q
  lighter_chosen z p q (inl e) = ap (chosen r z) e
  lighter_chosen z p q (inr h) = quiet_chosen r z p h.0 ∙ sym (quiet_chosen r z q h.1)

  lighter_walked : (z : Bool) (ps qs : List ℕ) → Lighter ps qs → walked r z ps ≡ walked r z qs
  unfolding walked
  lighter_walked z [] [] h = refl
  lighter_walked z [] (q ∷ qs) h = absurd h
  lighter_walked z (p ∷ ps) [] h = absurd h
  lighter_walked z (p ∷ ps) (q ∷ qs) h =
      ap (λ (a : ℕ). a ∷ walked r (is_zero a) ps) (lighter_chosen z p q h.0)
      ∙ ap (λ (l : List ℕ). chosen r z q ∷ l) (lighter_walked (is_zero (chosen r z q)) ps qs h.1)

  cut_block : (ps : List ℕ) (c : ℕ) → Block r ps (cut_at c (walked r false ps))
  cut_block ps c =
      allowed_block r ps (cut_at c (walked r false ps)) (length_cut c (walked r false ps) ∙ length_walked r false ps)
      (cut_zero_or_m_or_m-1 r ps c)

  module _ (ps qs : List ℕ) (h : Lighter ps qs) where
    lighter_cut : cut_of r ps ≡ cut_of r qs
    unfolding cut_of
    lighter_cut =
        let ls = walked r false ps in
        same_least (λ k. price r (cut_at k ls) ps) (λ k. price r (cut_at k ls) qs) (uncoded r qs) (uncoded r ps)
        (λ k. lighter_price ps qs (cut_at k ls) h (cut_block ps k)) 0 (ends 0 ls)
        ∙ ap (λ (l : List ℕ). first_least (λ k. price r (cut_at k l) qs) 0 (ends 0 l)) (lighter_walked false ps qs h)

    pub lighter_written : written r ps ≡ written r qs
    unfolding written
    lighter_written =
        ap (λ (k : ℕ). cut_at k (walked r false ps)) lighter_cut
        ∙ ap (cut_at (cut_of r qs)) (lighter_walked false ps qs h)
