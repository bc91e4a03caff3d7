-- How large the running totals become, so that code can hold them: a step adds at most what a 0 costs there and one
-- more flag, what is left of D stays in the total, and the best price only falls. The price written is at most the
-- empty block's, and the squared error at most the price. D is at most what its largest place has, at every place.
use Rattle.std.proofs.Common.{◌≡◌, ℕ, zero, suc, ◌+◌, ◌-◌, ◌*◌, ◌<◌, ◌≤◌, Bool, true, false, cond, not, ◌&&◌}
use Rattle.std.proofs.Common.{ltb, List, [], ◌∷◌, length, get_or, take, drop, refl, ap, inl, suc-mul, arith}
use Rattle.std.proofs.Common.{ltb-true}
use Rattle.integers.specs.Sum.{over, on_ℕ}
use Rattle.integers.proofs.Sums.{nats}
use Rattle.integers.proofs.Over.{over_places}
use Rattle.integers.proofs.Dot.{sum_within}
use Rattle.price.specs.Rule.{Rule, is_zero, cost}
use Rattle.price.specs.Price.{uncoded, squared_error, in_front, size, all_zero, price}
use Rattle.price.specs.Walk.{chosen, walked, written}
use Rattle.price.specs.Inner.OnePass.{Totals, flag, advance, step, walk}
use Rattle.price.proofs.Choice.{chosen_cheapest}
use Rattle.price.proofs.Price.{rest, price_recursive, price_empty}
use Rattle.price.proofs.OnePass.{step_base}
use Rattle.price.proofs.Promises.{written_length, written_no_dearer}

-- the walk never pays more at a place than for a 0 there
pub chosen_at_most : (r : Rule) (z : Bool) (p : ℕ) → cost r z p (chosen r z p) ≤ r.dist p 0 + r.rate z 0
unfolding cost
chosen_at_most r z p = (chosen_cheapest r z p).least 0 (inl refl)

flag_at_most : (r : Rule) (a : ℕ) → flag r a ≤ r.more
flag_at_most r zero = omega arith
flag_at_most r (suc a) = omega arith

-- R bounds the rate of a 0
module _ (r : Rule) (R : ℕ) (free : (z : Bool) → r.rate z 0 ≤ R) where
  pub step_within : (n : ℕ) (w : Totals) (p u : ℕ) → r.dist p 0 + u ≤ w.base
      → (u ≤ (step r n w p).base) × ((step r n w p).base ≤ w.base + (R + r.more))
  step_within n w p u h =
      let z = is_zero w.prev in
      let a = chosen r z p in
      let c = w.base - (r.dist p 0 + u) in
      let b = step_base r n w p c u (omega arith) in
      (omega (arith, b), omega (arith, b, chosen_at_most r z p, free z, flag_at_most r a))

  pub walk_within : (n : ℕ) (w : Totals) (ps : List ℕ) (i : ℕ) → uncoded r ps ≤ w.base
      → (uncoded r (drop i ps) ≤ (walk r n w (take i ps)).base)
      × ((walk r n w (take i ps)).base ≤ w.base + i * (R + r.more))
  unfolding uncoded walk
  walk_within n w ps zero h = (h, omega arith)
  walk_within n w [] (suc i) h = (h, omega arith)
  walk_within n w (p ∷ ps) (suc i) h =
      let s = step_within n w p (uncoded r ps) h in
      let g = walk_within (suc n) (step r n w p) ps i s.0 in
      (g.0, omega (arith, g.1, s.1, suc-mul i (R + r.more)))

lower : (a l b : ℕ) → cond (not (is_zero a) && ltb l b) l b ≤ b
lower zero l b = omega arith
lower (suc a) l b = go (ltb l b) refl
  where
    go : (t : Bool) → ltb l b ≡ t → cond t l b ≤ b
    go true e = omega (arith, ltb-true l b e)
    go false e = omega arith

pub step_best_falls : (r : Rule) (n : ℕ) (w : Totals) (p : ℕ) → (step r n w p).best ≤ w.best
unfolding advance step
step_best_falls r n w p = lower (chosen r (is_zero w.prev) p) _ w.best

pub walk_best_falls : (r : Rule) (n : ℕ) (w : Totals) (ps : List ℕ) → (walk r n w ps).best ≤ w.best
unfolding walk
walk_best_falls r n w [] = omega arith
walk_best_falls r n w (p ∷ ps) = omega (arith, step_best_falls r n w p, walk_best_falls r (suc n) (step r n w p) ps)

pub written_price_at_most_empty : (r : Rule) (ps : List ℕ) → price r (written r ps) ps ≤ uncoded r ps + r.empty
written_price_at_most_empty r ps = omega (arith, written_no_dearer r ps 0 tt, price_empty r (walked r false ps) ps)

-- D as a sum over the places, and its bound where no place has more than x of it
pub uncoded_over : (r : Rule) (ps : List ℕ) → uncoded r ps ≡ over on_ℕ (λ p. r.dist p 0) ps
unfolding uncoded over
uncoded_over r [] = refl
uncoded_over r (p ∷ ps) = ap (λ (n : ℕ). r.dist p 0 + n) (uncoded_over r ps)

pub uncoded_at_most : (r : Rule) (x : ℕ) (ps : List ℕ) → ((k : ℕ) → k < length ps → r.dist (get_or ps k 0) 0 ≤ x)
    → uncoded r ps ≤ length ps * x
uncoded_at_most r x ps h =
    rw (uncoded_over r ps, over_places nats (λ p. r.dist p 0) ps 0)
    (sum_within (length ps) x (λ k. r.dist (get_or ps k 0) 0) h)

-- levels that are all 0 have D for their error
error_uncoded : (r : Rule) (ls ps : List ℕ) → length ls ≡ length ps → size ls ≡ 0 → squared_error r ls ps ≡ uncoded r ps
unfolding uncoded squared_error size
error_uncoded r [] [] h e = refl
error_uncoded r [] (p ∷ ps) h e = absurd (omega arith)
error_uncoded r (a ∷ ls) [] h e = absurd (omega arith)
error_uncoded r (a ∷ ls) (p ∷ ps) h e = go a (size ls) refl e (error_uncoded r ls ps (omega arith))
  where
    go : (a n : ℕ) → size ls ≡ n → in_front a (size ls) ≡ 0 → (size ls ≡ 0 → squared_error r ls ps ≡ uncoded r ps)
        → r.dist p a + squared_error r ls ps ≡ r.dist p 0 + uncoded r ps
    go a (suc n) q e f = absurd (omega (arith, rw q at e))
    go zero zero q e f = omega (arith, f q)
    go (suc a) zero q e f = absurd (omega (arith, rw q at e))

error_rest : (r : Rule) (z : Bool) (ls ps : List ℕ) → length ls ≡ length ps → squared_error r ls ps ≤ rest r z ls ps
unfolding cost squared_error rest
error_rest r z [] ps h = omega arith
error_rest r z (a ∷ ls) [] h = absurd (omega arith)
error_rest r z (a ∷ ls) (p ∷ ps) h = go (size ls) refl (error_rest r (is_zero a) ls ps (omega arith))
  where
    go : (n : ℕ) → size ls ≡ n → squared_error r ls ps ≤ rest r (is_zero a) ls ps
        → squared_error r (a ∷ ls) (p ∷ ps) ≤ rest r z (a ∷ ls) (p ∷ ps)
    go zero q i = rw q (omega (arith, error_uncoded r ls ps (omega arith) q))
    go (suc n) q i = rw q (omega arith)

pub squared_error_at_most_price : (r : Rule) (ls ps : List ℕ) → length ls ≡ length ps
    → squared_error r ls ps ≤ price r ls ps
squared_error_at_most_price r ls ps h = rw (price_recursive r ls ps h) (go (size ls) refl)
  where
    go : (n : ℕ) → size ls ≡ n
        → squared_error r ls ps ≤ cond (all_zero ls) (uncoded r ps + r.empty) (r.coded + rest r false ls ps)
    go zero q = rw q (omega (arith, error_uncoded r ls ps h q))
    go (suc n) q = rw q (omega (arith, error_rest r false ls ps h))

pub written_error_at_most_empty : (r : Rule) (ps : List ℕ) → squared_error r (written r ps) ps ≤ uncoded r ps + r.empty
written_error_at_most_empty r ps =
    omega (
      arith,
      squared_error_at_most_price r (written r ps) ps (written_length r ps),
      written_price_at_most_empty r ps,
    )
