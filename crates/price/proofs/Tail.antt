-- Places at the end whose m is 0 change neither the best price nor the cut: a walk may stop before them, and D, which
-- is taken over all places, is in its totals from the start.
use Rattle.std.proofs.Common.{◌≡◌, ℕ, zero, suc, ◌+◌, ◌<◌, Bool, List, [], ◌∷◌, length, get_or, take, drop}
use Rattle.std.proofs.Common.{sym, refl, ap, ◌∙◌, inl, inr, arith}
use Rattle.price.specs.Rule.{Rule, Allowed, is_zero}
use Rattle.price.specs.Price.{price}
use Rattle.price.specs.Walk.{chosen, cut_of, written}
use Rattle.price.specs.Inner.OnePass.{Totals, start, advance, step, walk}
use Rattle.price.proofs.Choice.{chosen_cheapest}
use Rattle.price.proofs.OnePass.{one_pass_cut, one_pass_price}

pub only_zero : (m a : ℕ) → m ≡ 0 → Allowed m a → a ≡ 0
only_zero m a e (inl h) = h
only_zero m a e (inr (inl h)) = omega arith
only_zero m a e (inr (inr h)) = absurd (omega arith)

pub quiet_chosen : (r : Rule) (z : Bool) (p : ℕ) → r.top p ≡ 0 → chosen r z p ≡ 0
quiet_chosen r z p e = only_zero (r.top p) (chosen r z p) e (chosen_cheapest r z p).allowed

-- the same cut at the same price
abbrev Same : Totals → Totals → Type 0
Same w v = (v.best ≡ w.best) × (v.cut ≡ w.cut)

quiet_step : (r : Rule) (n : ℕ) (w : Totals) (p : ℕ) → r.top p ≡ 0 → Same w (step r n w p)
unfolding advance step
quiet_step r n w p e = rw (quiet_chosen r (is_zero w.prev) p e) (refl, refl)

-- m is 0 at each of the places
abbrev pub Quiet : Rule → List ℕ → Type 0
Quiet r ps = (k : ℕ) → k < length ps → r.top (get_or ps k 0) ≡ 0

pub quiet_walk : (r : Rule) (n : ℕ) (w : Totals) (ps : List ℕ) → Quiet r ps → Same w (walk r n w ps)
unfolding walk
quiet_walk r n w [] q = (refl, refl)
quiet_walk r n w (p ∷ ps) q =
    let s = quiet_step r n w p (q 0 (omega arith)) in
    let g = quiet_walk r (suc n) (step r n w p) ps (λ k h. q (suc k) (omega arith)) in
    (g.0 ∙ s.0, g.1 ∙ s.1)

-- a walk in two parts
pub walk_parts : (r : Rule) (n : ℕ) (w : Totals) (ps : List ℕ) (i : ℕ)
    → walk r (n + i) (walk r n w (take i ps)) (drop i ps) ≡ walk r n w ps
unfolding walk
walk_parts r n w ps zero = ap (λ (m : ℕ). walk r m w ps) (omega arith)
walk_parts r n w [] (suc i) = refl
walk_parts r n w (p ∷ ps) (suc i) =
    ap (λ (m : ℕ). walk r m (walk r (suc n) (step r n w p) (take i ps)) (drop i ps)) (omega arith)
    ∙ walk_parts r (suc n) (step r n w p) ps i

module _ (r : Rule) (ps : List ℕ) (i : ℕ) (q : Quiet r (drop i ps)) where
  stopped : Same (walk r 0 (start r ps) (take i ps)) (walk r 0 (start r ps) ps)
  stopped = rw (← walk_parts r 0 (start r ps) ps i) (quiet_walk r (0 + i) (walk r 0 (start r ps) (take i ps))
      (drop i ps) q)

  pub stopped_cut : (walk r 0 (start r ps) (take i ps)).cut ≡ cut_of r ps
  stopped_cut = sym stopped.1 ∙ one_pass_cut r ps

  pub stopped_price : (walk r 0 (start r ps) (take i ps)).best ≡ price r (written r ps) ps
  stopped_price = sym stopped.0 ∙ one_pass_price r ps
