-- The walk's step by one offer: of 0, m and m - 1 the choice is the same when the cheaper of m and m - 1 is weighed
-- against 0, and that cheaper one does not depend on the level before, whose price is in both. A place with m = 0 is
-- passed.
use mathlib.Core.Path.{◌≡◌, refl, sym, ap, ◌∙◌}
use mathlib.Core.Bool.{Bool, true, false, cond}
use Prim.Native.Nat.{ℕ, zero, suc, ◌+◌, ◌-◌, ◌≤◌, ◌<◌}
use native.Mathlib.Omega.{arith}
use native.Mathlib.Numerals.{add-one}
use lib.Dec.{ltb, eqb}
use borrow.Author.Tests.{ltb-true, ltb-false, lt-ltb, le-ltb, ne_eqb}
use Rattle.price.specs.Level.{nearest, distortion}
use Rattle.price.specs.Rule.{Rule, is_zero, cost}
use Rattle.price.specs.Walk.{cheaper, first_least, chosen}
use Rattle.price.specs.Inner.OnePass.{Totals, advance, step}
use Rattle.price.proofs.Tail.{quiet_chosen}
use Rattle.scaling.specs.declared.scale.Scale.{Scale}
use Rattle.weights.specs.declared.prices.Prices.{Prices}
use Rattle.weights.specs.declared.offers.Offer.{Offer}
use Rattle.weights.specs.Inner.Prices.{rule_by, rate_by, zero_price, head_price}
use Rattle.weights.specs.Inner.Offers.{bare, offered, Offered}
use Rattle.weights.proofs.Offering.{by, same_offer, cost_by}
use Rattle.step.specs.Inner.Totals.{passed}

-- ---- the choice
other_way : (f : ℕ → ℕ) (m n : ℕ) → cheaper f (cheaper f 0 m) n ≡ cheaper f 0 (cheaper f m n)
other_way f m n = go (ltb (f m) (f 0)) (ltb (f n) (f m)) refl refl
  where
    go : (s t : Bool) → ltb (f m) (f 0) ≡ s → ltb (f n) (f m) ≡ t → cheaper f (cheaper f 0 m) n
        ≡ cheaper f 0 (cheaper f m n)
    go true true a b =
        let p = ltb-true (f m) (f 0) a in
        let q = ltb-true (f n) (f m) b in
        rw (by f 0 m true a, by f m n true b, by f 0 n true (lt-ltb (f n) (f 0) (omega arith)))
    go true false a b = rw (by f 0 m true a, by f m n false b, by f 0 m true a)
    go false true a b = rw (by f 0 m false a, by f m n true b)
    go false false a b =
        let p = ltb-false (f m) (f 0) a in
        let q = ltb-false (f n) (f m) b in
        rw (by f 0 m false a, by f m n false b, by f 0 m false a, by f 0 n false (le-ltb (f n) (f 0) (omega arith)))

-- where m is 1, m - 1 is 0 once more
single : (f : ℕ → ℕ) → cheaper f (cheaper f 0 1) 0 ≡ cheaper f 0 1
single f = go (ltb (f 1) (f 0)) refl
  where
    go : (s : Bool) → ltb (f 1) (f 0) ≡ s → cheaper f (cheaper f 0 1) 0 ≡ cheaper f 0 1
    go true a = let p =
        ltb-true (f 1) (f 0) a in rw (by f 0 1 true a, by f 1 0 false (le-ltb (f 0) (f 1) (omega arith)))
    go false a = rw (by f 0 1 false a, by f 0 0 false (le-ltb (f 0) (f 0) (omega arith)))

one_of_three : (f g : ℕ → ℕ) (h : ℕ) → ((a : ℕ) → f (suc a) ≡ g (suc a) + h) → (m : ℕ) → 1 ≤ m
    → cheaper f (cheaper f 0 m) (m - 1) ≡ cheaper f 0 (cond (eqb m 1) m (cheaper g m (m - 1)))
one_of_three f g h e zero p = absurd (omega arith)
one_of_three f g h e (suc zero) p = single f
one_of_three f g h e (suc (suc k)) p =
    let n : suc (suc k) - 1 ≡ suc k = omega arith in
    let m = suc (suc k) in
    let q : eqb m 1 ≡ false = ne_eqb m 1 (λ (x : suc (suc k) ≡ 1). omega (arith, x)) in
    rw (n, q) (other_way f m (suc k) ∙ ap (λ (v : ℕ). cheaper f 0 v) (same_offer f g h m (suc k) (e (suc k)) (e k)))

module _ (p : Prices) (g : Scale) where
  chosen_by : (z : Bool) (L : ℕ) → 1 ≤ nearest g.shift L
      → chosen (rule_by p g) z L ≡ cheaper (cost (rule_by p g) z L) 0 (offered false p g L)
  unfolding chosen first_least rule_by offered
  chosen_by z L h =
      one_of_three (cost (rule_by p g) z L) (bare p g L) (head_price p z) (cost_by p g z L) (nearest g.shift L) h

-- ---- the step
module _ (p : Prices) (g : Scale) (n : ℕ) (w : Totals) (L : ℕ) where
  pub quiet : nearest g.shift L ≡ 0 → distortion g.shift g.error L 0 ≤ w.base
      → step (rule_by p g) n w L ≡ passed p w
  unfolding step advance cost rule_by rate_by
  quiet e h =
      let z = is_zero w.prev in
      let d = distortion g.shift g.error L 0 in
      let b : w.base - d + (d + zero_price p z) + 0 ≡ w.base + zero_price p z = omega arith in
      rw (quiet_chosen (rule_by p g) z L e, b)

  module _ (v : Offer) (o : Offered false p g L v) (d zr hr c : ℕ) (hd : d ≡ distortion g.shift g.error L 0)
      (hz : zr ≡ zero_price p (is_zero w.prev)) (hh : hr ≡ head_price p (is_zero w.prev)) (hc : c ≡ v.price + hr)
      (top : 1 ≤ nearest g.shift L) where
    abbrev f : ℕ → ℕ
    f a = cost (rule_by p g) (is_zero w.prev) L a

    at_zero : f 0 ≡ d + zr
    unfolding cost rule_by rate_by
    at_zero = rw (hd, hz)

    at_level : (a : ℕ) → 1 ≤ a → f a ≡ bare p g L a + head_price p (is_zero w.prev)
    at_level zero h = absurd (omega arith)
    at_level (suc a) h = cost_by p g (is_zero w.prev) L a

    at_offer : f v.level ≡ c
    at_offer = at_level v.level o.some ∙ rw (hc, hh, o.price)

    keeps : d + zr ≤ c → chosen (rule_by p g) (is_zero w.prev) L ≡ 0
    keeps h =
        let t : ltb (f v.level) (f 0) ≡ false = le-ltb (f v.level) (f 0) (rw (at_offer, at_zero) h) in
        chosen_by p g (is_zero w.prev) L top ∙ rw (sym o.is) (by f 0 v.level false t)

    takes : c < d + zr → chosen (rule_by p g) (is_zero w.prev) L ≡ v.level
    takes h =
        let t : ltb (f v.level) (f 0) ≡ true = lt-ltb (f v.level) (f 0) (rw (at_offer, at_zero) h) in
        chosen_by p g (is_zero w.prev) L top ∙ rw (sym o.is) (by f 0 v.level true t)

    pub stays : d + zr ≤ c → d ≤ w.base → record { base = w.base + zr; best = w.best; cut = w.cut; prev = 0 }
        ≡ step (rule_by p g) n w L
    unfolding step advance cost rule_by rate_by
    stays h b =
        let x = distortion g.shift g.error L 0 in
        let k : w.base - x + (x + zero_price p (is_zero w.prev)) + 0 ≡ w.base + zr = omega (arith, hd, hz) in
        rw (keeps h, k)

    by_dist : (rule_by p g).dist L 0 ≡ d
    unfolding rule_by
    by_dist = sym hd

    by_last : (rule_by p g).last ≡ p.last
    unfolding rule_by
    by_last = refl

    pub goes : c < d + zr → advance (rule_by p g) n w v.level (w.base - d + c) (w.base - d + c + p.last)
        ≡ step (rule_by p g) n w L
    unfolding step
    goes h =
        let x : (rule_by p g).dist L 0 ≡ d = by_dist in
        let y : (rule_by p g).last ≡ p.last = by_last in
        rw (takes h, at_offer, x, y)

module _ (r : Rule) (n : ℕ) (w : Totals) (b l : ℕ) where
  pub moves : (a : ℕ) → 1 ≤ a → l < w.best → record { base = b + r.more; best = l; cut = n + 1; prev = a }
      ≡ advance r n w a b l
  unfolding advance
  moves zero e h = absurd (omega arith)
  moves (suc a) e h = rw (lt-ltb l w.best h, add-one n)

  pub goes_on_lem : (a : ℕ) → 1 ≤ a → w.best ≤ l
      → record { base = b + r.more; best = w.best; cut = w.cut; prev = a } ≡ advance r n w a b l
  unfolding advance
  goes_on_lem zero e h = absurd (omega arith)
  goes_on_lem (suc a) e h = rw (le-ltb l w.best h)
