-- A place that is weighed: the one offer against 0, in numbers as code holds them, chooses what the search does, since
-- the offer does not depend on the level before and no price reaches what stands for none.
use mathlib.Core.Path.{◌≡◌, refl, sym, ap, subst, ◌∙◌}
use mathlib.Core.Bool.{Bool, true, false, cond}
use mathlib.Core.List.{List, ◌∷◌}
use Prim.Native.Nat.{ℕ, zero, suc, ◌+◌, ◌-◌, ◌≤◌, ◌<◌, ◌^◌}
use native.Mathlib.Omega.{arith}
use lib.Dec.{ltb, eqb}
use borrow.Author.Tests.{ne_eqb}
use Rattle.price.specs.Level.{nearest, distortion}
use Rattle.price.specs.Rule.{Rule, cost}
use Rattle.price.specs.Price.{uncoded}
use Rattle.price.specs.Walk.{cheaper}
use Rattle.price.specs.Inner.Search.{some, plus, under, lesser, ending, going_on, goes_on, behind, offer, with_zero}
use Rattle.price.specs.Inner.Search.{with_level}
use Rattle.price.specs.Inner.Search.{taken_by, least_by, taken, ahead}
use Rattle.price.specs.Inner.Search as of-price
use Rattle.scaling.specs.declared.scale.Scale.{Scale}
use Rattle.weights.specs.declared.prices.Prices.{Prices}
use Rattle.weights.specs.Inner.Prices.{zero_price, head_price, rate_by, rule_by}
use Rattle.weights.specs.Inner.Offers.{bare, offered}
use Rattle.weights.proofs.Offering.{same_offer, cost_by}
use Rattle.ahead.specs.declared.Ahead.{Ahead}
use Rattle.ahead.specs.declared.Choice.{Choice}
use Rattle.ahead.specs.declared.Weighed.{Weighed}
use Rattle.ahead.specs.Inner.Ahead.{ChosenOf, Ready, behind_by, zero_by, level_by, WeighedBy}
use Rattle.passes.specs.Inner.Passes.{Holds, Held}
use Rattle.passes.proofs.Holding.{As, as_held, as_plus, under_some, some_under, lesser_some, some_lesser, lower}

-- the cheaper of the nonzero magnitudes does not depend on the level before
offer_by : (p : Prices) (g : Scale) (z : Bool) (L m : ℕ) → 1 ≤ m
    → offer (rule_by p g) z L m ≡ cond (eqb m 1) m (cheaper (bare p g L) (m - 1) m)
unfolding offer
offer_by p g z L zero h = absurd (omega arith)
offer_by p g z L (suc zero) h = refl
offer_by p g z L (suc (suc k)) h =
    let e : suc (suc k) - 1 ≡ suc k = omega arith in
    let q : eqb (suc (suc k)) 1 ≡ false = ne_eqb (suc (suc k)) 1 (λ (x : suc (suc k) ≡ 1). omega (arith, x)) in
    rw (e, q) (same_offer (cost (rule_by p g) z L) (bare p g L) (head_price p z) (suc k) (suc (suc k))
    (cost_by p g z L k) (cost_by p g z L (suc k)))

cost_is : (p : Prices) (g : Scale) (z : Bool) (L a : ℕ) → 1 ≤ a
    → cost (rule_by p g) z L a ≡ bare p g L a + head_price p z
cost_is p g z L zero o = absurd (omega arith)
cost_is p g z L (suc a) o = cost_by p g z L a

module _ (r : Rule) (z : Bool) (L : ℕ) (ps : List ℕ) (t : of-price.Ahead) where
  least_some : (m : ℕ) → 1 ≤ m
      → least_by r z L ps t m ≡ lesser (with_zero r z L ps t) (with_level r z L ps t (offer r z L m))
  unfolding least_by
  least_some zero h = absurd (omega arith)
  least_some (suc m) h = refl

  taken_some : (m : ℕ) → 1 ≤ m
      → taken_by r z L ps t m
      ≡ (let a = offer r z L m in cond (under (with_level r z L ps t a) (with_zero r z L ps t)) a 0)
  unfolding taken_by
  taken_some zero h = absurd (omega arith)
  taken_some (suc m) h = refl

module _ (p : Prices) (g : Scale) (n : ℕ) (ps : List ℕ) (h : Ahead) (k : Held p g n ps h) (L : ℕ) (e : Ready p g h L)
    (w : Weighed)
    (q : WeighedBy p g h L w) where
  abbrev r : Rule
  r = rule_by p g

  abbrev t : of-price.Ahead
  t = ahead r ps

  -- the offer at its price, and 0 at its price
  abbrev a : ℕ
  a = offered true p g L

  abbrev y : Bool → ℕ
  y z = level_by p g h L + head_price p z

  abbrev x : Bool → ℕ
  x z = zero_by g h L + zero_price p z

  with_zero_lem : (z : Bool) → As (with_zero r z L ps t) (x z)
  unfolding with_zero cost rule_by rate_by
  with_zero_lem z =
      let d = distortion g.shift g.error L 0 in
      let i : h.zero + (d + zero_price p z) ≡ x z = omega arith in
      subst (λ (v : ℕ). As (with_zero r z L ps t) v) i
      (as_plus (d + zero_price p z) t.after_zero h.zero (as_held n t.after_zero h.zero k.zero))

  ending_is : ending r ps t ≡ some (h.rest + p.last)
  unfolding ending rule_by
  ending_is = ap some (omega (arith, k.rest))

  going_on_lem : As (going_on r ps t) (h.level + p.more)
  unfolding going_on rule_by
  going_on_lem = as_plus p.more t.after_level h.level (as_held n t.after_level h.level k.level)

  ends_below : h.rest + p.last < 2 ^ 63
  ends_below = omega (arith, e.rest, p.modest.last)

  pub weighed_on : goes_on r ps t ≡ w.taken.goes_on
  unfolding goes_on
  weighed_on =
      rw (ending_is, under_some (h.level + p.more) (h.rest + p.last) ends_below (going_on r ps t) going_on_lem)
      (sym q.on)

  behind_is : behind r ps t ≡ some (behind_by p h)
  unfolding behind
  behind_is = rw ending_is (lesser_some (h.level + p.more) (h.rest + p.last) ends_below (going_on r ps t) going_on_lem)

  offer_is : (z : Bool) → offer r z L (nearest g.shift L) ≡ a
  unfolding offered
  offer_is z = offer_by p g z L (nearest g.shift L) e.some

  with_level_lem : (z : Bool) → with_level r z L ps t a ≡ some (y z)
  unfolding with_level plus
  with_level_lem z = rw behind_is (ap some (omega (arith, cost_is p g z L a q.offer.0)))

  head_small : (z : Bool) → head_price p z ≤ 2 ^ 49
  head_small true = p.modest.heads
  head_small false = p.modest.head

  small : (z : Bool) → y z ≤ 2 ^ 62
  small z =
      let b = (lower (ltb (h.level + p.more) (h.rest + p.last)) (h.level + p.more) (h.rest + p.last) refl).1 in
      omega (arith, e.rest, p.modest.last, q.offer.1, head_small z)

  module _ (z : Bool) (c : Choice) (i : ChosenOf (x z) (y z) a c) where
    least_is : Holds (suc n) (least_by r z L ps t (nearest g.shift L)) c.price
    least_is =
        let l : least_by r z L ps t (nearest g.shift L) ≡ some (cond (ltb (y z) (x z)) (y z) (x z)) =
        least_some r z L ps t (nearest g.shift L) e.some
        ∙ rw (offer_is z, with_level_lem z) (some_lesser (x z) (y z) (omega (arith, small z)) (with_zero r z L ps t)
        (with_zero_lem z)) in
        rw l (i.price, omega (arith, small z, (lower (ltb (y z) (x z)) (y z) (x z) refl).0))

    taken_is : taken_by r z L ps t (nearest g.shift L) ≡ c.level
    taken_is =
        taken_some r z L ps t (nearest g.shift L) e.some
        ∙ rw (
          offer_is z,
          with_level_lem z,
          some_under (x z) (y z) (omega (arith, small z)) (with_zero r z L ps t)
              (with_zero_lem z),
        ) (sym i.level)

  pub weighed_zero : taken r true L ps t ≡ w.taken.after_zero
  unfolding taken rule_by
  weighed_zero = taken_is true _ q.zero

  pub weighed_level : taken r false L ps t ≡ w.taken.after_level
  unfolding taken rule_by
  weighed_level = taken_is false _ q.level

  pub weighed_held : Held p g (suc n) (L ∷ ps) w.ahead
  unfolding ahead uncoded rule_by
  weighed_held =
      record {
        zero = least_is true _ q.zero;
        level = least_is false _ q.level;
        rest = omega (
          arith,
          q.rest,
          k.rest,
        );
      }
