-- A least price as code holds it: none is a number of 2^63 and more, which no price reaches, so that one comparison of
-- numbers is enough. What code holds so is the search's where a place is passed, and from where on nothing is kept at
-- all.
use mathlib.Core.Path.{◌≡◌, refl, sym, ap, ◌∙◌}
use mathlib.Core.Bool.{Bool, true, false, cond}
use mathlib.Core.List.{List, [], ◌∷◌}
use Prim.Native.Nat.{ℕ, suc, ◌+◌, ◌≤◌, ◌<◌, ◌^◌}
use native.Mathlib.Omega.{arith}
use lib.Dec.{ltb}
use lib.ListN.{length, get_or}
use borrow.Author.Tests.{ltb-true, ltb-false, lt-ltb, le-ltb}
use Rattle.price.specs.Rule.{cost}
use Rattle.price.specs.Price.{uncoded}
use Rattle.price.specs.Inner.Search.{Least, none, some, plus, under, lesser, with_zero, taken_by, least_by}
use Rattle.price.specs.Inner.Search.{taken, ahead}
use Rattle.price.specs.Inner.Search as of-price
use Rattle.price.proofs.Search.{quiet_ahead}
use Rattle.scaling.specs.declared.scale.Scale.{Scale}
use Rattle.weights.specs.declared.prices.Prices.{Prices}
use Rattle.weights.specs.Inner.Prices.{zero_price, rate_by, rule_by}
use Rattle.scaling.proofs.Scaling.{nearest_of_0}
use Rattle.weights.proofs.Places.{nothing_uncoded}
use Rattle.ahead.specs.declared.Ahead.{Ahead}
use Rattle.ahead.specs.Inner.Ahead.{passed_by}
use Rattle.passes.specs.Inner.Passes.{Holds, Held}

-- ---- the least price x, held as v
abbrev pub As : Least → ℕ → Type 0
As none v = 2 ^ 63 ≤ v
As (some x) v = v ≡ x

pub as_held : (n : ℕ) (x : Least) (v : ℕ) → Holds n x v → As x v
as_held n none v h = h.0
as_held n (some x) v h = h.0

small_held : (n : ℕ) (x : Least) (v : ℕ) → n ≤ 4096 → Holds n x v → v ≤ 2 ^ 63 + 2 ^ 61
small_held n none v l h = omega arith
small_held n (some x) v l h = omega arith

pub held_small : (p : Prices) (g : Scale) (n : ℕ) (ps : List ℕ) (t : Ahead) → n ≤ 4096 → Held p g n ps t
    → (t.zero ≤ 2 ^ 63 + 2 ^ 61) × (t.level ≤ 2 ^ 63 + 2 ^ 61)
held_small p g n ps t l h =
    let x = ahead (rule_by p g) ps in
    (small_held n x.after_zero t.zero l h.zero, small_held n x.after_level t.level l h.level)

pub as_plus : (c : ℕ) (x : Least) (v : ℕ) → As x v → As (plus c x) (v + c)
unfolding plus
as_plus c none v h = omega arith
as_plus c (some x) v h = omega arith

held_plus : (n c : ℕ) (x : Least) (v : ℕ) → c ≤ 2 ^ 48 → Holds n x v → Holds (suc n) (plus c x) (v + c)
unfolding plus
held_plus n c none v b h = (omega arith, omega arith)
held_plus n c (some x) v b h = (omega arith, omega arith)

some_of : (t : Bool) (a b : ℕ) → cond t (some a) (some b) ≡ some (cond t a b)
some_of true a b = refl
some_of false a b = refl

-- against a price e that is there
module _ (v e : ℕ) (l : e < 2 ^ 63) where
  pub under_some : (x : Least) → As x v → under x (some e) ≡ ltb v e
  unfolding under
  under_some none h = sym (le-ltb v e (omega arith))
  under_some (some x) h = ap (λ (k : ℕ). ltb k e) (sym h)

  pub some_under : (x : Least) → As x v → under (some e) x ≡ ltb e v
  unfolding under
  some_under none h = sym (lt-ltb e v (omega arith))
  some_under (some x) h = ap (ltb e) (sym h)

  pub lesser_some : (x : Least) → As x v → lesser (some e) x ≡ some (cond (ltb v e) v e)
  unfolding lesser under
  lesser_some none h = rw (le-ltb v e (omega arith))
  lesser_some (some x) h = rw h (some_of (ltb x e) x e)

  pub some_lesser : (x : Least) → As x v → lesser x (some e) ≡ some (cond (ltb e v) e v)
  unfolding lesser under
  some_lesser none h = rw (lt-ltb e v (omega arith))
  some_lesser (some x) h = rw h (some_of (ltb e x) e x)

pub lower : (t : Bool) (a b : ℕ) → ltb a b ≡ t → (cond t a b ≤ a) × (cond t a b ≤ b)
lower true a b e = let h = ltb-true a b e in (omega arith, omega arith)
lower false a b e = let h = ltb-false a b e in (omega arith, omega arith)

-- ---- a place that is passed: nothing is kept there
module _ (p : Prices) (g : Scale) where
  nothing_top : (rule_by p g).top 0 ≡ 0
  unfolding rule_by
  nothing_top = nearest_of_0 g.shift (omega (arith, g.sound.low))

  module _ (z : Bool) (ps : List ℕ) (t : of-price.Ahead) where
    zero_cost : cost (rule_by p g) z 0 0 ≡ zero_price p z
    unfolding cost rule_by rate_by
    zero_cost = omega (arith, nothing_uncoded p g)

    passed_least : least_by (rule_by p g) z 0 ps t ((rule_by p g).top 0) ≡ plus (zero_price p z) t.after_zero
    unfolding least_by with_zero
    passed_least = rw (nothing_top, zero_cost)

    pub passed_taken : taken (rule_by p g) z 0 ps t ≡ 0
    unfolding taken taken_by
    passed_taken = rw nothing_top

  pub passed_held : (n : ℕ) (ps : List ℕ) (h : Ahead) → Held p g n ps h
      → Held p g (suc n) (0 ∷ ps) (passed_by p h)
  unfolding ahead uncoded
  passed_held n ps h k =
      let t = ahead (rule_by p g) ps in
      record {
        zero = rw (passed_least true ps t) (held_plus n p.zeros t.after_zero h.zero p.modest.zeros k.zero);
        level = rw (passed_least false ps t) (held_plus n p.zero t.after_zero h.zero p.modest.zero k.zero);
        rest = omega (arith, nothing_uncoded p g, k.rest);
      }

  -- where nothing is kept at all there is no nonzero level to come, and nothing is left uncoded
  none_uncoded : (ps : List ℕ) → ((k : ℕ) → k < length ps → get_or ps k 0 ≡ 0) → uncoded (rule_by p g) ps ≡ 0
  unfolding uncoded
  none_uncoded [] q = refl
  none_uncoded (L ∷ ps) q =
      rw (q 0 (omega arith)) (omega (arith, nothing_uncoded p g, none_uncoded ps (λ k h. q (suc k) (omega arith))))

  pub none_held : (n : ℕ) (ps : List ℕ) → ((k : ℕ) → k < length ps → get_or ps k 0 ≡ 0)
      → Held p g n ps (record { zero = 2 ^ 63; level = 2 ^ 63; rest = 0 })
  none_held n ps q =
      let none_ahead = quiet_ahead (rule_by p g) ps (λ k h. ap (rule_by p g).top (q k h) ∙ nothing_top) in
      record {
        zero = rw (none_ahead true) (omega arith, omega arith);
        level = rw (none_ahead false) (omega arith, omega arith);
        rest = sym (none_uncoded ps q);
      }
