-- The end of the search: the coded block's price against the empty one's, both over the whole block's D, of which what
-- is kept is a part. Where no block with a nonzero level is there its price is past every other, and no sum passes
-- 2^64.
use mathlib.Core.Path.{◌≡◌, refl, sym, ap, subst, ◌∙◌}
use mathlib.Core.Bool.{true, false}
use mathlib.Core.List.{List}
use Prim.Native.Nat.{ℕ, ◌+◌, ◌-◌, ◌*◌, ◌^◌, ◌≤◌, ◌<◌}
use native.Mathlib.Omega.{arith}
use borrow.Author.Tests.{lt-ltb, le-ltb}
use Rattle.scan.specs.Scan.{scan_at}
use Rattle.price.specs.Rule.{Rule}
use Rattle.price.specs.Price.{uncoded, price}
use Rattle.price.specs.Cheapest.{cheapest}
use Rattle.price.specs.Inner.Search.{Least, none, some, plus, under, lesser, ahead, coded_price, empty_price, is_coded}
use Rattle.price.specs.Inner.Search.{found}
use Rattle.price.specs.Inner.Search.{found_price}
use Rattle.price.proofs.Search.{found_is_cheapest, found_price_lem}
use Rattle.weights.specs.declared.prices.Prices.{Prices}
use Rattle.weights.specs.declared.kept.Kept.{Kept}
use Rattle.weights.specs.Inner.Prices.{rule_by}
use Rattle.weights.specs.Inner.Places.{Standing}
use Rattle.weights.specs.Inner.Chosen.{rule_of, places_of, Blank, ChosenBy}
use Rattle.ahead.specs.declared.Ahead.{Ahead}
use Rattle.passes.specs.Inner.Passes.{Holds, Known, Read}
use Rattle.passes.proofs.Reading.{empty_at}

-- ---- two prices: x is the least one of a coded block but for its flag c, e that of the empty one, d what both have
-- besides
price_coded : (n d c e v : ℕ) (x : Least) → Holds n x v → d + e < 2 ^ 63 → d + v + c < d + e
    → (under (plus c x) (some e) ≡ true) × (some (d + v + c) ≡ plus d (plus c x))
unfolding plus under
price_coded n d c e v none h s l = absurd (let z : ⊥ = omega (arith, h.0) in z)
price_coded n d c e v (some x) h s l = (lt-ltb (c + x) e (omega (arith, h.0)), ap some (omega (arith, h.0)))

price_empty : (n d c e v : ℕ) (x : Least) → Holds n x v → d + e ≤ d + v + c → under (plus c x) (some e) ≡ false
unfolding plus under
price_empty n d c e v none h l = refl
price_empty n d c e v (some x) h l = le-ltb (c + x) e (omega (arith, h.0))

least_small : (n v : ℕ) (x : Least) → Holds n x v → n ≤ 4096 → v ≤ 2 ^ 63 + 2 ^ 60
least_small n v none h l = omega (arith, h.1)
least_small n v (some x) h l = omega (arith, h.0, h.1)

module _ (k : Kept) (t : Ahead) (known : Known k 0 t) where
  abbrev p : Prices
  p = k.weights.prices

  abbrev d : ℕ
  d = k.d

  abbrev area : ℕ
  area = k.scan.w * k.scan.h

  abbrev r : Rule
  r = rule_of k

  abbrev ps : List ℕ
  ps = places_of k

  abbrev coded : ℕ
  coded = d - t.rest + t.level + p.coded

  within : t.rest ≤ d
  within = omega (arith, known.rest, k.choosable.left)

  pub level_small : t.level ≤ 2 ^ 63 + 2 ^ 60
  level_small =
      least_small (area - 0) t.level (ahead r ps).after_level known.level (omega (arith, k.scan.scanned.few))

  whole : d - t.rest + (uncoded r ps + p.empty) ≡ d + p.empty
  whole = omega (arith, within, known.rest)

  -- the search finds the cheapest block
  whole_price : (x : ℕ) → some x ≡ plus (d - t.rest) (found_price r ps)
      → x + uncoded r ps ≡ d + price r (cheapest r ps) ps
  unfolding plus
  whole_price x e =
      let q : ◌≡◌ {A = Least} (some x) (some (d - t.rest + price r (cheapest r ps) ps)) =
      e ∙ ap (plus (d - t.rest)) (found_price_lem r ps) in
      let v : x ≡ d - t.rest + price r (cheapest r ps) ps = cc in
      omega (arith, v, within, known.rest)

  pub found_coded : coded < d + p.empty → (after : List ℕ)
      → Read r k.scan.w k.scan.h ps after
      → ChosenBy cheapest k after coded
  unfolding found found_price is_coded coded_price empty_price lesser rule_by
  found_coded l after s =
      let q =
      price_coded (area - 0) (d - t.rest) p.coded (uncoded r ps + p.empty) t.level
      (ahead r ps).after_level known.level
      (omega (arith, whole, k.choosable.small, p.modest.empty)) (omega (arith, whole)) in
      record {
        room = s.room;
        levels = subst (Standing k.scan.w k.scan.h after) (found_is_cheapest r ps) (rw q.0 s.levels);
        price = whole_price coded (q.1 ∙ rw q.0);
      }

  pub found_empty : d + p.empty ≤ coded → (levels : List ℕ) → Blank k levels
      → ChosenBy cheapest k levels (d + p.empty)
  unfolding found found_price is_coded coded_price empty_price lesser plus rule_by
  found_empty l levels blank =
      let q =
      price_empty (area - 0) (d - t.rest) p.coded (uncoded r ps + p.empty) t.level
      (ahead r ps).after_level known.level
      (omega (arith, whole)) in
      record {
        room = blank.room;
        levels =
            subst (Standing k.scan.w k.scan.h levels) (found_is_cheapest r ps)
            (rw q (λ n i. blank.cleared (scan_at k.scan.w k.scan.h n) ∙ sym (empty_at ps n)));
        price = whole_price (d + p.empty) (rw q (ap some (sym whole)));
      }
