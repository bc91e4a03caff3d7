-- The price put together from its parts, as code adds them: its definition by the size of the block, and each part
-- held.
use mathlib.Core.Path.{◌≡◌, refl, sym, ap, ◌∙◌}
use mathlib.Core.Bool.{false}
use mathlib.Core.List.{List, [], ◌∷◌}
use Prim.Native.Nat.{ℕ, zero, suc, ◌+◌, ◌-◌, ◌*◌}
use native.Mathlib.Omega.{arith}
use lib.ListN.{take, drop}
use Rattle.integers.specs.Sum.{over, on_ℕ}
use Rattle.integers.proofs.Over.{over_map}
use Rattle.price.specs.Rule.{Rule}
use Rattle.price.specs.Price.{uncoded, costs, nonzeros, size, price}
use Rattle.price.proofs.Bounds.{uncoded_over}
use Rattle.scaling.specs.declared.scale.Scale.{Scale}
use Rattle.weights.specs.declared.prices.Prices.{Prices}
use Rattle.weights.specs.Inner.Prices.{rule_by}
use Rattle.finished.specs.Inner.Finished.{held, places_of, uncoded_at, flags_to}
use Rattle.finished.proofs.Holding.{held_more, held_both}

price_at : (r : Rule) (ls ps : List ℕ) (n : ℕ) → size ls ≡ n → (n ≡ 0 → ⊥)
    → costs r false (take n ls) ps + uncoded r (drop n ps) + (r.coded + nonzeros (take (n - 1) ls) * r.more + r.last)
    ≡ price r ls ps
unfolding price
price_at r ls ps zero s ne = absurd (ne refl)
price_at r ls ps (suc k) s ne = let q : suc k - 1 ≡ k = omega arith in rw (s, q) (omega arith)

places_behind : (g : Scale) (cs : List ℕ) (n : ℕ) → places_of g (drop n cs) ≡ drop n (places_of g cs)
places_behind g cs zero = refl
places_behind g [] (suc n) = refl
places_behind g (c ∷ cs) (suc n) = places_behind g cs n

module _ (p : Prices) (g : Scale) (cs : List ℕ) where
  -- D behind the first n places
  uncoded_behind : (n : ℕ) → over on_ℕ (uncoded_at g) (drop n cs) ≡ uncoded (rule_by p g) (drop n (places_of g cs))
  unfolding rule_by
  uncoded_behind n =
      sym (over_map on_ℕ (λ L. (rule_by p g).dist L 0) (λ c. c * g.q) (drop n cs))
      ∙ sym (uncoded_over (rule_by p g) (places_of g (drop n cs)))
      ∙ ap (uncoded (rule_by p g)) (places_behind g cs n)

  coded_is : (ls : List ℕ) (n : ℕ) → size ls ≡ n → (n ≡ 0 → ⊥)
      → (let r = rule_by p g in let ps = places_of g cs in
      costs r false (take n ls) ps + uncoded r (drop n ps) + flags_to p ls n ≡ price r ls ps)
  unfolding rule_by
  coded_is ls n = price_at (rule_by p g) ls (places_of g cs) n

  module _ (ls : List ℕ) (n d : ℕ) (s : n ≡ size ls) (hd : d ≡ held (over on_ℕ (uncoded_at g) (drop n cs))) where
    pub empty_price_lem : n ≡ 0 → held (d + p.empty) ≡ held (price (rule_by p g) ls (places_of g cs))
    unfolding rule_by price
    empty_price_lem e =
        let k : size ls ≡ 0 = sym s ∙ e in
        ap (λ (x : ℕ). held (x + p.empty)) (hd ∙ ap held (uncoded_behind n))
        ∙ held_more _ p.empty
        ∙ rw (k, e)

    pub coded_price_lem : (n ≡ 0 → ⊥) → (c f t : ℕ)
        → c ≡ held (costs (rule_by p g) false (take n ls) (places_of g cs))
        → f ≡ flags_to p ls n
        → t ≡ held (c + d)
        → held (t + f) ≡ held (price (rule_by p g) ls (places_of g cs))
    coded_price_lem ne c f t hc hf ht = added ∙ ap held (coded_is ls n (sym s) ne)
      where
        first : ℕ
        first = costs (rule_by p g) false (take n ls) (places_of g cs)

        left : ℕ
        left = uncoded (rule_by p g) (drop n (places_of g cs))

        both : c + d ≡ held first + held left
        both = rw (hc, hd, uncoded_behind n)

        added : held (t + f) ≡ held (first + left + flags_to p ls n)
        added = rw (ht, both, held_both first left, held_more (first + left) f, hf)
