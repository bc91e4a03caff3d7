-- Magnitudes kept by rows, in scan order: each scan place is met once, so that counts don't depend on the order and
-- what holds along the scan holds everywhere. Where nothing is kept m is 0, and no distortion; where something is, L
-- fits.
use mathlib.Core.Path.{◌≡◌, refl, sym, ap, subst, ◌∙◌}
use mathlib.Core.Logic.{⊎_elim}
use mathlib.Core.List.{List, map}
use Prim.Native.Nat.{ℕ, zero, suc, ◌+◌, ◌-◌, ◌*◌, ◌/◌, ◌^◌, ◌≤◌, ◌<◌}
use native.Mathlib.Nat.{zero-mul, mul-le-mul_left}
use native.Mathlib.Omega.{arith}
use lib.ListN.{length, get_or, drop, length-map, get_or-eq_default}
use lib.Seq.{ext_get_or, take_all, get_or-drop}
use Rattle.integers.specs.Sum.{over, on_ℕ}
use Rattle.integers.proofs.Sums.{nats}
use Rattle.integers.proofs.Lists.{map_at}
use Rattle.integers.proofs.Order.{below_or_not}
use Rattle.scan.specs.Scan.{scan, scan_at}
use Rattle.scan.proofs.OneToOne.{scan_inside, scan_apart}
use Rattle.scan.proofs.Order.{scan_hit, scan_over}
use Rattle.price.specs.Level.{nearest}
use Rattle.price.specs.Price.{nonzeros}
use Rattle.price.proofs.Level.{distortion_of_0}
use Rattle.price.proofs.Counting.{ones, nonzeros_over, nonzeros_next, some_left, none_left}
use Rattle.scaling.specs.declared.scale.Scale.{Scale}
use Rattle.weights.specs.declared.prices.Prices.{Prices}
use Rattle.weights.specs.Inner.Prices.{rule_by}
use Rattle.scan.specs.Scanned.{Scanned}
use Rattle.weights.specs.Inner.Places.{kept_at, in_scan, kept_from, kept_places, Weighable, Standing}
use Rattle.scaling.proofs.Scaling.{nearest_of_0}

-- ---- levels that stand for ls
module _ (width height : ℕ) (held : List ℕ) (sc : Scanned width height held) (ls : List ℕ)
    (long : length ls ≡ width * height)
    (levels : List ℕ)
    (room : length levels ≡ width * height) (s : Standing width height levels ls) where
  in_order_lem : map (λ p. get_or levels p 0) (scan width height) ≡ ls
  unfolding scan_at
  in_order_lem =
      ext_get_or 0 (map (λ p. get_or levels p 0) (scan width height)) ls
      (length-map (scan width height) (λ p. get_or levels p 0) ∙ sc.full ∙ sym long)
      (λ k l.
      let h : k < width * height = omega (arith, length-map (scan width height) (λ p. get_or levels p 0), sc.full) in
      map_at 0 0 (λ p. get_or levels p 0) (scan width height) k (omega (arith, sc.full)) ∙ s k h)

  pub same_count : nonzeros levels ≡ nonzeros ls
  same_count =
      nonzeros_over levels
      ∙ sym (ap (over on_ℕ ones) (take_all (width * height) levels (omega arith)))
      ∙ sym (scan_over width height sc.wide sc.high sc.full nats ones levels 0 (omega arith))
      ∙ ap (over on_ℕ ones) in_order_lem
      ∙ sym (nonzeros_over ls)

  -- what holds of every level walked holds of every level by rows
  pub everywhere : (P : ℕ → Type 0) → P 0 → ((k : ℕ) → k < width * height → P (get_or ls k 0)) → (b : ℕ)
      → P (get_or levels b 0)
  everywhere P none h b =
      ⊎_elim
      (λ (l : b < width * height).
      let q = scan_hit width height sc.wide sc.high sc.full b l in
      subst (λ (j : ℕ). P (get_or levels j 0)) q.2 (subst P (sym (s q.0 q.1)) (h q.0 q.1)))
      (λ (l : width * height ≤ b). subst P (sym (get_or-eq_default levels 0 (omega arith))) none)
      (below_or_not b (width * height))

-- ---- what is kept, in scan order
module _ (width height : ℕ) (kept held : List ℕ) (sc : Scanned width height held) where
  pub scan_count : length (in_scan width height kept) ≡ width * height
  scan_count = length-map (scan width height) (λ k. get_or kept k 0) ∙ sc.full

  pub scan_at_lem : (n : ℕ) → n < width * height → get_or (in_scan width height kept) n 0 ≡ kept_at width height kept n
  unfolding scan_at
  scan_at_lem n h = map_at 0 0 (λ k. get_or kept k 0) (scan width height) n (omega (arith, sc.full))

  pub kept_in_all : length kept ≡ width * height → nonzeros kept ≡ kept_from width height kept 0
  kept_in_all room = same_count width height held sc (in_scan width height kept) scan_count kept room
      (λ k h. sym (scan_at_lem k h))

  pub kept_next : (n : ℕ) → n < width * height
      → kept_from width height kept n ≡ ones (kept_at width height kept n) + kept_from width height kept (n + 1)
  kept_next n h =
      nonzeros_next (in_scan width height kept) n (omega (arith, scan_count))
      ∙ ap (λ (a : ℕ). ones a + kept_from width height kept (n + 1)) (scan_at_lem n h)

  pub kept_inside : (n : ℕ) → 0 < kept_from width height kept n → n < width * height
  kept_inside n h = omega (arith, scan_count, some_left (in_scan width height kept) n h)

  pub none_kept : (n : ℕ) → kept_from width height kept n ≡ 0 → (k : ℕ) → n ≤ k → k < width * height
      → kept_at width height kept k ≡ 0
  none_kept n none k m lt =
      let e : n + (k - n) ≡ k = omega arith in
      sym (scan_at_lem k lt)
      ∙ ap (λ (j : ℕ). get_or (in_scan width height kept) j 0) (sym e)
      ∙ sym (get_or-drop n (in_scan width height kept) (k - n) 0)
      ∙ none_left (drop n (in_scan width height kept)) none (k - n)

-- ---- its places
module _ (width height : ℕ) (held : List ℕ) (sc : Scanned width height held) where
  pub inside : (n : ℕ) → n < width * height → scan_at width height n < width * height
  inside n h = scan_inside width height sc.wide sc.high n (omega (arith, sc.full))

  pub apart : (j k : ℕ) → j < width * height → k < width * height → scan_at width height j ≡ scan_at width height k
      → j ≡ k
  apart j k hj hk e =
      scan_apart width height sc.wide sc.high j k (omega (arith, sc.full)) (omega (arith, sc.full)) e

  module _ (g : Scale) (kept : List ℕ) where
    pub places_count : length (kept_places g width height kept) ≡ width * height
    places_count = length-map (scan width height) (λ k. get_or kept k 0 * g.q) ∙ sc.full

    pub place_at : (n : ℕ) → n < width * height → get_or (kept_places g width height kept) n 0
        ≡ kept_at width height kept n * g.q
    unfolding scan_at
    place_at n h = map_at 0 0 (λ k. get_or kept k 0 * g.q) (scan width height) n (omega (arith, sc.full))

pub nothing_there : (g : Scale) (a : ℕ) → a ≡ 0 → nearest g.shift (a * g.q) ≡ 0
nothing_there g a e =
    ap (nearest g.shift) (ap (λ (b : ℕ). b * g.q) e ∙ zero-mul g.q)
    ∙ nearest_of_0 g.shift (omega (arith, g.sound.low))

pub nothing_uncoded : (p : Prices) (g : Scale) → (rule_by p g).dist 0 0 ≡ 0
unfolding rule_by
nothing_uncoded p g =
    distortion_of_0 g.shift g.error 0 ∙ ap (λ (x : ℕ). x / 2 ^ 20 * (x / 2 ^ 20)) (zero-mul g.error)

pub some_kept : (a : ℕ) → (a ≡ 0 → ⊥) → 1 ≤ a
some_kept zero h = absurd (h refl)
some_kept (suc a) h = omega arith

pub product_small : (p : Prices) (g : Scale) (width height : ℕ) (kept : List ℕ) → Weighable p g width height kept
    → (k : ℕ)
    → get_or kept k 0 * g.q ≤ 2 ^ 49
product_small p g width height kept w k =
    omega (arith, (w.fine k).near, mul-le-mul_left (get_or kept k 0 * g.q) g.sound.some_error)
