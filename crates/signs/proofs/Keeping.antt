-- Magnitudes whose m is 0 need not be kept: such a place takes 0 whatever stands there, so that what is kept stands for
-- the block, and leaves no more of D.
use mathlib.Core.Path.{◌≡◌, refl, sym, ap, subst, ◌∙◌}
use mathlib.Core.Logic.{inl, inr}
use mathlib.Core.Bool.{Bool, true, false}
use mathlib.Core.List.{List, [], ◌∷◌, map}
use Prim.Native.Nat.{ℕ, suc, ◌+◌, ◌-◌, ◌*◌, ◌/◌, ◌≤◌, ◌<◌}
use native.Mathlib.Nat.{mul-le-mul_right, lt-div-mul-add, div-mul-le_self, suc-mul, zero-mul, div-eq_of_lt}
use native.Mathlib.Nat.{le-div_iff_mul-le}
use native.Mathlib.Omega.{arith}
use lib.Dec.{leb}
use lib.Pow.{pow_pos}
use lib.ListN.{length, get_or, length-map}
use lib.Seq.{ext_get_or}
use lib.IntN.{ℤ, pos, nat_abs}
use borrow.Author.Tests.{leb-false, le-leb, lt-leb}
use Rattle.integers.specs.Sum.{at}
use Rattle.integers.proofs.Lists.{map_at}
use Rattle.scan.specs.Scan.{scan, scan_at}
use Rattle.scan.proofs.OneToOne.{scan_inside}
use Rattle.scan.specs.Order.{in_order}
use Rattle.price.specs.Level.{scaled, nearest}
use Rattle.price.specs.Price.{uncoded}
use Rattle.price.proofs.Lighter.{Stands, Lighter}
use Rattle.scaling.specs.declared.scale.Scale.{Scale}
use Rattle.weights.specs.declared.prices.Prices.{Prices}
use Rattle.weights.specs.Inner.Prices.{rule_by}
use Rattle.scan.specs.Scanned.{Scanned}
use Rattle.weights.specs.Inner.Places.{kept_places}
use Rattle.signs.specs.Inner.Signs.{kept_of}
use Rattle.scaling.proofs.Scaling.{nearest_of_0}
use Rattle.weights.proofs.Places.{nothing_uncoded}

pub kept_yes : (g : Scale) (z : ℤ) (a v : ℕ) → a ≡ nat_abs z → g.least ≤ a → v ≡ a → v ≡ kept_of g z
kept_yes g z a v e h q =
    let t = le-leb g.least (nat_abs z) (subst (λ (k : ℕ). g.least ≤ k) e h) in rw t (q ∙ e)

pub kept_no : (g : Scale) (z : ℤ) (a v : ℕ) → a ≡ nat_abs z → a < g.least → v ≡ 0 → v ≡ kept_of g z
kept_no g z a v e h q = let t = lt-leb g.least (nat_abs z) (subst (λ (k : ℕ). k < g.least) e h) in rw t q

module _ (g : Scale) where
  -- from the least magnitude on m is above 0, and not before
  pub kept_some : (a : ℕ) → g.least ≤ a → 1 ≤ nearest g.shift (a * g.q)
  unfolding nearest
  kept_some a h =
      let x : g.half + g.q - 1 < (g.half + g.q - 1) / g.q * g.q + g.q = lt-div-mul-add g.sound.some_q in
      let y : g.least * g.q ≤ a * g.q = mul-le-mul_right g.q h in
      (le-div_iff_mul-le (pow_pos g.shift)).1
      (omega (arith, g.sound.half, g.sound.unit, g.sound.twice, ap (λ (k : ℕ). k * g.q) g.sound.least))

  dropped : (a : ℕ) → a < g.least → nearest g.shift (a * g.q) ≡ 0
  unfolding nearest
  dropped a h =
      let x : (g.half + g.q - 1) / g.q * g.q ≤ g.half + g.q - 1 = div-mul-le_self (g.half + g.q - 1) g.q in
      let y : suc a * g.q ≤ g.least * g.q = mul-le-mul_right g.q h in
      div-eq_of_lt (omega (
        arith,
        g.sound.half,
        g.sound.unit,
        g.sound.twice,
        suc-mul a g.q,
        ap (λ (k : ℕ). k * g.q) g.sound.least,
        pow_pos g.shift,
        g.sound.some_q,
      ))

  -- a coefficient is kept as it is, or its m is 0 and nothing is kept
  data Keeps (z : ℤ) : Type 0 where
    whole : kept_of g z * g.q ≡ scaled g.q z → Keeps z
    nothing : kept_of g z * g.q ≡ 0 → nearest g.shift (scaled g.q z) ≡ 0 → Keeps z

  keeps : (z : ℤ) → Keeps z
  unfolding scaled
  keeps z = go (leb g.least (nat_abs z)) refl
    where
      go : (t : Bool) → leb g.least (nat_abs z) ≡ t → Keeps z
      go true e = whole (rw e)
      go false e = nothing (rw e (zero-mul g.q)) (dropped (nat_abs z) (leb-false g.least (nat_abs z) e))

  module _ (p : Prices) where
    top_is : (L : ℕ) → (rule_by p g).top L ≡ nearest g.shift L
    unfolding rule_by
    top_is L = refl

    none_top : (rule_by p g).top 0 ≡ 0
    none_top = top_is 0 ∙ nearest_of_0 g.shift (omega (arith, g.sound.low))

    abbrev kept : ℤ → ℕ
    kept z = kept_of g z * g.q

    abbrev full : ℤ → ℕ
    full z = scaled g.q z

    kept_less : (z : ℤ) → (rule_by p g).dist (kept z) 0 ≤ (rule_by p g).dist (full z) 0
    kept_less z = go (keeps z)
      where
        go : Keeps z → (rule_by p g).dist (kept z) 0 ≤ (rule_by p g).dist (full z) 0
        go (whole e) = omega (arith, ap (λ (L : ℕ). (rule_by p g).dist L 0) e)
        go (nothing e q) = omega (arith, ap (λ (L : ℕ). (rule_by p g).dist L 0) e, nothing_uncoded p g)

    pub kept_uncoded : (zs : List ℤ) → uncoded (rule_by p g) (map kept zs) ≤ uncoded (rule_by p g) (map full zs)
    unfolding uncoded
    kept_uncoded [] = omega arith
    kept_uncoded (z ∷ zs) = omega (arith, kept_less z, kept_uncoded zs)

    -- what is kept stands for the block: the same place, or m is 0 at both
    pub kept_lighter : (zs : List ℤ) → Lighter (rule_by p g) (map kept zs) (map full zs)
    kept_lighter [] = tt
    kept_lighter (z ∷ zs) = (go (keeps z), kept_lighter zs)
      where
        go : Keeps z → Stands (rule_by p g) (kept z) (full z)
        go (whole e) = inl e
        go (nothing e q) = inr (ap (rule_by p g).top e ∙ none_top, top_is (full z) ∙ q)

-- the places of what is kept by rows
pub kept_places_lem : (g : Scale) (width height : ℕ) (held : List ℕ) → Scanned width height held
    → (block : List ℤ) (kept : List ℕ)
    → ((k : ℕ) → k < width * height → get_or kept k 0 ≡ kept_of g (at block k))
    → kept_places g width height kept ≡ map (λ z. kept_of g z * g.q) (in_order width height block)
unfolding scan_at
kept_places_lem g width height held sc block kept h =
    ext_get_or 0 (kept_places g width height kept) (map (λ z. kept_of g z * g.q) (in_order width height block))
    (length-map (scan width height) (λ p. get_or kept p 0 * g.q)
    ∙ sym (length-map (in_order width height block) (λ z. kept_of g z * g.q)
    ∙ length-map (scan width height) (λ p. at block p)))
    (λ k l.
    let i : k < length (scan width height) =
    omega (arith, length-map (scan width height) (λ p. get_or kept p 0 * g.q)) in
    let b = scan_inside width height sc.wide sc.high k i in
    map_at 0 0 (λ p. get_or kept p 0 * g.q) (scan width height) k i
    ∙ ap (λ (a : ℕ). a * g.q) (h (scan_at width height k) b)
    ∙ sym
    (map_at (pos 0) 0 (λ z. kept_of g z * g.q) (in_order width height block) k
    (omega (arith, length-map (scan width height) (λ p. at block p)))
    ∙ ap (λ (z : ℤ). kept_of g z * g.q) (map_at 0 (pos 0) (λ p. at block p) (scan width height) k i)))
