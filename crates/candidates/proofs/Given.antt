-- What the code of a block is given can be tried: coefficients of tame residuals are small, and what refusals 7 and 8
-- leave, or the skip, can be priced at each place. The levels read back are the mode's magnitudes.
use mathlib.Core.Path.{◌≡◌, refl, sym, ap, subst, ◌∙◌}
use mathlib.Core.Logic.{⊎_elim}
use mathlib.Core.Bool.{Bool, true, false}
use mathlib.Core.List.{List, [], ◌∷◌, map}
use Prim.Native.Nat.{ℕ, suc, ◌+◌, ◌-◌, ◌*◌, ◌^◌, ◌≤◌, ◌<◌}
use native.Mathlib.Nat.{max-le, mul-le-mul}
use native.Mathlib.Omega.{arith}
use lib.Dec.{leb}
use lib.Pow.{pow_mono, pow-add, shr_lt}
use lib.ListN.{length, get_or, get_or-eq_default}
use lib.IntN.{ℤ, pos, nat_abs}
use borrow.Author.Tests.{leb-false, not-true}
use Rattle.integers.specs.Sum.{at, over, on_max}
use Rattle.integers.specs.Tests.{some}
use Rattle.integers.proofs.Lists.{map_at}
use Rattle.integers.proofs.Order.{below_or_not}
use Rattle.integers.proofs.Tests.{neither}
use Rattle.tables.specs.Scales.{forward}
use Rattle.scan.specs.Scan.{scan_at}
use Rattle.refusals.specs.Faults.{passed}
use Rattle.transform.specs.Coefficients.{coefficients}
use Rattle.transform.proofs.Bounds.{coefficients_long, coefficients_small}
use Rattle.price.specs.declared.Costs.{Costs}
use Rattle.price.specs.Lambda.{lambda_of}
use Rattle.price.specs.Level.{scaled, nearest, threshold}
use Rattle.price.specs.Rows.{rows_of}
use Rattle.price.specs.Rule.{Rule, Allowed}
use Rattle.price.proofs.Rates.{costs_in_range}
use Rattle.scaling.specs.declared.scale.Scale.{Scale}
use Rattle.scaling.specs.Inner.Scale.{ScaleOf}
use Rattle.weights.specs.declared.prices.Prices.{Prices}
use Rattle.weights.specs.Inner.Prices.{Fine, rule_by}
use Rattle.finished.specs.Inner.Finished.{Priceable}
use Rattle.trial.specs.Inner.Whole.{Whole}
use Rattle.scan.specs.Scanned.{Scanned}
use Rattle.weights.specs.Inner.Places.{in_scan}
use Rattle.weights.proofs.Places.{scan_count}
use Rattle.contexts.specs.Inner.Reading.{PricesOf}
use Rattle.coefficients.specs.Inner.Coefficients.{Within}
use Rattle.coding.specs.declared.Coding.{Coding}
use Rattle.coding.specs.Block.{Quant, called, area, lambda_here, rule_of, shift_here, block_places, scanned, places}
use Rattle.coding.specs.Block.{is_skipped, largest, magnitudes, quantised}
use Rattle.coding.specs.Call.{quant_verdict, largest_here}
use Rattle.coding.proofs.Accepted.{no_fault}
use Rattle.coding.proofs.Promises.{magnitudes_count}
use Rattle.quantise.proofs.Accepting.{each_small, all_fine}
use Rattle.quantise.proofs.Answer.{largest_here_lem}
use Rattle.order.proofs.Coefficients.{magnitude_in_scan}
use Rattle.order.proofs.ReadBack.{levels_in_scan}
use Rattle.heights.specs.declared.Heights.{Heights}
use Rattle.components.proofs.Blocks.{quantised_length}
use Rattle.std.specs.Prelude.{Result}
use Rattle.refusals.specs.declared.Refused.{Refused}
use Rattle.guarding.specs.declared.Guarded.{Guarded}
use Rattle.guarding.specs.Block.{fits}
use Rattle.guarding.specs.Inner.Held.{guard_by, Guardable, Held}
use Rattle.guarding.proofs.Candidates.{magnitudes_allowed}
use Rattle.trial.specs.declared.Terms.{Terms}
use Rattle.attempts.specs.Inner.Candidates.{RepairedAs}
use Rattle.candidates.specs.Inner.Given.{TermsOf}
use Rattle.candidates.proofs.Numbers.{early, rule_is, places_are, held_is}

-- ---- the largest m
largest_at_most : (n : ℕ) (l : List ℤ) → Within l n → over on_max nat_abs l ≤ n
unfolding over
largest_at_most n [] h = omega arith
largest_at_most n (z ∷ zs) h = max-le (h 0) (largest_at_most n zs (λ k. h (suc k)))

nearest_below : (b L : ℕ) → L < 2 ^ b → nearest b L ≤ 1
unfolding nearest
nearest_below b L h =
    let most = pow_mono {i = b - 1} {j = b} (omega arith) in
    omega (arith, shr_lt {n = L + 2 ^ (b - 1)} 1 b (omega (arith, h, most, pow-add 2 1 b)))

largest_below : (b u : ℕ) (Ls : List ℕ) → u ≤ 2 ^ b → some (λ L. leb u L) Ls ≡ false → largest (nearest b) Ls ≤ 1
unfolding largest some
largest_below b u [] h e = omega arith
largest_below b u (L ∷ Ls) h e =
    let n = neither (leb u L) (some (λ L. leb u L) Ls) e in
    max-le (nearest_below b L (omega (arith, leb-false u L n.0))) (largest_below b u Ls h n.1)

module _ (q : Quant) (ok : quant_verdict q ≡ passed) where
  largest_if_skipped : is_skipped q ≡ true → largest_here q ≤ 1
  unfolding is_skipped largest_here threshold
  largest_if_skipped e =
      largest_below (shift_here q) (threshold q.intra_slice (shift_here q)) (places q) (omega arith) (not-true _ e)

  level_fits : largest_here q ≤ 32767
  level_fits = by (is_skipped q) refl
    where
      by : (b : Bool) → is_skipped q ≡ b → largest_here q ≤ 32767
      by true e = omega (arith, largest_if_skipped e)
      by false e = (no_fault q ok).level e

  price_fits : lambda_here q ≤ 2 ^ 28 → lambda_here q * suc (largest_here q) ≤ 2 ^ 41
  price_fits h = by (is_skipped q) refl
    where
      by : (b : Bool) → is_skipped q ≡ b → lambda_here q * suc (largest_here q) ≤ 2 ^ 41
      by true e =
          let few : suc (largest_here q) ≤ 2 = omega (arith, largest_if_skipped e) in omega (arith, mul-le-mul h few)
      by false e = (no_fault q ok).price e

module _ (r : List ℤ) (t : Costs) (c : Coding) (h : Heights) (before shown : List ℤ)
    (given : Guardable r t c h before shown) where
  abbrev block : List ℤ
  block = coefficients r c.log2 c.log2

  abbrev side : ℕ
  side = 2 ^ c.log2

  abbrev cs : List ℕ
  cs = in_scan (2 ^ c.log2) (2 ^ c.log2) (map nat_abs (coefficients r c.log2 c.log2))

  abbrev ok : quant_verdict (guard_by r t c h).call ≡ passed
  ok = given.accepts

  long : length (coefficients r c.log2 c.log2) ≡ 2 ^ c.log2 * 2 ^ c.log2
  long = coefficients_long r c.log2 c.log2

  few : Within (coefficients r c.log2 c.log2) 32736
  few k =
      ⊎_elim
      (λ (l : k < 2 ^ c.log2 * 2 ^ c.log2).
      coefficients_small c.log2 c.log2 given.high given.high r given.long given.tame k l)
      (λ (l : 2 ^ c.log2 * 2 ^ c.log2 ≤ k).
      let none : at block k ≡ pos 0 = get_or-eq_default block (pos 0) (omega (arith, long)) in
      subst (λ (z : ℤ). nat_abs z ≤ 32736) (sym none) (omega arith))
      (below_or_not k (2 ^ c.log2 * 2 ^ c.log2))

  module _ (held : List ℕ) (sc : Scanned (2 ^ c.log2) (2 ^ c.log2) held) where
    -- what holds of each coefficient's magnitude holds along the scan
    in_scan_lem : (P : ℕ → Type 0) → ((k : ℕ) → P (nat_abs (at block k))) → (k : ℕ) → P (get_or cs k 0)
    in_scan_lem P all k =
        ⊎_elim
        (λ (l : k < side * side).
        subst P (sym (magnitude_in_scan side side block held sc k l)) (all (scan_at side side k)))
        (λ (l : side * side ≤ k).
        let n = scan_count side side (map nat_abs block) held sc in
        let none : get_or cs k 0 ≡ 0 = get_or-eq_default cs 0 (omega (arith, n)) in
        let past : at block (length block) ≡ pos 0 = get_or-eq_default block (pos 0) (omega arith) in
        subst P (ap nat_abs past ∙ sym none) (all (length block)))
        (below_or_not k (side * side))

    pub magnitudes_read : in_scan (2 ^ c.log2) (2 ^ c.log2) (map nat_abs before) ≡ magnitudes (guard_by r t c h).call
    unfolding quantised block_places scanned guard_by called area
    magnitudes_read =
        ap (λ (b : List ℤ). in_scan side side (map nat_abs b)) given.levels
        ∙ levels_in_scan side side held sc block (magnitudes (guard_by r t c h).call)
        (magnitudes_count (guard_by r t c h).call ok) (omega (arith, long))

    module _ (p : Prices) (g : Scale) (w : ScaleOf forward c.log2 c.settings.qp g)
        (e : PricesOf 32768 (lambda_of c.settings.lambda) t (rows_of c.component c.intra_coded) p)
        (light : lambda_of c.settings.lambda ≤ 2 ^ 28) where
      fine : (k : ℕ) → Fine p g (nat_abs (at block k) * g.q)
      unfolding guard_by called lambda_here scaled
      fine =
          let q = (guard_by r t c h).call in
          let top = over on_max nat_abs block in
          all_fine block top refl (omega (arith, largest_at_most 32736 block few)) g p
          (lambda_of c.settings.lambda) (largest_here q)
          (largest_here_lem block t c (early r t c h ok) g w top refl) (level_fits q ok) (price_fits q ok light)
          (each_small 32768 (lambda_of c.settings.lambda) t (rows_of c.component c.intra_coded) p
          (costs_in_range (early r t c h ok).costs) e)

      top_is : (k : ℕ) → k < length cs
          → (rule_of (guard_by r t c h).call).top (get_or (places (guard_by r t c h).call) k 0)
          ≡ nearest g.shift (get_or cs k 0 * g.q)
      unfolding rule_by
      top_is k l =
          ap (λ (R : Rule). R.top (get_or (places (guard_by r t c h).call) k 0)) (rule_is r t c h ok p g w e)
          ∙ ap (λ (Ls : List ℕ). nearest g.shift (get_or Ls k 0)) (places_are r t c h ok p g w e)
          ∙ ap (nearest g.shift) (map_at 0 0 (λ a. a * g.q) cs k l)

      pub priceable : Priceable p g (magnitudes (guard_by r t c h).call) cs
      unfolding guard_by called area
      priceable =
          let n = scan_count side side (map nat_abs block) held sc in
          let all = magnitudes_count (guard_by r t c h).call ok in
          record {
            long = all ∙ sym n;
            few = omega (arith, n, sc.few);
            fine = in_scan_lem (λ (a : ℕ). Fine p g (a * g.q)) fine;
            allowed = λ k l.
                subst (λ (m : ℕ). Allowed m (get_or (magnitudes (guard_by r t c h).call) k 0)) (top_is k l)
                (magnitudes_allowed (guard_by r t c h).call ok k (omega (arith, n)));
          }

  -- the levels' room is the block's
  pub levels_long : length before ≡ length r
  unfolding guard_by called
  levels_long = ap length given.levels ∙ quantised_length (guard_by r t c h).call ∙ long ∙ sym given.long

  -- in the lists and the terms that code has
  module _ (w l : ℕ) (wide : w ≡ 2 ^ c.log2) (tall : l ≡ 2 ^ c.log2) (held : List ℕ) (sc : Scanned w l held)
      (b : List ℤ) (transformed : b ≡ coefficients r c.log2 c.log2) (ls ns : List ℕ)
      (along : ls ≡ in_scan w l (map nat_abs b)) (read : ns ≡ in_scan w l (map nat_abs before))
      (x : Terms) (of : TermsOf t c h x) where
    square : Scanned side side held
    square = rw (wide, tall) at sc

    along_is : ls ≡ cs
    along_is = along ∙ rw (wide, tall, transformed) refl

    read_is : ns ≡ magnitudes (guard_by r t c h).call
    read_is = read ∙ rw (wide, tall) (magnitudes_read held square)

    pub whole_so : Whole x.log2 x.qp w l r b ls
    whole_so =
        rw (of.log2, of.qp, wide, tall, transformed, along_is)
        (record {
          low = given.low;
          high = given.high;
          qp = (early r t c h ok).qp;
          wide = refl;
          tall = refl;
          samples = given.long;
          block = long;
          places = scan_count side side (map nat_abs block) held square;
          small = in_scan_lem held square (λ (a : ℕ). a ≤ 32768) (λ k. omega (arith, few k));
        })

    pub priceable_so : Priceable x.weights.prices x.weights.scale ns ls
    priceable_so =
        rw (along_is, read_is)
        (priceable held square x.weights.prices x.weights.scale of.scale of.prices.is of.prices.light)

    terms_are : record { weights = x.weights; log2 = c.log2; qp = c.settings.qp; heights = h } ≡ x
    terms_are = λ i. record {
      weights = x.weights;
      log2 = sym of.log2 i;
      qp = sym of.qp i;
      heights = sym of.heights i;
    }

    pub held_so : fits (guard_by r t c h) (magnitudes (guard_by r t c h).call) ≡ false
        → (after : List ℤ) (o : Result Guarded Refused) → RepairedAs x c.component r b ls ns after o
        → Held (guard_by r t c h) after o
    held_so unfit after o d =
        held_is r t c h ok x.weights.prices x.weights.scale of.scale of.prices.is unfit after o
        (subst (λ (l : List ℕ). RepairedAs its c.component r block cs l after o) read_is
        (subst (λ (l : List ℕ). RepairedAs its c.component r block l ns after o) along_is
        (subst (λ (l : List ℤ). RepairedAs its c.component r l ls ns after o) transformed
        (subst (λ (y : Terms). RepairedAs y c.component r b ls ns after o) (sym terms_are) d))))
      where
        its : Terms
        its = record { weights = x.weights; log2 = c.log2; qp = c.settings.qp; heights = h }
