-- The definition of a guarded block in the numbers that code has of it: what a candidate costs, how far it is off and
-- whether it fits, which are the candidates, and so what is answered and left.
use mathlib.Core.Path.{◌≡◌, refl, sym, ap, fun_ext, ◌∙◌}
use mathlib.Core.Bool.{Bool, true, false, not, cond, ◌&&◌, ◌||◌}
use mathlib.Core.List.{List, [], map, map-map}
use Prim.Native.Nat.{ℕ, suc, ◌+◌, ◌*◌, ◌/◌, ◌^◌}
use native.Mathlib.Omega.{arith}
use lib.Dec.{ltb}
use lib.IntN.{ℤ, nat_abs}
use Rattle.integers.specs.Tests.{some, listed}
use Rattle.tables.specs.Scales.{forward, back}
use Rattle.refusals.specs.declared.Refusal.TheVariants.{Height}
use Rattle.refusals.specs.Numbers.{number_of, component_of}
use Rattle.refusals.specs.Faults.{Outcome, accepted, refused, passed}
use Rattle.transform.specs.Coefficients.{coefficients}
use Rattle.transform.proofs.Bounds.{coefficients_long}
use Rattle.price.specs.declared.Costs.{Costs}
use Rattle.price.specs.Lambda.{lambda_of}
use Rattle.price.specs.Level.{nearest}
use Rattle.price.specs.Rows.{rows_of}
use Rattle.price.specs.Rule.{Rule}
use Rattle.price.specs.Price.{nonzeros, price}
use Rattle.scaling.specs.declared.scale.Scale.{Scale}
use Rattle.scaling.specs.Inner.Scale.{ScaleOf}
use Rattle.weights.specs.declared.prices.Prices.{Prices}
use Rattle.weights.specs.Inner.Prices.{rule_by}
use Rattle.weights.specs.Inner.Places.{in_scan}
use Rattle.contexts.specs.Inner.Reading.{PricesOf}
use Rattle.coding.specs.declared.Coding.{Coding}
use Rattle.coding.specs.Block.{called, log2_of, lambda_here, rule_of, block_places, scanned, places, magnitudes}
use Rattle.coding.specs.Call.{quant_verdict}
use Rattle.coding.proofs.Accepted.{no_fault}
use Rattle.quantise.specs.Inner.Early.{EarlyPassed}
use Rattle.quantise.proofs.Answer.{rule_here, places_here}
use Rattle.finished.specs.Inner.Finished.{places_of}
use Rattle.order.proofs.Coefficients.{scaled_in_scan}
use Rattle.heights.specs.declared.Extremes.{Extremes}
use Rattle.heights.specs.declared.Heights.{Heights}
use Rattle.heights.specs.Extremes.{extremes, within}
use Rattle.guarding.specs.declared.Guarded.{Guarded}
use Rattle.std.specs.Prelude.{Result}
use Rattle.refusals.specs.declared.Refused.{Refused}
use Rattle.guarding.specs.Block.{plain, put_back, candidates, levels_of, price_with, extremes_with, fits, first_where}
use Rattle.guarding.specs.Block.{none_fits, guarded, reported, guarded_levels}
use Rattle.guarding.specs.Inner.Held.{guard_by, held_answer, Held}
use Rattle.trial.specs.declared.Terms.{Terms}
use Rattle.trial.specs.Inner.Trial.{top_by, levels_by, price_by, extremes_by, fits_by, report_by}
use Rattle.attempts.specs.Inner.Candidates.{repaired_by, later_by, first_by, answer_by, RepairedAs}

exchanged : {A : Type 0} (b : Bool) (x y : A) → cond (not b) x y ≡ cond b y x
exchanged true x y = refl
exchanged false x y = refl

module _ (r : List ℤ) (t : Costs) (c : Coding) (h : Heights) (ok : quant_verdict (guard_by r t c h).call ≡ passed) where
  -- the block's coefficients, and their |c| in scan order
  abbrev block : List ℤ
  block = coefficients r c.log2 c.log2

  abbrev cs : List ℕ
  cs = in_scan (2 ^ c.log2) (2 ^ c.log2) (map nat_abs (coefficients r c.log2 c.log2))

  pub early : EarlyPassed (coefficients r c.log2 c.log2) t c
  unfolding guard_by called
  early =
      let f = no_fault (guard_by r t c h).call ok in
      record {
        low = f.wide.0;
        high = f.wide.1;
        qp = f.qp;
        lambda = f.lambda;
        costs = f.costs;
        long = coefficients_long r c.log2 c.log2;
      }

  module _ (p : Prices) (g : Scale) (w : ScaleOf forward c.log2 c.settings.qp g)
      (e : PricesOf 32768 (lambda_of c.settings.lambda) t (rows_of c.component c.intra_coded) p) where
    abbrev terms : Terms
    terms = record { weights = record { prices = p; scale = g }; log2 = c.log2; qp = c.settings.qp; heights = h }

    pub rule_is : rule_of (guard_by r t c h).call ≡ rule_by p g
    unfolding guard_by lambda_here called
    rule_is = rule_here block t c early g w p e

    pub places_are : places (guard_by r t c h).call ≡ places_of g cs
    unfolding guard_by
    places_are = places_here block t c early g w ∙ sym (scaled_in_scan (2 ^ c.log2) (2 ^ c.log2) block g.q)

    price_is : (ms : List ℕ) → price_with (guard_by r t c h).call ms ≡ price_by terms cs ms
    unfolding price_with price_by
    price_is ms =
        ap (λ (R : Rule). price R ms (places (guard_by r t c h).call)) rule_is ∙ ap (price (rule_by p g) ms) places_are

    levels_are : (ms : List ℕ) → levels_of (guard_by r t c h).call ms ≡ levels_by c.log2 block ms
    unfolding levels_of levels_by block_places scanned guard_by called
    levels_are ms = refl

    off_is : (ms : List ℕ) → extremes_with (guard_by r t c h) ms ≡ extremes_by terms r block ms
    unfolding extremes_with extremes_by guard_by log2_of called
    off_is ms =
        let half : (c.log2 + c.log2) / 2 ≡ c.log2 = omega arith in
        ap (λ (n : ℕ). extremes back n c.settings.qp r (levels_of (guard_by r t c h).call ms)) half
        ∙ ap (extremes back c.log2 c.settings.qp r) (levels_are ms)

    fits_is : (ms : List ℕ) → fits (guard_by r t c h) ms ≡ fits_by terms r block cs ms
    unfolding fits fits_by guard_by
    fits_is ms =
        ap (λ (x : ℕ). ltb x (2 ^ 62) && within (extremes_with (guard_by r t c h) ms) h) (price_is ms)
        ∙ ap (λ (x : Extremes). ltb (price_by terms cs ms) (2 ^ 62) && within x h) (off_is ms)

    plain_is : plain (guard_by r t c h).call ≡ map (top_by g) cs
    unfolding plain rule_by
    plain_is =
        ap (λ (R : Rule). map R.top (places (guard_by r t c h).call)) rule_is
        ∙ ap (map (nearest g.shift)) places_are
        ∙ map-map (nearest g.shift) (λ a. a * g.q) cs

    abbrev later : List (List ℕ)
    later = listed (λ i. put_back (2 ^ i) (magnitudes (guard_by r t c h).call) (plain (guard_by r t c h).call)) 0
        (suc (c.log2 + c.log2))

    later_are : later ≡ later_by terms cs (magnitudes (guard_by r t c h).call)
    unfolding later_by repaired_by
    later_are =
        ap (λ (x : List ℕ). listed (λ i. put_back (2 ^ i) (magnitudes (guard_by r t c h).call) x) 0
        (suc (c.log2 + c.log2))) plain_is

    -- where the block that the mode writes does not fit
    module _ (unfit : fits (guard_by r t c h) (magnitudes (guard_by r t c h).call) ≡ false) where
      abbrev ms : List ℕ
      ms = magnitudes (guard_by r t c h).call

      any_is : some (fits (guard_by r t c h)) (candidates (guard_by r t c h).call)
          ≡ some (fits_by terms r block cs) (later_by terms cs ms)
      unfolding candidates some guard_by called
      any_is =
          ap (λ (b : Bool). b || some (fits (guard_by r t c h)) later) unfit
          ∙ ap (λ (f : List ℕ → Bool). some f later) (fun_ext fits_is)
          ∙ ap (some (fits_by terms r block cs)) later_are

      first_is : guarded (guard_by r t c h) ≡ first_by terms r block cs ms
      unfolding guarded candidates first_where first_by guard_by called
      first_is =
          ap (λ (b : Bool). cond b ms (first_where (fits (guard_by r t c h)) [] later)) unfit
          ∙ ap (λ (f : List ℕ → Bool). first_where f [] later) (fun_ext fits_is)
          ∙ ap (first_where (fits_by terms r block cs) []) later_are

      report_is : reported (guard_by r t c h) ≡ report_by terms r block cs (first_by terms r block cs ms)
      unfolding reported report_by
      report_is =
          let F = first_by terms r block cs ms in
          ap (λ (x : List ℕ). record {
            count = nonzeros x;
            price = price_with (guard_by r t c h).call x;
            darker = (extremes_with (guard_by r t c h) x).darker;
            lighter = (extremes_with (guard_by r t c h) x).lighter;
          }) first_is
          ∙ (λ i. record {
            count = nonzeros F;
            price = price_is F i;
            darker = (off_is F i).darker;
            lighter = (off_is F i).lighter;
          })

      answer_is : held_answer (guard_by r t c h) ≡ answer_by terms c.component r block cs ms
      unfolding held_answer none_fits answer_by guard_by called
      answer_is =
          let no : Outcome Guarded = refused (number_of Height) (component_of c.component) in
          let any = some (fits_by terms r block cs) (later_by terms cs ms) in
          ap (λ (b : Bool). cond (not b) no (accepted (reported (guard_by r t c h)))) any_is
          ∙ ap (λ (a : Guarded). cond (not any) no (accepted a)) report_is
          ∙ exchanged any no (accepted (report_by terms r block cs (first_by terms r block cs ms)))

      pub held_is : (after : List ℤ) (o : Result Guarded Refused) → RepairedAs terms c.component r block cs ms after o
          → Held (guard_by r t c h) after o
      unfolding guarded_levels
      held_is after o w =
          record {
            answer = w.answer ∙ sym answer_is;
            left = λ a f. w.left a f ∙ sym (levels_are (first_by terms r block cs ms))
                ∙ ap (levels_of (guard_by r t c h).call) (sym first_is);
          }
