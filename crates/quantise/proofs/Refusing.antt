-- Refusals 1 to 5, by what code finds of a call: each is said once, and rests on those before it.
use mathlib.Core.Path.{◌≡◌, sym}
use mathlib.Core.Bool.{true, false}
use mathlib.Core.List.{List, ◌∷◌}
use Prim.Native.Nat.{◌*◌, ◌^◌, ◌≤◌, ◌<◌}
use lib.ListN.{length}
use lib.IntN.{ℤ}
use Rattle.std.specs.Prelude.{Err}
use Rattle.refusals.specs.declared.Refusal.{Refusal}
use Rattle.refusals.specs.declared.Refusal.TheVariants.{Side, Cost, Length}
use Rattle.refusals.specs.declared.Refused.{Refused}
use Rattle.refusals.specs.Numbers.{number_of, component_of}
use Rattle.refusals.specs.Sides.{most_log2}
use Rattle.refusals.specs.Faults.{Fault, Outcome, refused, outside, of_whole}
use Rattle.refusals.proofs.First.{First, here, later, inside}
use Rattle.price.specs.declared.Costs.{Costs}
use Rattle.price.specs.Costs.{cost_refused}
use Rattle.price.specs.Lambda.{lambda_refused}
use Rattle.coding.specs.declared.Coded.{Coded}
use Rattle.coding.specs.declared.Coding.{Coding}
use Rattle.coding.specs.Block.{Quant, called}
use Rattle.coding.specs.Call.{quant_faults, side_fault, qp_fault, lambda_fault, cost_fault, length_fault, quant_answer}
use Rattle.coding.specs.Call.{quant_buffer, quant_outcome}
use Rattle.quantise.proofs.Answer.{refused_answer, side_test, qp_high, qp_right, lambda_test, cost_test}
use Rattle.quantise.proofs.Answer.{length_low, late}

module _ (B : List ℤ) (t : Costs) (k : Coding) where
  abbrev asked : Quant
  asked = called B t k

  abbrev pub Answered : Outcome Coded → List ℤ → Type 0
  Answered o after = (o ≡ quant_answer asked) × (after ≡ quant_buffer asked)

  refuses : {f : Fault Quant} → First asked f quant_faults
      → Answered (refused (number_of f.refusal) (component_of (f.component asked))) B
  unfolding called
  refuses h = let e = refused_answer asked h in (sym e.0, sym e.1)

  -- what is wrong with the call as a whole
  of_the_whole : (why : Refusal) (r : Refused) → r ≡ of_whole why → Answered (refused (number_of why) 0) B
      → Answered (quant_outcome (Err r)) B
  of_the_whole why r e a = rw e a

  pub side_said : outside 1 most_log2 k.log2 ≡ true → (r : Refused) → r ≡ of_whole Side
      → Answered (quant_outcome (Err r)) B
  unfolding called quant_faults side_fault
  side_said e r is = of_the_whole Side r is (refuses (here (side_test B t k true e)))

  module _ (sided : outside 1 most_log2 k.log2 ≡ false) where
    pub within : (1 ≤ k.log2) × (k.log2 ≤ most_log2)
    within = inside 1 most_log2 k.log2 sided

    past_1 : {f : Fault Quant} → First asked f (qp_fault ∷ lambda_fault ∷ cost_fault ∷ length_fault ∷ late)
        → First asked f quant_faults
    unfolding quant_faults
    past_1 h = later (side_test B t k false sided) h

    pub qp_said : 63 < k.settings.qp → Answered (refused 2 (component_of k.component)) B
    unfolding called qp_fault
    qp_said h = refuses (past_1 (here (qp_high B t k h)))

    module _ (coarse : k.settings.qp ≤ 63) where
      past_2 : {f : Fault Quant} → First asked f (lambda_fault ∷ cost_fault ∷ length_fault ∷ late)
          → First asked f quant_faults
      past_2 h = past_1 (later (qp_right B t k coarse) h)

      pub lambda_said : lambda_refused k.settings.lambda ≡ true → Answered (refused 3 (component_of k.component)) B
      unfolding called lambda_fault
      lambda_said e = refuses (past_2 (here (lambda_test B t k true e)))

      module _ (weighed : lambda_refused k.settings.lambda ≡ false) where
        past_3 : {f : Fault Quant} → First asked f (cost_fault ∷ length_fault ∷ late) → First asked f quant_faults
        past_3 h = past_2 (later (lambda_test B t k false weighed) h)

        pub cost_said : cost_refused t ≡ true → (r : Refused) → r ≡ of_whole Cost → Answered (quant_outcome (Err r)) B
        unfolding called cost_fault
        cost_said e r is = of_the_whole Cost r is (refuses (past_3 (here (cost_test B t k true e))))

        pub length_said : cost_refused t ≡ false → length B < 2 ^ k.log2 * 2 ^ k.log2 → (r : Refused)
            → r ≡ of_whole Length → Answered (quant_outcome (Err r)) B
        unfolding called length_fault
        length_said priced h r is =
            of_the_whole Length r is
            (refuses (past_3 (later (cost_test B t k false priced) (here (length_low B t k h)))))
