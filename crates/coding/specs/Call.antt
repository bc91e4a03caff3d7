-- `quant_nnz`: its faults in order, its answer, and what its buffer then holds, as functions of all its inputs.
use Rattle.std.specs.Prelude.{not, ◌&&◌, ◌||◌, List, [], ◌∷◌, ℕ, suc, ◌*◌, ◌^◌, ltb, length, take, ℤ, negsuc, Result}
use Rattle.integers.specs.Tests.{some, eq_ℤ}
use Rattle.refusals.specs.declared.Refused.{Refused}
use Rattle.refusals.specs.declared.Component.{Component}
use Rattle.refusals.specs.declared.Refusal.TheVariants.{Side, Qp, Lambda, Cost, Length, Sample, Level, Price}
use Rattle.refusals.specs.declared.Refusal.TheVariants.{Distortion}
use Rattle.refusals.specs.Sides.{most_log2}
use Rattle.refusals.specs.Faults.{Fault, of_none, outside, Outcome, accepted, verdict, answering, if_accepted, outcome_by}
use Rattle.price.specs.Lambda.{lambda_refused}
use Rattle.price.specs.Level.{nearest}
use Rattle.price.specs.Costs.{cost_refused}
use Rattle.price.specs.Price.{uncoded}
use Rattle.coding.specs.declared.Coded.{Coded}
use Rattle.coding.specs.Block.{Quant, area, rule_of, shift_here, lambda_here, places, is_skipped, largest, count_of}
use Rattle.coding.specs.Block.{price_of, quantised}

-- ---- the faults
abbrev pub told : Quant → Component
told c = c.component

unfoldable pub side_fault : Fault Quant
side_fault =
    record {
      refusal = Side;
      component = of_none;
      holds = λ c. outside 1 most_log2 c.lw || outside 1 most_log2 c.lh;
    }

unfoldable pub qp_fault : Fault Quant
qp_fault = record { refusal = Qp; component = told; holds = λ c. ltb 63 c.settings.qp }

unfoldable pub lambda_fault : Fault Quant
unfolding lambda_refused
lambda_fault = record { refusal = Lambda; component = told; holds = λ c. lambda_refused c.settings.lambda }

unfoldable pub cost_fault : Fault Quant
unfolding cost_refused
cost_fault = record { refusal = Cost; component = of_none; holds = λ c. cost_refused c.costs }

unfoldable pub length_fault : Fault Quant
unfolding area
length_fault = record { refusal = Length; component = of_none; holds = λ c. ltb (length c.buffer) (area c) }

-- a coefficient is -32768
unfoldable pub sample_fault : Fault Quant
unfolding some area
sample_fault =
    record {
      refusal = Sample;
      component = told;
      holds = λ c. some (λ z. eq_ℤ z (negsuc 32767))
          (take (area c) c.buffer);
    }

-- M
unfoldable pub largest_here : Quant → ℕ
unfolding largest nearest shift_here places
largest_here c = let b = shift_here c in largest (nearest b) (places c)

-- 7, 8 and 9 are asked of a walked block only
unfoldable pub level_fault : Fault Quant
unfolding is_skipped largest_here
level_fault = record { refusal = Level; component = told; holds = λ c. not (is_skipped c) && ltb 32767 (largest_here c) }

unfoldable pub price_fault : Fault Quant
unfolding is_skipped largest_here lambda_here
price_fault =
    record {
      refusal = Price;
      component = told;
      holds = λ c. not (is_skipped c) && ltb (2 ^ 41) (lambda_here c * suc (largest_here c));
    }

-- D
unfoldable pub uncoded_here : Quant → ℕ
unfolding uncoded rule_of places
uncoded_here c = let r = rule_of c in uncoded r (places c)

unfoldable pub distortion_fault : Fault Quant
unfolding is_skipped uncoded_here
distortion_fault =
    record {
      refusal = Distortion;
      component = told;
      holds = λ c. not (is_skipped c) && ltb (2 ^ 60) (uncoded_here c);
    }

unfoldable pub quant_faults : List (Fault Quant)
unfolding side_fault qp_fault lambda_fault cost_fault length_fault sample_fault level_fault price_fault distortion_fault
quant_faults =
    side_fault
    ∷ qp_fault
    ∷ lambda_fault
    ∷ cost_fault
    ∷ length_fault
    ∷ sample_fault
    ∷ level_fault
    ∷ price_fault
    ∷ distortion_fault
    ∷ []

unfoldable pub quant_verdict : Quant → Outcome Unit
unfolding quant_faults verdict
quant_verdict c = verdict quant_faults c

-- ---- the answer, and what code answers by the paper's numbers
abbrev pub coded : (count price : ℕ) → Outcome Coded
coded count price = accepted (record { count = count; price = price })

unfoldable pub quant_answer : Quant → Outcome Coded
unfolding quant_verdict count_of price_of
quant_answer c = let a : Coded = record { count = count_of c; price = price_of c } in answering (quant_verdict c) a

abbrev pub quant_outcome : Result Coded Refused → Outcome Coded
quant_outcome = outcome_by (λ coded. coded)

-- an accepted buffer holds the levels in front, and its surplus; a refused one what it held
unfoldable pub quant_buffer : Quant → List ℤ
unfolding quant_verdict quantised
quant_buffer c = let after = quantised c in if_accepted (quant_verdict c) after c.buffer
