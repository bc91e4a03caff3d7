-- `measure`: its faults in order and its answer, as functions of all its inputs. The levels may be of any origin, and
-- no sample is refused; nothing is written.
use Rattle.std.specs.Prelude.{◌||◌, List, [], ◌∷◌, ℕ, ◌*◌, ◌^◌, ltb, length, ℤ, Result}
use Rattle.refusals.specs.declared.Refusal.{Refusal}
use Rattle.refusals.specs.declared.Refusal.TheVariants.{Side, Qp, Length}
use Rattle.refusals.specs.Numbers.{number_of}
use Rattle.refusals.specs.Sides.{most_log2}
use Rattle.refusals.specs.Faults.{Fault, of_none, outside, Outcome, accepted, refused, verdict, answering, whole_outcome_by}
use Rattle.tables.specs.Scales.{back}
use Rattle.heights.specs.declared.Extremes.{Extremes}
use Rattle.heights.specs.Extremes as of

-- the inputs: two lists that begin with the residuals and with the levels of a square block by rows, its log2 side, a
-- QP, a row of scales
pub record Measure : Type 0 where
  pub residuals : List ℤ
  pub levels : List ℤ
  pub l : ℕ
  pub qp : ℕ
  pub row : List ℕ

-- the call, which has the row of ticket 6
abbrev pub lent : (residuals levels : List ℤ) (l qp : ℕ) → Measure
lent residuals levels l qp = record { residuals = residuals; levels = levels; l = l; qp = qp; row = back }

unfoldable pub side_fault : Fault Measure
side_fault = record { refusal = Side; component = of_none; holds = λ m. outside 1 most_log2 m.l }

unfoldable pub qp_fault : Fault Measure
qp_fault = record { refusal = Qp; component = of_none; holds = λ m. ltb 63 m.qp }

-- either list is shorter than the block
unfoldable pub length_fault : Fault Measure
length_fault =
    record {
      refusal = Length;
      component = of_none;
      holds = λ m. ltb (length m.residuals) (2 ^ m.l * 2 ^ m.l)
          || ltb (length m.levels) (2 ^ m.l * 2 ^ m.l);
    }

unfoldable pub measure_faults : List (Fault Measure)
unfolding side_fault qp_fault length_fault
measure_faults = side_fault ∷ qp_fault ∷ length_fault ∷ []

unfoldable pub measure_verdict : Measure → Outcome Unit
unfolding measure_faults verdict
measure_verdict m = verdict measure_faults m

-- the two extremes
unfoldable pub extremes_here : Measure → Extremes
unfolding of.extremes
extremes_here m = of.extremes m.row m.l m.qp m.residuals m.levels

unfoldable pub measure_answer : Measure → Outcome Extremes
unfolding measure_verdict extremes_here
measure_answer m = let e = extremes_here m in answering (measure_verdict m) e

-- what code answers, by the paper's numbers
abbrev pub measure_outcome : Result Extremes Refusal → Outcome Extremes
measure_outcome = whole_outcome_by (λ extremes. extremes)
