-- What the code of a component must be given, and what it answers and leaves, over its residuals as a list: what the
-- quantiser alone makes of their coefficients where the component is run, and nothing where it is not.
use Rattle.std.specs.Prelude.{◌≡◌, true, false, cond, List, ℕ, ◌*◌, ◌^◌, ◌≤◌, ltb, length, ℤ}
use Rattle.integers.specs.Tests.{some}
use Rattle.refusals.specs.declared.Component.{Component}
use Rattle.refusals.specs.Sides.{most_log2}
use Rattle.refusals.specs.Faults.{Outcome}
use Rattle.transform.specs.Coefficients.{coefficients}
use Rattle.transform.specs.Call.{wild}
use Rattle.price.specs.Lambda.{lambda_refused}
use Rattle.price.specs.declared.Costs.{Costs}
use Rattle.price.specs.Costs.{cost_refused}
use Rattle.coding.specs.declared.Coded.{Coded}
use Rattle.coding.specs.declared.Coding.{Coding}
use Rattle.coding.specs.Block.{Quant, called}
use Rattle.coding.specs.Call.{coded, quant_answer, quant_buffer}
use Rattle.components.specs.declared.Request.{Request}
use Rattle.components.specs.Call.{bit, log2_of}
use Rattle.refusals.specs.Three.{part_of}

-- a component's log2 side
abbrev pub log2_in : Component → Request → ℕ
log2_in k q = log2_of k q.log2_luma

-- what the quantiser is asked of a component, and its call on the coefficients of the residuals r
abbrev pub coding_of : Component → Request → Coding
coding_of k q =
    record {
      log2 = log2_in k q;
      component = k;
      settings = part_of k q.settings;
      intra_slice = q.intra_slice;
      intra_coded = q.intra_coded;
      mode = q.mode;
    }

unfoldable pub quant_in : Component → Costs → Request → List ℤ → Quant
unfolding coefficients called
quant_in k t q r = called (coefficients r (log2_in k q) (log2_in k q)) t (coding_of k q)

-- the tests before it have passed
pub record Ready (k : Component) (t : Costs) (q : Request) (r : List ℤ) : Type 0 where
  pub low : 2 ≤ q.log2_luma
  pub high : q.log2_luma ≤ most_log2
  pub long : length r ≡ 2 ^ log2_in k q * 2 ^ log2_in k q
  pub costs : cost_refused t ≡ false
  pub qp : bit k q.run ≡ true → ltb 63 (part_of k q.settings).qp ≡ false
  pub lambda : bit k q.run ≡ true → lambda_refused (part_of k q.settings).lambda ≡ false
  pub tame : bit k q.run ≡ true → some wild r ≡ false

unfoldable pub part_answer : Component → Costs → Request → List ℤ → Outcome Coded
unfolding quant_answer quant_in
part_answer k t q r = let a = quant_answer (quant_in k t q r) in cond (bit k q.run) a (coded 0 0)

unfoldable pub part_left : Component → Costs → Request → List ℤ → List ℤ
unfolding quant_buffer quant_in
part_left k t q r = let after = quant_buffer (quant_in k t q r) in cond (bit k q.run) after r
