-- What the code of one block answers and leaves, once the quantiser alone accepts it: the first candidate that fits, or
-- 15 and the block's component.
use Rattle.std.specs.Prelude.{◌≡◌, false, cond, List, ◌*◌, ◌^◌, ◌≤◌, length, ℤ, Result}
use Rattle.integers.specs.Tests.{some}
use Rattle.refusals.specs.declared.Refused.{Refused}
use Rattle.refusals.specs.declared.Refusal.TheVariants.{Height}
use Rattle.refusals.specs.Numbers.{number_of, component_of}
use Rattle.refusals.specs.Sides.{most_log2}
use Rattle.refusals.specs.Faults.{Outcome, accepted, passed, refused, outcome_by}
use Rattle.tables.specs.Scales.{back}
use Rattle.price.specs.declared.Costs.{Costs}
use Rattle.coding.specs.declared.Coding.{Coding}
use Rattle.coding.specs.Block.{called, quantised}
use Rattle.coding.specs.Call.{quant_verdict}
use Rattle.transform.specs.Coefficients.{coefficients}
use Rattle.transform.specs.Call.{wild}
use Rattle.heights.specs.declared.Heights.{Heights}
use Rattle.guarding.specs.declared.Guarded.{Guarded}
use Rattle.guarding.specs.Block.{Guard, none_fits, reported, guarded_levels}

-- a square block by its residuals, the cost tables, what the quantiser is asked, and the heights
unfoldable pub guard_by : List ℤ → Costs → Coding → Heights → Guard
unfolding called coefficients back
guard_by r t c h =
    record { call = called (coefficients r c.log2 c.log2) t c; residuals = r; row = back; heights = h }

-- what the code of a block is given: residuals of a camera block that the quantiser alone accepts, the levels of the
-- block that the mode writes, and a room for what is shown
pub record Guardable (r : List ℤ) (t : Costs) (c : Coding) (h : Heights) (before shown : List ℤ) : Type 0 where
  pub low : 1 ≤ c.log2
  pub high : c.log2 ≤ most_log2
  pub long : length r ≡ 2 ^ c.log2 * 2 ^ c.log2
  pub tame : some wild r ≡ false
  pub accepts : quant_verdict (guard_by r t c h).call ≡ passed
  pub levels : before ≡ quantised (guard_by r t c h).call
  pub room : length shown ≡ length r

abbrev pub guard_outcome : Result Guarded Refused → Outcome Guarded
guard_outcome = outcome_by (λ coded. coded)

unfoldable pub held_answer : Guard → Outcome Guarded
unfolding none_fits reported
held_answer g =
    let a = reported g in
    cond (none_fits g) (refused (number_of Height) (component_of g.call.component)) (accepted a)

-- the answer, and the levels where it is no refusal
pub record Held (g : Guard) (after : List ℤ) (r : Result Guarded Refused) : Type 0 where
  pub answer : guard_outcome r ≡ held_answer g
  pub left : (a : Guarded) → guard_outcome r ≡ accepted a → after ≡ guarded_levels g
