-- What refusals 1 to 5 leave of a call, once its block has a buffer of its own: what the code behind them may rely on.
-- Those that are left belong to the block's component.
use Rattle.std.specs.Prelude.{◌≡◌, false, List, ◌*◌, ◌^◌, ◌≤◌, length, ℤ, Result, Ok, Err}
use Rattle.refusals.specs.declared.Component.{Component}
use Rattle.refusals.specs.declared.Refusal.{Refusal}
use Rattle.refusals.specs.Sides.{most_log2}
use Rattle.refusals.specs.Numbers.{number_of, component_of}
use Rattle.refusals.specs.Faults.{Outcome, accepted, refused}
use Rattle.price.specs.Lambda.{lambda_refused}
use Rattle.price.specs.declared.Costs.{Costs}
use Rattle.price.specs.Costs.{cost_refused}
use Rattle.coding.specs.declared.Coding.{Coding}
use Rattle.coding.specs.declared.Coded.{Coded}

pub record EarlyPassed (block : List ℤ) (t : Costs) (c : Coding) : Type 0 where
  pub low : 1 ≤ c.log2
  pub high : c.log2 ≤ most_log2
  pub qp : c.settings.qp ≤ 63
  pub lambda : lambda_refused c.settings.lambda ≡ false
  pub costs : cost_refused t ≡ false
  pub long : length block ≡ 2 ^ c.log2 * 2 ^ c.log2

-- what code says of a block's component, by the paper's numbers
abbrev pub outcome_in : Component → Result Coded Refusal → Outcome Coded
outcome_in component (Ok coded) = accepted coded
outcome_in component (Err why) = refused (number_of why) (component_of component)
