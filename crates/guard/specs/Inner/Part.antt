-- What the code of a component answers and leaves in the guarded call, over its residuals as a list: what the quantiser
-- alone refuses, then the first candidate that fits, where the component is run, and nothing where it is not.
use Rattle.std.specs.Prelude.{◌≡◌, cond, List, ℤ, Result}
use Rattle.refusals.specs.declared.Refused.{Refused}
use Rattle.refusals.specs.declared.Component.{Component}
use Rattle.refusals.specs.Faults.{Outcome, accepted}
use Rattle.price.specs.declared.Costs.{Costs}
use Rattle.coding.specs.Block.{Quant, count_of, price_of}
use Rattle.coding.specs.Call.{quant_verdict}
use Rattle.coding.specs.declared.Coded.{Coded}
use Rattle.components.specs.declared.Request.{Request}
use Rattle.components.specs.Call.{bit}
use Rattle.components.specs.Inner.Turns.{past}
use Rattle.stretch.specs.Inner.Part.{coding_of}
use Rattle.refusals.specs.declared.Three.{Three}
use Rattle.refusals.specs.Three.{part_of}
use Rattle.heights.specs.declared.Heights.{Heights}
use Rattle.guarding.specs.declared.Guarded.{Guarded}
use Rattle.guarding.specs.Block.{Guard, guarded_levels}
use Rattle.guarding.specs.Call.{nothing}
use Rattle.guarding.specs.Inner.Held.{guard_by, guard_outcome, held_answer}

-- the count and the price of the block that the mode writes
abbrev pub OfMode : Quant → Coded → Type 0
OfMode c a = (a.count ≡ count_of c) × (a.price ≡ price_of c)

-- the block of a component by its residuals
unfoldable pub guard_in : Component → Costs → Request → Three Heights → List ℤ → Guard
unfolding guard_by
guard_in k t q h r = guard_by r t (coding_of k q) (part_of k h)

unfoldable pub guard_part_answer : Component → Costs → Request → Three Heights → List ℤ → Outcome Guarded
unfolding quant_verdict held_answer guard_in
guard_part_answer k t q h r =
    let g = guard_in k t q h r in
    let a = past (quant_verdict g.call) (held_answer g) in
    cond (bit k q.run) a (accepted nothing)

unfoldable pub guard_part_left : Component → Costs → Request → Three Heights → List ℤ → List ℤ
unfolding guarded_levels guard_in
guard_part_left k t q h r = let after = guarded_levels (guard_in k t q h r) in cond (bit k q.run) after r

-- the answer, and the levels where it is no refusal
pub record HeldPart (k : Component) (t : Costs) (q : Request) (h : Three Heights) (before after : List ℤ)
    (r : Result Guarded Refused) : Type 0 where
  pub answer : guard_outcome r ≡ guard_part_answer k t q h before
  pub left : (a : Guarded) → guard_outcome r ≡ accepted a → after ≡ guard_part_left k t q h before
