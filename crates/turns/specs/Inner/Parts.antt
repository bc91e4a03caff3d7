-- What the code of the three components must be given and what it answers and leaves, in a room of n + n/4 + n/4 places
-- that holds their residuals and nothing else: each component as it is by itself, and the first refusal of the three.
use Rattle.std.specs.Prelude.{◌≡◌, List, ◌++◌, ℕ, ◌+◌, ◌/◌, length, drop, ℤ, Result, Ok, Err}
use Rattle.refusals.specs.declared.Refused.{Refused}
use Rattle.refusals.specs.declared.Three.{Three}
use Rattle.refusals.specs.declared.Component.{Component}
use Rattle.refusals.specs.declared.Component.TheVariants.{Y, U, «V»}
use Rattle.refusals.specs.Faults.{Outcome, verdict, outcome_by}
use Rattle.price.specs.declared.Costs.{Costs}
use Rattle.components.specs.declared.Request.{Request}
use Rattle.components.specs.Call.{SubBlock, stretch, start, area}
use Rattle.components.specs.Inner.Turns.{past, joined}
use Rattle.components.specs.Inner.Groups.{settings_faults, buffer_faults}
use Rattle.admission.specs.Inner.Tested.{Sizes, residuals}
use Rattle.stretch.specs.Inner.Part.{Ready}

pub record AllReady (t : Costs) (q : Request) (n : ℕ) (l : List ℤ) : Type 0 where
  pub sizes : Sizes q.log2_luma n
  pub long : length l ≡ n + n / 4 + n / 4
  pub parts : (k : Component) → Ready k t q (residuals k n l)

-- by what each component answers and leaves of its residuals in the room: the answer, and the room where nothing was
-- refused
pub record Parted {A : Type 0} (answers : Component → List ℤ → Outcome A) (leaves : Component → List ℤ → List ℤ)
    (n : ℕ) (before after : List ℤ) (r : Result (Three A) Refused) : Type 0 where
  pub answer : outcome_by (λ a. a) r
      ≡ joined (answers Y (residuals Y n before)) (answers U (residuals U n before)) (answers «V» (residuals «V» n before))
  pub left : (a : Three A) → r ≡ Ok a
      → after
      ≡ leaves Y (residuals Y n before) ++ (leaves U (residuals U n before) ++ leaves «V» (residuals «V» n before))

-- the call by what each component answers and leaves of its stretch: the early tests first, and the buffer where nothing
-- was refused and where something was
pub record Called {A : Type 0} (answers : Component → List ℤ → Outcome A) (leaves : Component → List ℤ → List ℤ)
    (s : SubBlock) (after : List ℤ) (r : Result (Three A) Refused) : Type 0 where
  pub answer : outcome_by (λ a. a) r
      ≡ past (verdict settings_faults s) (past (verdict buffer_faults s)
      (joined (answers Y (stretch Y s)) (answers U (stretch U s)) (answers «V» (stretch «V» s))))
  pub left : (a : Three A) → r ≡ Ok a
      → after
      ≡ leaves Y (stretch Y s)
      ++ (leaves U (stretch U s) ++ (leaves «V» (stretch «V» s) ++ drop (start «V» s + area «V» s) s.buffer))
  pub kept : (e : Refused) → r ≡ Err e → after ≡ s.buffer
