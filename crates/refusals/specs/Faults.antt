-- How a call is refused. A call has a list of faults, in the order in which they are tested; each is a statement about
-- the call's inputs by itself. The call is refused with the first that holds, and accepted when none does.
use Rattle.std.specs.Prelude.{Bool, not, cond, ◌&&◌, List, [], ◌∷◌, ℕ, leb, Result, Ok, Err}
use Rattle.refusals.specs.declared.Refusal.{Refusal}
use Rattle.refusals.specs.declared.Refused.{Refused}
use Rattle.refusals.specs.declared.Component.{Component}
use Rattle.refusals.specs.declared.Component.TheVariants.{Y}
use Rattle.refusals.specs.Numbers.{number_of, component_of}

-- a fault of a call with inputs I: its refusal, the component that it belongs to, and when it holds
pub record Fault (I : Type 0) : Type 0 where
  pub refusal : Refusal
  pub component : I → Component
  pub holds : I → Bool

-- a fault that belongs to no component counts as Y's, whose number is 0
abbrev pub of_none : {I : Type 0} → I → Component
of_none i = Y

-- what comes of a call: what it answers where it is accepted, or the paper's numbers of a refusal and a component
pub data Outcome (A : Type 0) : Type 0 where
  accepted : A → Outcome A
  refused : (number component : ℕ) → Outcome A

-- of a call that is asked for nothing but its faults
abbrev pub passed : Outcome Unit
passed = accepted tt

unfoldable pub verdict : {I : Type 0} → List (Fault I) → I → Outcome Unit
verdict [] i = passed
verdict (f ∷ fs) i =
    let rest = verdict fs i in cond (f.holds i) (refused (number_of f.refusal) (component_of (f.component i))) rest

-- a refusal of a call as a whole
abbrev pub of_whole : Refusal → Refused
of_whole why = record { why = why; component = Y }

-- what code says of a call over components, by the paper's numbers; `told` has what it answers as the paper has it
abbrev pub outcome_by : {T A : Type 0} → (T → A) → Result T Refused → Outcome A
outcome_by told (Ok answer) = accepted (told answer)
outcome_by told (Err r) = refused (number_of r.why) (component_of r.component)

-- what code says of a call that knows no components
abbrev pub whole_outcome_by : {T A : Type 0} → (T → A) → Result T Refusal → Outcome A
whole_outcome_by told (Ok answer) = accepted (told answer)
whole_outcome_by told (Err why) = refused (number_of why) 0

-- and of one that answers only whether it was accepted
abbrev pub verdict_outcome : Result Unit Refusal → Outcome Unit
verdict_outcome = whole_outcome_by (λ u. u)

-- with that verdict the answer a
abbrev pub answering : {A : Type 0} → Outcome Unit → A → Outcome A
answering (accepted u) a = accepted a
answering (refused n c) a = refused n c

-- a where the call is accepted, else b
abbrev pub if_accepted : {A : Type 0} → Outcome Unit → A → A → A
if_accepted (accepted u) a b = a
if_accepted (refused n c) a b = b

-- n is outside lo..hi
abbrev pub outside : (lo hi n : ℕ) → Bool
outside lo hi n = not (leb lo n && leb n hi)
