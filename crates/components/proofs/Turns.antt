-- What holds of Y, U and V one after another holds of each: of three faults at the head of a list of which none holds,
-- and of three verdicts of which the first refusal is none. And three answers, each with its verdict, are the answer
-- with the first refusal of the three.
use mathlib.Core.Path.{◌≡◌, refl}
use mathlib.Core.Bool.{false}
use mathlib.Core.List.{List, ◌∷◌}
use Rattle.refusals.specs.declared.Component.{Component}
use Rattle.refusals.specs.declared.Component.TheVariants.{Y, U, «V»}
use Rattle.refusals.specs.Faults.{Fault, Outcome, accepted, passed, refused, answering}
use Rattle.refusals.proofs.First.{None, head_fails, rest_fails, or_else, both_accepted}
use Rattle.components.specs.Inner.Turns.{joined}

module _ {I : Type 0} (i : I) (of : Component → Fault I) {rest : List (Fault I)}
    (none : None i (of Y ∷ of U ∷ of «V» ∷ rest)) where
  pub each_fails : (k : Component) → (of k).holds i ≡ false
  each_fails Y = head_fails i none
  each_fails U = head_fails i (rest_fails i none)
  each_fails «V» = head_fails i (rest_fails i (rest_fails i none))

  pub behind_the_three : None i rest
  behind_the_three = rest_fails i (rest_fails i (rest_fails i none))

module _ (of : Component → Outcome Unit) where
  abbrev pub first_refusal : Outcome Unit
  first_refusal = or_else (of Y) (or_else (of U) (of «V»))

  pub each_passed : first_refusal ≡ passed → (k : Component) → of k ≡ passed
  each_passed e =
      let y = both_accepted (of Y) (or_else (of U) (of «V»)) e in
      let u = both_accepted (of U) (of «V») y.1 in
      elim [ Y ↦ y.0 | U ↦ u.0 | «V» ↦ u.1 ]

pub joined_outcomes : {A : Type 0} (x y z : Outcome Unit) (a b c : A)
    → joined (answering x a) (answering y b) (answering z c)
    ≡ answering (or_else x (or_else y z)) (record { y = a; u = b; v = c })
joined_outcomes (refused m k) y z a b c = refl
joined_outcomes (accepted x) (refused m k) z a b c = refl
joined_outcomes (accepted x) (accepted y) (refused m k) a b c = refl
joined_outcomes (accepted x) (accepted y) (accepted z) a b c = refl
