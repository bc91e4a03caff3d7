-- Any two outcomes that a contract allows coincide. A contract of this project fixes the paper's numbers of the answer
-- and the buffer; the numbers tell every refusal and every component apart, so that they fix the answer itself.
-- Assumes nothing.
use mathlib.Core.Path.{◌≡◌, refl, sym, ap, ◌∙◌}
use mathlib.Core.List.{[], ◌∷◌}
use Prim.Native.Nat.{ℕ}
use native.Mathlib.Omega.{arith}
use lib.ListN.{get_or}
use Rattle.std.specs.Prelude.{Result, Ok, Err}
use Rattle.refusals.specs.declared.Refusal.{Refusal}
use Rattle.refusals.specs.declared.Refusal.TheVariants.{Side, Qp, Lambda, Cost, Length, Sample, Level, Price}
use Rattle.refusals.specs.declared.Refusal.TheVariants.{Distortion, Room, Symbol, Height}
use Rattle.refusals.specs.declared.Refused.{Refused}
use Rattle.refusals.specs.declared.Component.{Component}
use Rattle.refusals.specs.declared.Component.TheVariants.{Y, U, «V»}
use Rattle.refusals.specs.Numbers.{number_of, component_of}
use Rattle.refusals.specs.Faults.{Outcome, outcome_by, whole_outcome_by, verdict_outcome}

-- a function that another undoes tells its arguments apart
undone : {A B : Type 0} (f : A → B) (back : B → A) → ((a : A) → back (f a) ≡ a) → (a b : A) → f a ≡ f b → a ≡ b
undone f back is a b e = sym (is a) ∙ ap back e ∙ is b

-- the refusal of a number, and the component: no refusal has the number 0, and of those above 11 only 15 is one
abbrev refusal_at : ℕ → Refusal
refusal_at n =
    get_or (Side ∷ Side ∷ Qp ∷ Lambda ∷ Cost ∷ Length ∷ Sample ∷ Level ∷ Price ∷ Distortion ∷ Room ∷ Symbol ∷ []) n Height

abbrev component_at : ℕ → Component
component_at n = get_or (Y ∷ U ∷ «V» ∷ []) n Y

pub number_tells : (a b : Refusal) → number_of a ≡ number_of b → a ≡ b
number_tells = undone number_of refusal_at is
  where
    is : (a : Refusal) → refusal_at (number_of a) ≡ a
    is Side = refl
    is Qp = refl
    is Lambda = refl
    is Cost = refl
    is Length = refl
    is Sample = refl
    is Level = refl
    is Price = refl
    is Distortion = refl
    is Room = refl
    is Symbol = refl
    is Height = refl

pub component_tells : (a b : Component) → component_of a ≡ component_of b → a ≡ b
component_tells = undone component_of component_at is
  where
    is : (a : Component) → component_at (component_of a) ≡ a
    is Y = refl
    is U = refl
    is «V» = refl

-- answer and buffer of one outcome and of another, where both are what the contract says
pub coincide : {R P B : Type 0} (paper : R → P) (tells : (a b : R) → paper a ≡ paper b → a ≡ b) (answer : P)
    (buffer : B)
    (r₁ r₂ : R) (b₁ b₂ : B) → paper r₁ ≡ answer → b₁ ≡ buffer → paper r₂ ≡ answer → b₂ ≡ buffer → (r₁ ≡ r₂) × (b₁ ≡ b₂)
coincide paper tells answer buffer r₁ r₂ b₁ b₂ e₁ f₁ e₂ f₂ = (tells r₁ r₂ (e₁ ∙ sym e₂), f₁ ∙ sym f₂)

-- the paper's numbers tell what code says apart, where `told` tells its answers apart
module _ {T A : Type 0} (told : T → A) (tells : (a b : T) → told a ≡ told b → a ≡ b) where
  pub outcomes_tell : (a b : Result T Refused) → outcome_by told a ≡ outcome_by told b → a ≡ b
  outcomes_tell (Ok a) (Ok b) e = ap Ok (tells a b cc)
  outcomes_tell (Ok a) (Err r) e = absurd (let z : ◌≡◌ {A = ℕ} 0 1 = cc in let no : ⊥ = omega arith in no)
  outcomes_tell (Err r) (Ok b) e = absurd (let z : ◌≡◌ {A = ℕ} 0 1 = cc in let no : ⊥ = omega arith in no)
  outcomes_tell (Err r) (Err s) e =
      ap (λ why. Err (record { why = why; component = r.component })) (number_tells r.why s.why cc)
      ∙ ap (λ component. Err (record { why = s.why; component = component }))
      (component_tells r.component s.component cc)

  pub whole_outcomes_tell : (a b : Result T Refusal) → whole_outcome_by told a ≡ whole_outcome_by told b → a ≡ b
  whole_outcomes_tell (Ok a) (Ok b) e = ap Ok (tells a b cc)
  whole_outcomes_tell (Ok a) (Err r) e = absurd (let z : ◌≡◌ {A = ℕ} 0 1 = cc in let no : ⊥ = omega arith in no)
  whole_outcomes_tell (Err r) (Ok b) e = absurd (let z : ◌≡◌ {A = ℕ} 0 1 = cc in let no : ⊥ = omega arith in no)
  whole_outcomes_tell (Err r) (Err s) e = ap Err (number_tells r s cc)

-- the outcomes of a call that answers only whether it was accepted
pub verdicts_coincide : {B : Type 0} (answer : Outcome Unit) (buffer : B) (r₁ r₂ : Result Unit Refusal) (b₁ b₂ : B)
    → verdict_outcome r₁ ≡ answer → b₁ ≡ buffer → verdict_outcome r₂ ≡ answer → b₂ ≡ buffer → (r₁ ≡ r₂) × (b₁ ≡ b₂)
verdicts_coincide = coincide verdict_outcome (whole_outcomes_tell (λ u. u) (λ a b e. e))
