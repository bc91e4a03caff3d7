-- What the tests that come before any arithmetic say to the code behind them: an answer as a verdict, the first component
-- of which a test holds, and how long the three stretches are and where they stand. The faults themselves are those of
-- the call's definition, in its groups.
use Rattle.std.specs.Prelude.{◌≡◌, Bool, cond, List, [], ◌∷◌, ℕ, ◌+◌, ◌-◌, ◌*◌, ◌/◌, ◌^◌, ◌≤◌, take, drop, ℤ, Result}
use Rattle.refusals.specs.declared.Refusal.{Refusal}
use Rattle.refusals.specs.declared.Refused.{Refused}
use Rattle.refusals.specs.declared.Component.{Component}
use Rattle.refusals.specs.declared.Component.TheVariants.{Y, U, «V»}
use Rattle.refusals.specs.Numbers.{number_of, component_of}
use Rattle.refusals.specs.Faults.{Outcome, passed, refused, outcome_by}

abbrev pub tested : Result Unit Refused → Outcome Unit
tested = outcome_by (λ u. u)

-- the first component of a list of which a test holds is refused; and the first of Y, U and V
abbrev pub first_in : Refusal → (Component → Bool) → List Component → Outcome Unit
first_in why test [] = passed
first_in why test (k ∷ ks) = cond (test k) (refused (number_of why) (component_of k)) (first_in why test ks)

abbrev pub first_of : Refusal → (Component → Bool) → Outcome Unit
first_of why test = first_in why test (Y ∷ U ∷ «V» ∷ [])

-- n is the number of luma's places: what it and its quarter are, and that the three stretches are 3/2 of it
pub record Sizes (log2 n : ℕ) : Type 0 where
  pub luma : n ≡ 2 ^ log2 * 2 ^ log2
  pub chroma : n / 4 ≡ 2 ^ (log2 - 1) * 2 ^ (log2 - 1)
  pub three : n + n / 4 + n / 4 ≡ n * 3 / 2
  pub small : n ≤ 1024

-- what stands of each component in a list in which luma has n places
abbrev pub residuals : Component → ℕ → List ℤ → List ℤ
residuals Y n l = take n l
residuals U n l = take (n / 4) (drop n l)
residuals «V» n l = take (n / 4) (drop (n + n / 4) l)
