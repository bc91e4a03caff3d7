-- Any two answers that the contract of `measure` allows coincide.
-- Assumes nothing.
use mathlib.Core.Path.{◌≡◌, sym, ◌∙◌}
use mathlib.Core.List.{List}
use Prim.Native.Nat.{ℕ}
use lib.IntN.{ℤ}
use Rattle.std.specs.Prelude.{Result}
use Rattle.refusals.specs.declared.Refusal.{Refusal}
use Rattle.refusals.proofs.Coincide.{whole_outcomes_tell}
use Rattle.heights.specs.declared.Extremes.{Extremes}
use Rattle.heights.specs.Call.{lent, measure_answer, measure_outcome}

pub measure_fixed : (residuals levels : List ℤ) (l qp : ℕ) (r₁ r₂ : Result Extremes Refusal)
    → measure_outcome r₁ ≡ measure_answer (lent residuals levels l qp)
    → measure_outcome r₂ ≡ measure_answer (lent residuals levels l qp)
    → r₁ ≡ r₂
measure_fixed residuals levels l qp r₁ r₂ e₁ e₂ = whole_outcomes_tell (λ extremes. extremes) (λ a b e. e) r₁ r₂ (e₁ ∙ sym e₂)
