-- Any two outcomes that the contract of `scale_back` allows coincide, and any two of `inverse`.
-- Assumes nothing.
use mathlib.Core.Path.{◌≡◌}
use mathlib.Core.List.{List}
use Prim.Native.Nat.{ℕ}
use lib.IntN.{ℤ}
use Rattle.std.specs.Prelude.{Result}
use Rattle.refusals.specs.declared.Refusal.{Refusal}
use Rattle.refusals.specs.Faults.{verdict_outcome}
use Rattle.refusals.proofs.Coincide.{verdicts_coincide}
use Rattle.decoding.specs.Call.{levels_lent, scale_verdict, scale_buffer}
use Rattle.decoding.specs.Call.{coefficients_lent, inverse_verdict, inverse_buffer}

pub scale_back_fixed : (block : List ℤ) (l qp : ℕ) (r₁ r₂ : Result Unit Refusal) (b₁ b₂ : List ℤ)
    → verdict_outcome r₁ ≡ scale_verdict (levels_lent block l qp) → b₁ ≡ scale_buffer (levels_lent block l qp)
    → verdict_outcome r₂ ≡ scale_verdict (levels_lent block l qp) → b₂ ≡ scale_buffer (levels_lent block l qp)
    → (r₁ ≡ r₂) × (b₁ ≡ b₂)
scale_back_fixed block l qp =
    verdicts_coincide (scale_verdict (levels_lent block l qp)) (scale_buffer (levels_lent block l qp))

pub inverse_fixed : (block : List ℤ) (lw lh : ℕ) (r₁ r₂ : Result Unit Refusal) (b₁ b₂ : List ℤ)
    → verdict_outcome r₁ ≡ inverse_verdict (coefficients_lent block lw lh)
    → b₁ ≡ inverse_buffer (coefficients_lent block lw lh)
    → verdict_outcome r₂ ≡ inverse_verdict (coefficients_lent block lw lh)
    → b₂ ≡ inverse_buffer (coefficients_lent block lw lh)
    → (r₁ ≡ r₂) × (b₁ ≡ b₂)
inverse_fixed block lw lh =
    verdicts_coincide (inverse_verdict (coefficients_lent block lw lh)) (inverse_buffer (coefficients_lent block lw lh))
