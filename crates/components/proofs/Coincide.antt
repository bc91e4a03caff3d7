-- Any two outcomes that the contract of `sub_block_tq` allows coincide.
use mathlib.Core.Path.{◌≡◌}
use mathlib.Core.List.{List}
use lib.IntN.{ℤ}
use Rattle.std.specs.Prelude.{Result}
use Rattle.refusals.specs.declared.Refused.{Refused}
use Rattle.refusals.proofs.Coincide.{outcomes_tell, coincide}
use Rattle.components.specs.declared.Request.{Request}
use Rattle.price.specs.declared.Costs.{Costs}
use Rattle.components.specs.Call.{Shares, requested, sub_block_answer, sub_block_buffer, sub_block_outcome}

pub sub_block_fixed : (buffer : List ℤ) (t : Costs) (q : Request) (r₁ r₂ : Result Shares Refused) (b₁ b₂ : List ℤ)
    → sub_block_outcome r₁ ≡ sub_block_answer (requested buffer t q) → b₁ ≡ sub_block_buffer (requested buffer t q)
    → sub_block_outcome r₂ ≡ sub_block_answer (requested buffer t q) → b₂ ≡ sub_block_buffer (requested buffer t q)
    → (r₁ ≡ r₂) × (b₁ ≡ b₂)
sub_block_fixed buffer t q =
    coincide sub_block_outcome (outcomes_tell (λ shares. shares) (λ a b e. e)) (sub_block_answer (requested buffer t q)) (sub_block_buffer (requested buffer t q))
