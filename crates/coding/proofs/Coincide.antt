-- Any two outcomes that the contract of `quant_nnz` allows coincide.
use mathlib.Core.Path.{◌≡◌}
use mathlib.Core.List.{List}
use lib.IntN.{ℤ}
use Rattle.std.specs.Prelude.{Result}
use Rattle.refusals.specs.declared.Refused.{Refused}
use Rattle.refusals.proofs.Coincide.{outcomes_tell, coincide}
use Rattle.coding.specs.declared.Coding.{Coding}
use Rattle.coding.specs.declared.Coded.{Coded}
use Rattle.price.specs.declared.Costs.{Costs}
use Rattle.coding.specs.Block.{called}
use Rattle.coding.specs.Call.{quant_answer, quant_buffer, quant_outcome}

module _ (block : List ℤ) (costs : Costs) (coding : Coding) where
  pub quant_fixed : (r₁ r₂ : Result Coded Refused) (b₁ b₂ : List ℤ)
      → quant_outcome r₁ ≡ quant_answer (called block costs coding)
      → b₁ ≡ quant_buffer (called block costs coding)
      → quant_outcome r₂ ≡ quant_answer (called block costs coding)
      → b₂ ≡ quant_buffer (called block costs coding)
      → (r₁ ≡ r₂) × (b₁ ≡ b₂)
  quant_fixed =
      coincide quant_outcome (outcomes_tell (λ coded. coded) (λ a b e. e)) (quant_answer (called block costs coding))
      (quant_buffer (called block costs coding))
