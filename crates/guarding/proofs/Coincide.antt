-- Any two outcomes that the contract of the guarded call allows coincide.
use mathlib.Core.Path.{◌≡◌}
use mathlib.Core.List.{List}
use lib.IntN.{ℤ}
use Rattle.std.specs.Prelude.{Result}
use Rattle.refusals.specs.declared.Refused.{Refused}
use Rattle.refusals.proofs.Coincide.{outcomes_tell, coincide}
use Rattle.guarding.specs.Call.{GuardedBlock, Shares, guarded_answer, guarded_buffer, guarded_outcome}

pub guarded_fixed : (g : GuardedBlock) (r₁ r₂ : Result Shares Refused) (b₁ b₂ : List ℤ)
    → guarded_outcome r₁ ≡ guarded_answer g → b₁ ≡ guarded_buffer g
    → guarded_outcome r₂ ≡ guarded_answer g → b₂ ≡ guarded_buffer g
    → (r₁ ≡ r₂) × (b₁ ≡ b₂)
guarded_fixed g = coincide guarded_outcome (outcomes_tell (λ shares. shares) (λ a b e. e)) (guarded_answer g) (guarded_buffer g)
