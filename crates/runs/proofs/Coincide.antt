-- Any two outcomes that the contract of `write_symbols` allows coincide, and any two of `read_symbols`.
use mathlib.Core.Path.{◌≡◌}
use mathlib.Core.List.{List}
use Prim.Native.Nat.{ℕ}
use lib.IntN.{ℤ}
use Rattle.std.specs.Prelude.{Result}
use Rattle.refusals.specs.declared.Refusal.{Refusal}
use Rattle.refusals.specs.Faults.{verdict_outcome}
use Rattle.refusals.proofs.Coincide.{coincide, whole_outcomes_tell, verdicts_coincide}
use Rattle.runs.specs.Call.{writing, write_answer, write_outcome, write_list, reading, read_verdict, read_buffer}

pub write_symbols_fixed : (block : List ℤ) (l : ℕ) (list : List ℕ) (r₁ r₂ : Result ℕ Refusal) (l₁ l₂ : List ℕ)
    → write_outcome r₁ ≡ write_answer (writing block l list) → l₁ ≡ write_list (writing block l list)
    → write_outcome r₂ ≡ write_answer (writing block l list) → l₂ ≡ write_list (writing block l list)
    → (r₁ ≡ r₂) × (l₁ ≡ l₂)
write_symbols_fixed block l list =
    coincide write_outcome (whole_outcomes_tell (λ count. count) (λ a b e. e)) (write_answer (writing block l list)) (write_list (writing block l list))

pub read_symbols_fixed : (list : List ℕ) (block : List ℤ) (l : ℕ) (r₁ r₂ : Result Unit Refusal) (b₁ b₂ : List ℤ)
    → verdict_outcome r₁ ≡ read_verdict (reading list block l) → b₁ ≡ read_buffer (reading list block l)
    → verdict_outcome r₂ ≡ read_verdict (reading list block l) → b₂ ≡ read_buffer (reading list block l)
    → (r₁ ≡ r₂) × (b₁ ≡ b₂)
read_symbols_fixed list block l =
    verdicts_coincide (read_verdict (reading list block l)) (read_buffer (reading list block l))
