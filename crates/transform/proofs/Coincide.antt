-- Any two outcomes that the contract of `trans` allows coincide.
use mathlib.Core.Path.{◌≡◌}
use mathlib.Core.List.{List}
use Prim.Native.Nat.{ℕ}
use lib.IntN.{ℤ}
use Rattle.std.specs.Prelude.{Result}
use Rattle.refusals.specs.declared.Refusal.{Refusal}
use Rattle.refusals.specs.Faults.{verdict_outcome}
use Rattle.refusals.proofs.Coincide.{verdicts_coincide}
use Rattle.transform.specs.Call.{called, trans_verdict, trans_buffer}

pub trans_fixed : (block : List ℤ) (lw lh : ℕ) (r₁ r₂ : Result Unit Refusal) (b₁ b₂ : List ℤ)
    → verdict_outcome r₁ ≡ trans_verdict (called block lw lh) → b₁ ≡ trans_buffer (called block lw lh)
    → verdict_outcome r₂ ≡ trans_verdict (called block lw lh) → b₂ ≡ trans_buffer (called block lw lh)
    → (r₁ ≡ r₂) × (b₁ ≡ b₂)
trans_fixed block lw lh = verdicts_coincide (trans_verdict (called block lw lh)) (trans_buffer (called block lw lh))
