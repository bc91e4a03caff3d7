-- No fate is `Other` in a block that the quantiser accepts, nor in one that the guarded call does: a level is its
-- rounded magnitude, one less, or 0. It is what the calls promise of their levels, in the words of the fates.
use mathlib.Core.Path.{◌≡◌, refl, ap}
use mathlib.Core.Logic.{◌⊎◌, inl, inr, ⊎_elim}
use mathlib.Core.Bool.{Bool, true, false, cond}
use Prim.Native.Nat.{ℕ, suc, ◌+◌, ◌<◌}
use native.Mathlib.Omega.{arith}
use borrow.Author.Tests.{eq-eqb}
use lib.Dec.{eqb}
use lib.IntN.{nat_abs}
use Rattle.integers.specs.Sum.{at}
use Rattle.refusals.specs.Faults.{passed}
use Rattle.coding.specs.Block.{Quant, area, is_skipped}
use Rattle.coding.specs.Call.{quant_verdict, quant_buffer}
use Rattle.coding.proofs.Promises.{place_of, rounded, level_zero_or_signed_m_or_m-1, skipped_is_cleared}
use Rattle.refusals.specs.declared.Component.{Component}
use Rattle.components.specs.Call.{runs, quant_of}
use Rattle.components.specs.Call as three
use Rattle.guarding.specs.Call.{GuardedBlock, guarded_verdict}
use Rattle.guarding.proofs.Answer.{left_in}
use Rattle.guarding.proofs.Promises.{guarded_level_zero_or_signed_m_or_m-1}
use Rattle.fates.specs.declared.Fate.{Fate}
use Rattle.fates.specs.declared.Fate.TheVariants.{Nothing, Kept, Lowered, Dropped, Other}
use Rattle.fates.specs.Fate.{fate_of}

abbrev pub is_other : Fate → Bool
is_other Nothing = false
is_other Kept = false
is_other Lowered = false
is_other Dropped = false
is_other Other = true

of_zero : (t : Bool) → is_other (cond t Nothing Dropped) ≡ false
of_zero true = refl
of_zero false = refl

of_more : (s t u : Bool) → is_other (cond s (cond t Nothing Dropped) (cond u Kept Lowered)) ≡ false
of_more true t u = of_zero t
of_more false t true = refl
of_more false t false = refl

plain : (m a : ℕ) → (a ≡ 0) ⊎ ((a ≡ m) ⊎ (suc a ≡ m)) → is_other (fate_of m a) ≡ false
unfolding fate_of
plain m a (inl e) = rw (eq-eqb a 0 e) (of_zero (eqb m 0))
plain m a (inr (inl e)) = rw (eq-eqb a m e) (of_more (eqb a 0) (eqb m 0) true)
plain m a (inr (inr e)) = rw (eq-eqb (a + 1) m (omega arith)) (of_more (eqb a 0) (eqb m 0) (eqb a m))

module _ (c : Quant) (ok : quant_verdict c ≡ passed) where
  -- the magnitude left at a scan place
  abbrev left : ℕ → ℕ
  left p = nat_abs (at (quant_buffer c) (place_of c p))

  allowed : (p : ℕ) → p < area c → (t : Bool) → is_skipped c ≡ t → (left p ≡ 0)
      ⊎ ((left p ≡ rounded c p) ⊎ (suc (left p) ≡ rounded c p))
  allowed p h true e = inl (ap nat_abs (skipped_is_cleared c ok e p h))
  allowed p h false e = ⊎_elim (λ z. inl (ap nat_abs z)) (λ s. inr s.1) (level_zero_or_signed_m_or_m-1 c ok e p h)

  pub never_other : (p : ℕ) → p < area c → is_other (fate_of (rounded c p) (left p)) ≡ false
  never_other p h = plain (rounded c p) (left p) (allowed p h (is_skipped c) refl)

-- of a component that is run
module _ (g : GuardedBlock) (ok : guarded_verdict g ≡ passed) (k : Component) (run : runs k g.call ≡ true) where
  abbrev guarded_left : ℕ → ℕ
  guarded_left p = nat_abs (at (left_in k g) (place_of (quant_of k g.call) p))

  pub guarded_never_other : (p : ℕ) → p < three.area k g.call
      → is_other (fate_of (rounded (quant_of k g.call) p) (guarded_left p)) ≡ false
  guarded_never_other p h =
      plain (rounded (quant_of k g.call) p) (guarded_left p)
      (⊎_elim (λ z. inl (ap nat_abs z)) (λ s. inr s.1) (guarded_level_zero_or_signed_m_or_m-1 g ok k run p h))
