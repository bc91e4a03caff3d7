-- The guarded call answers 15 for one reason only: the quantiser alone accepts the block of the component told, and yet
-- the plainly rounded block does not fit: its price reaches 2^62, or a sample that a viewer decodes of it lies farther
-- from its residual than the host's height. 15 is the heights' number alone.
use mathlib.Core.Path.{◌≡◌, refl, sym, ◌∙◌}
use mathlib.Core.Logic.{◌⊎◌, inl, inr, ⊎_elim}
use mathlib.Core.Bool.{Bool, true, false, cond, ◌&&◌}
use mathlib.Core.List.{List, [], ◌∷◌}
use Prim.Native.Nat.{ℕ}
use borrow.Author.Tests.{eqb-false}
use lib.Dec.{eqb}
use Rattle.integers.specs.Tests.{some}
use Rattle.integers.proofs.Tests.{neither, both}
use Rattle.refusals.specs.declared.Component.{Component}
use Rattle.refusals.specs.declared.Component.TheVariants.{Y, U, «V»}
use Rattle.refusals.specs.Numbers.{number_of, component_of}
use Rattle.refusals.specs.Faults.{Fault, Outcome, accepted, passed, refused, verdict}
use Rattle.refusals.proofs.First.{or_else}
use Rattle.coding.specs.Call.{quant_verdict}
use Rattle.components.specs.Call.{runs, quant_of}
use Rattle.components.specs.Inner.Groups.{settings_faults, buffer_faults, late_faults, EarlyPassed}
use Rattle.components.proofs.Late.{late_of}
use Rattle.guarding.specs.Block.{plain, none_fits}
use Rattle.guarding.specs.Call.{GuardedBlock, guard_of, guarded_verdict}
use Rattle.guarding.proofs.Late.{height_of, guarded_late, guarded_verdict_in_groups}
use Rattle.guarding.proofs.Fits.{Unfit, plain_unfit}
use Rattle.guarding.proofs.Accepted.{block_accepted}

-- ---- which of several verdicts refuses
other_number : {I : Type 0} (n c : ℕ) (i : I) (fs : List (Fault I))
    → some (λ f. eqb (number_of f.refusal) n) fs ≡ false → verdict fs i ≡ refused n c → ⊥
unfolding verdict some
other_number n c i [] e v = cc
other_number n c i (f ∷ fs) e v =
    let two = neither (eqb (number_of f.refusal) n) (some (λ f. eqb (number_of f.refusal) n) fs) e in
    by (f.holds i) two.0 v (other_number n c i fs two.1)
  where
    by : (t : Bool) → eqb (number_of f.refusal) n ≡ false
        → cond t (refused (number_of f.refusal) (component_of (f.component i))) (verdict fs i) ≡ refused n c
        → (verdict fs i ≡ refused n c → ⊥) → ⊥
    by true o v rest = eqb-false (number_of f.refusal) n o (cc)
    by false o v rest = rest v

first_or_second : (x y : Outcome Unit) (n c : ℕ) → or_else x y ≡ refused n c
    → (x ≡ refused n c) ⊎ ((x ≡ passed) × (y ≡ refused n c))
first_or_second (accepted u) y n c e = inr (refl, e)
first_or_second (refused a b) y n c e = inl e

-- the first of two, or the second, where the first has another number
second : (x y : Outcome Unit) (n c : ℕ) → (x ≡ refused n c → ⊥) → or_else x y ≡ refused n c
    → (x ≡ passed) × (y ≡ refused n c)
second x y n c other e =
    ⊎_elim (λ (f : x ≡ refused n c). absurd (other f)) (λ (f : (x ≡ passed) × (y ≡ refused n c)). f)
    (first_or_second x y n c e)

settings_other : some (λ f. eqb (number_of f.refusal) 15) settings_faults ≡ false
unfolding some settings_faults
settings_other = refl

buffer_other : some (λ f. eqb (number_of f.refusal) 15) buffer_faults ≡ false
unfolding some buffer_faults
buffer_other = refl

late_other : some (λ f. eqb (number_of f.refusal) 15) late_faults ≡ false
unfolding some late_faults
late_other = refl

-- ---- what a refusal with 15 tells
pub record Unguardable (g : GuardedBlock) (n : ℕ) : Type 0 where
  pub of : Component
  pub its_number : component_of of ≡ n
  pub early : EarlyPassed g.call
  pub run : runs of g.call ≡ true
  pub accepted_alone : quant_verdict (quant_of of g.call) ≡ passed
  pub none : none_fits (guard_of of g) ≡ true
  pub plain_too : Unfit (guard_of of g) (plain (quant_of of g.call))

module _ (g : GuardedBlock) (n : ℕ) where
  late_not_15 : (k : Component) → late_of k g.call ≡ refused 15 n → ⊥
  late_not_15 k = by (runs k g.call)
    where
      by : (t : Bool) → cond t (verdict late_faults (quant_of k g.call)) passed ≡ refused 15 n → ⊥
      by true e = other_number 15 n (quant_of k g.call) late_faults late_other e
      by false e = cc

  refusing : (t : Bool) (c : ℕ) → cond t (refused 15 c) passed ≡ refused 15 n → (t ≡ true) × (c ≡ n)
  refusing true c e = (refl, cc)
  refusing false c e = cc

  of_late : EarlyPassed g.call → (k : Component) → guarded_late k g ≡ refused 15 n → Unguardable g n
  unfolding guard_of
  of_late early k e =
      let s = second (late_of k g.call) (height_of k g) 15 n (late_not_15 k) e in
      let h = refusing (runs k g.call && none_fits (guard_of k g)) (component_of k) s.1 in
      let b = both (runs k g.call) (none_fits (guard_of k g)) h.0 in
      let ok = block_accepted g early k b.0 s.0 in
      record {
        of = k;
        its_number = h.1;
        early = early;
        run = b.0;
        accepted_alone = ok;
        none = b.1;
        plain_too = plain_unfit (guard_of k g) ok b.1;
      }

  pub refused_with_15_only_if : guarded_verdict g ≡ refused 15 n → Unguardable g n
  refused_with_15_only_if e =
      let y = guarded_late Y g in
      let u = guarded_late U g in
      let v = guarded_late «V» g in
      let a =
      second (verdict settings_faults g.call) (or_else (verdict buffer_faults g.call) (or_else y (or_else u v))) 15 n
      (other_number 15 n g.call settings_faults settings_other) (sym (guarded_verdict_in_groups g) ∙ e) in
      let b =
      second (verdict buffer_faults g.call) (or_else y (or_else u v)) 15 n
      (other_number 15 n g.call buffer_faults buffer_other) a.1 in
      let early : EarlyPassed g.call = record { settings = a.0; buffer = b.0 } in
      ⊎_elim (of_late early Y)
      (λ (r : (y ≡ passed) × (or_else u v ≡ refused 15 n)).
      ⊎_elim (of_late early U) (λ (r : (u ≡ passed) × (v ≡ refused 15 n)). of_late early «V» r.1)
      (first_or_second u v 15 n r.1))
      (first_or_second y (or_else u v) 15 n b.1)
