-- An accepted guarded call: it passes the early tests, and of each component that is run the quantiser alone accepts
-- its block, and one of its candidates fits. So the call without heights is accepted too.
use mathlib.Core.Path.{◌≡◌, refl, sym, ap, ◌∙◌}
use mathlib.Core.Bool.{Bool, true, false, cond, ◌&&◌}
use Prim.Native.Nat.{ℕ}
use Rattle.integers.proofs.Tests.{not_both}
use Rattle.refusals.specs.declared.Component.{Component}
use Rattle.refusals.specs.declared.Component.TheVariants.{Y, U, «V»}
use Rattle.refusals.specs.Numbers.{component_of}
use Rattle.refusals.specs.Faults.{Outcome, passed, refused, verdict}
use Rattle.refusals.proofs.First.{or_else, both_accepted}
use Rattle.coding.specs.Call.{quant_verdict}
use Rattle.components.specs.Call.{runs, quant_of, sub_block_verdict}
use Rattle.components.specs.Inner.Groups.{settings_faults, buffer_faults, EarlyPassed}
use Rattle.components.proofs.Late.{late_of, verdict_in_groups}
use Rattle.components.proofs.Turns.{first_refusal, each_passed}
use Rattle.components.proofs.Alone.{quantiser_alone_is_late}
use Rattle.guarding.specs.Block.{none_fits, fits, guarded}
use Rattle.guarding.specs.Call.{GuardedBlock, guard_of, guarded_verdict}
use Rattle.guarding.proofs.Late.{height_of, guarded_late, guarded_verdict_in_groups}
use Rattle.guarding.proofs.Fits as block

-- a test that refuses with 15 did not hold
not_refused : (t : Bool) (n : ℕ) → cond t (refused 15 n) passed ≡ passed → t ≡ false
not_refused true n e = cc
not_refused false n e = refl

all_passed : (a b y u v : Outcome Unit) → a ≡ passed → b ≡ passed → y ≡ passed → u ≡ passed → v ≡ passed
    → or_else a (or_else b (or_else y (or_else u v))) ≡ passed
all_passed a b y u v ea eb ey eu ev = rw (ea, eb, ey, eu, ev)

-- the call of the quantiser in a guarded block
pub guard_call : (k : Component) (g : GuardedBlock) → (guard_of k g).call ≡ quant_of k g.call
unfolding guard_of
guard_call k g = refl

-- ---- a component that is run, past the early tests
module _ (g : GuardedBlock) (early : EarlyPassed g.call) (k : Component) (run : runs k g.call ≡ true) where
  pub block_accepted : late_of k g.call ≡ passed → quant_verdict (guard_of k g).call ≡ passed
  block_accepted e = ap quant_verdict (guard_call k g) ∙ quantiser_alone_is_late g.call early k run ∙ e

module _ (g : GuardedBlock) (ok : guarded_verdict g ≡ passed) where
  abbrev late : Outcome Unit
  late = first_refusal (λ k. guarded_late k g)

  groups : (verdict settings_faults g.call ≡ passed) × (or_else (verdict buffer_faults g.call) late ≡ passed)
  groups =
      both_accepted (verdict settings_faults g.call) (or_else (verdict buffer_faults g.call) late)
      (sym (guarded_verdict_in_groups g) ∙ ok)

  behind_settings : (verdict buffer_faults g.call ≡ passed) × (late ≡ passed)
  behind_settings = both_accepted (verdict buffer_faults g.call) late groups.1

  pub early_passed : EarlyPassed g.call
  early_passed = record { settings = groups.0; buffer = behind_settings.0 }

  both_late : (k : Component) → (late_of k g.call ≡ passed) × (height_of k g ≡ passed)
  both_late k =
      both_accepted (late_of k g.call) (height_of k g) (each_passed (λ k. guarded_late k g) behind_settings.1 k)

  pub late_passed : (k : Component) → late_of k g.call ≡ passed
  late_passed k = (both_late k).0

  -- the call without heights
  pub unguarded_accepted : sub_block_verdict g.call ≡ passed
  unguarded_accepted =
      verdict_in_groups g.call
      ∙ all_passed (verdict settings_faults g.call) (verdict buffer_faults g.call) (late_of Y g.call)
      (late_of U g.call) (late_of «V» g.call) groups.0 behind_settings.0 (late_passed Y) (late_passed U)
      (late_passed «V»)

  module _ (k : Component) (run : runs k g.call ≡ true) where
    pub quantiser_accepts : quant_verdict (guard_of k g).call ≡ passed
    quantiser_accepts = block_accepted g early_passed k run (late_passed k)

    pub one_fits : none_fits (guard_of k g) ≡ false
    one_fits =
        let n = none_fits (guard_of k g) in
        not_both (runs k g.call) n (not_refused (runs k g.call && n) (component_of k) (both_late k).1) run

    pub written_fits : fits (guard_of k g) (guarded (guard_of k g)) ≡ true
    written_fits = block.written_fits (guard_of k g) one_fits
