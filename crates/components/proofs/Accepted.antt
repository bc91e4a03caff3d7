-- What the three-component call says of its inputs: past its early tests no fault of sides, settings, costs, length or
-- residuals holds, and an accepted one shows no fault of any component's coefficients either.
use mathlib.Core.Path.{◌≡◌, sym, ◌∙◌}
use mathlib.Core.Bool.{true, false}
use Prim.Native.Nat.{◌*◌, ◌/◌, ◌≤◌}
use borrow.Author.Tests.{ltb-false}
use lib.Dec.{ltb}
use lib.ListN.{length}
use Rattle.integers.specs.Tests.{some}
use Rattle.integers.proofs.Tests.{neither, not_both}
use Rattle.refusals.specs.declared.Component.{Component}
use Rattle.refusals.specs.declared.Component.TheVariants.{Y}
use Rattle.refusals.specs.Sides.{most_log2}
use Rattle.refusals.specs.Faults.{outside, Outcome, passed, verdict}
use Rattle.refusals.proofs.First.{None, head_fails, rest_fails, no_fault_if_accepted, inside, or_else, both_accepted}
use Rattle.transform.specs.Call.{wild, sample_fault}
use Rattle.price.specs.Lambda.{lambda_refused}
use Rattle.price.specs.Costs.{cost_refused}
use Rattle.components.specs.Call.{SubBlock, runs, settings_of, area, stretch, quant_on, quant_of, side_fault}
use Rattle.components.specs.Call.{cost_fault}
use Rattle.components.specs.Call.{length_fault, in_trans, in_quant, sub_block_verdict}
use Rattle.components.specs.Inner.Groups.{settings_faults, buffer_faults, EarlyPassed}
use Rattle.components.proofs.Blocks.{sample_of_stretch}
use Rattle.components.proofs.Late.{late_of, verdict_in_groups}
use Rattle.components.proofs.Turns.{each_fails, behind_the_three, first_refusal, each_passed}
use Rattle.coding.specs.Call.{qp_fault, lambda_fault}

-- ---- the early tests: settings and residuals are those of what is run
module _ (s : SubBlock) (e : verdict settings_faults s ≡ passed) where
  f₁ : None s settings_faults
  f₁ = no_fault_if_accepted s settings_faults e

  pub sides_fine : ((2 ≤ s.lw) × (s.lw ≤ most_log2)) × ((2 ≤ s.lh) × (s.lh ≤ most_log2))
  unfolding settings_faults side_fault
  sides_fine =
      let n = neither (outside 2 most_log2 s.lw) (outside 2 most_log2 s.lh) (head_fails s f₁) in
      (inside 2 most_log2 s.lw n.0, inside 2 most_log2 s.lh n.1)

  pub qp_fine : (k : Component) → runs k s ≡ true → ltb 63 (settings_of k s).qp ≡ false
  unfolding settings_faults in_quant qp_fault lambda_fault quant_of quant_on
  qp_fine k = not_both (runs k s) (ltb 63 (settings_of k s).qp) (each_fails s (λ k. in_quant k qp_fault) (rest_fails s f₁) k)

  pub lambda_fine : (k : Component) → runs k s ≡ true → lambda_refused (settings_of k s).lambda ≡ false
  unfolding settings_faults in_quant qp_fault lambda_fault quant_of quant_on
  lambda_fine k =
      not_both (runs k s) (lambda_refused (settings_of k s).lambda)
      (each_fails s (λ k. in_quant k lambda_fault) (behind_the_three s (λ k. in_quant k qp_fault) (rest_fails s f₁)) k)

module _ (s : SubBlock) (e : verdict buffer_faults s ≡ passed) where
  g₁ : None s buffer_faults
  g₁ = no_fault_if_accepted s buffer_faults e

  pub costs_fine : cost_refused s.costs ≡ false
  unfolding buffer_faults cost_fault
  costs_fine = head_fails s g₁

  pub long_enough : area Y s * 3 / 2 ≤ length s.buffer
  unfolding buffer_faults length_fault
  long_enough = ltb-false (length s.buffer) (area Y s * 3 / 2) (head_fails s (rest_fails s g₁))

  pub residuals_tame : (k : Component) → runs k s ≡ true → some wild (stretch k s) ≡ false
  unfolding buffer_faults
  residuals_tame k =
      not_both (runs k s) (some wild (stretch k s))
      (sym (sample_of_stretch k s) ∙ each_fails s (λ k. in_trans k sample_fault) (rest_fails s (rest_fails s g₁)) k)

-- ---- an accepted call passes the groups of its tests one by one
module _ (s : SubBlock) (ok : sub_block_verdict s ≡ passed) where
  abbrev late : Outcome Unit
  late = first_refusal (λ k. late_of k s)

  groups : (verdict settings_faults s ≡ passed) × (or_else (verdict buffer_faults s) late ≡ passed)
  groups = both_accepted (verdict settings_faults s) (or_else (verdict buffer_faults s) late) (sym (verdict_in_groups s)
      ∙ ok)

  behind_settings : (verdict buffer_faults s ≡ passed) × (late ≡ passed)
  behind_settings = both_accepted (verdict buffer_faults s) late groups.1

  pub early_passed : EarlyPassed s
  early_passed = record { settings = groups.0; buffer = behind_settings.0 }

  pub late_passed : (k : Component) → late_of k s ≡ passed
  late_passed = each_passed (λ k. late_of k s) behind_settings.1
