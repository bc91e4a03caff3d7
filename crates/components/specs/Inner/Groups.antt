-- The faults of the three-component call in the groups in which they are tested: sides and settings; costs, length and
-- residuals; and, of each component, what only its coefficients show. The call's list is these groups one after the
-- other (proofs/Late.antt), and a promise often asks only for the first two.
use Rattle.std.specs.Prelude.{◌≡◌, List, [], ◌∷◌}
use Rattle.refusals.specs.declared.Component.TheVariants.{Y, U, «V»}
use Rattle.refusals.specs.Faults.{Fault, passed, verdict}
use Rattle.transform.specs.Call as trans
use Rattle.coding.specs.Block.{Quant}
use Rattle.coding.specs.Call as quant
use Rattle.components.specs.Call.{SubBlock, side_fault, cost_fault, length_fault, in_trans, in_quant}

unfoldable pub settings_faults : List (Fault SubBlock)
unfolding side_fault in_quant quant.qp_fault quant.lambda_fault
settings_faults =
    side_fault
    ∷ in_quant Y quant.qp_fault
    ∷ in_quant U quant.qp_fault
    ∷ in_quant «V» quant.qp_fault
    ∷ in_quant Y quant.lambda_fault
    ∷ in_quant U quant.lambda_fault
    ∷ in_quant «V» quant.lambda_fault
    ∷ []

unfoldable pub buffer_faults : List (Fault SubBlock)
unfolding cost_fault length_fault in_trans trans.sample_fault
buffer_faults =
    cost_fault
    ∷ length_fault
    ∷ in_trans Y trans.sample_fault
    ∷ in_trans U trans.sample_fault
    ∷ in_trans «V» trans.sample_fault
    ∷ []

-- what only the coefficients show
unfoldable pub late_faults : List (Fault Quant)
unfolding quant.level_fault quant.price_fault quant.distortion_fault
late_faults = quant.level_fault ∷ quant.price_fault ∷ quant.distortion_fault ∷ []

-- no fault of the first two groups holds
pub record EarlyPassed (s : SubBlock) : Type 0 where
  pub settings : verdict settings_faults s ≡ passed
  pub buffer : verdict buffer_faults s ≡ passed
