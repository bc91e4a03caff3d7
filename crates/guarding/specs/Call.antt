-- `guarded_sub_block`: its faults in order, its answer, and what its buffer then holds, as functions of all its inputs.
-- Its faults are those of the three-component call, in their order, and behind those of each component's coefficients
-- that none of its candidates fits.
use Rattle.std.specs.Prelude.{◌&&◌, cond, List, [], ◌∷◌, ◌++◌, ℕ, ◌+◌, drop, ℤ, Result}
use Rattle.refusals.specs.declared.Refused.{Refused}
use Rattle.refusals.specs.declared.Three.{Three}
use Rattle.refusals.specs.Three.{part_of}
use Rattle.refusals.specs.declared.Component.{Component}
use Rattle.refusals.specs.declared.Component.TheVariants.{Y, U, «V»}
use Rattle.refusals.specs.declared.Refusal.TheVariants.{Height}
use Rattle.refusals.specs.Faults.{Fault, Outcome, accepted, verdict, answering, if_accepted, outcome_by}
use Rattle.tables.specs.Scales.{back}
use Rattle.transform.specs.Call as trans
use Rattle.price.specs.declared.Costs.{Costs}
use Rattle.coding.specs.Call as quant
use Rattle.components.specs.declared.Request.{Request}
use Rattle.components.specs.Call.{SubBlock, requested, runs, area, start, stretch, quant_of, in_trans, in_quant}
use Rattle.components.specs.Call as three
use Rattle.heights.specs.declared.Heights.{Heights}
use Rattle.guarding.specs.declared.Guarded.{Guarded}
use Rattle.guarding.specs.Block.{Guard, none_fits, reported, guarded_levels}

-- the inputs: those of the three-component call, the row of scales by which a viewer scales back, the heights
pub record GuardedBlock : Type 0 where
  pub call : SubBlock
  pub row : List ℕ
  pub heights : Three Heights

-- a call with one log2 side, by what it is lent and asked; it has the row of ticket 6
unfoldable pub guarded_request : List ℤ → Costs → Request → Three Heights → GuardedBlock
unfolding requested back
guarded_request buffer t q h = record { call = requested buffer t q; row = back; heights = h }

abbrev pub heights_of : Component → Three Heights → Heights
heights_of = part_of

-- the block of a component
unfoldable pub guard_of : Component → GuardedBlock → Guard
unfolding quant_of stretch
guard_of k g =
    record {
      call = quant_of k g.call;
      residuals = stretch k g.call;
      row = g.row;
      heights = heights_of k g.heights;
    }

-- ---- the faults
-- a fault of the three-component call
abbrev pub asked : Fault SubBlock → Fault GuardedBlock
asked f =
    record { refusal = f.refusal; component = λ g. f.component g.call; holds = λ g. f.holds g.call }

-- 15 HEIGHT: no candidate of a component fits, asked only if the component is run
unfoldable pub height_fault : Component → Fault GuardedBlock
unfolding runs none_fits guard_of
height_fault k =
    record { refusal = Height; component = λ g. k; holds = λ g. runs k g.call && none_fits (guard_of k g) }

unfoldable pub guarded_faults : List (Fault GuardedBlock)
unfolding three.side_fault three.cost_fault three.length_fault in_trans in_quant trans.sample_fault quant.qp_fault
    quant.lambda_fault quant.level_fault quant.price_fault quant.distortion_fault height_fault
guarded_faults =
    asked three.side_fault
    ∷ asked (in_quant Y quant.qp_fault)
    ∷ asked (in_quant U quant.qp_fault)
    ∷ asked (in_quant «V» quant.qp_fault)
    ∷ asked (in_quant Y quant.lambda_fault)
    ∷ asked (in_quant U quant.lambda_fault)
    ∷ asked (in_quant «V» quant.lambda_fault)
    ∷ asked three.cost_fault
    ∷ asked three.length_fault
    ∷ asked (in_trans Y trans.sample_fault)
    ∷ asked (in_trans U trans.sample_fault)
    ∷ asked (in_trans «V» trans.sample_fault)
    ∷ asked (in_quant Y quant.level_fault)
    ∷ asked (in_quant Y quant.price_fault)
    ∷ asked (in_quant Y quant.distortion_fault)
    ∷ height_fault Y
    ∷ asked (in_quant U quant.level_fault)
    ∷ asked (in_quant U quant.price_fault)
    ∷ asked (in_quant U quant.distortion_fault)
    ∷ height_fault U
    ∷ asked (in_quant «V» quant.level_fault)
    ∷ asked (in_quant «V» quant.price_fault)
    ∷ asked (in_quant «V» quant.distortion_fault)
    ∷ height_fault «V»
    ∷ []

unfoldable pub guarded_verdict : GuardedBlock → Outcome Unit
unfolding guarded_faults verdict
guarded_verdict g = verdict guarded_faults g

-- ---- the answer, and what code answers by the paper's numbers
-- 0 throughout for a component not run
abbrev pub nothing : Guarded
nothing = record { count = 0; price = 0; darker = 0; lighter = 0 }

unfoldable pub share : Component → GuardedBlock → Guarded
unfolding runs reported guard_of
share k g = let a = reported (guard_of k g) in cond (runs k g.call) a nothing

-- what was coded of each
abbrev pub Shares : Type 0
Shares = Three Guarded

abbrev pub coded : (y u v : Guarded) → Outcome Shares
coded y u v = accepted (record { y = y; u = u; v = v })

unfoldable pub guarded_answer : GuardedBlock → Outcome Shares
unfolding guarded_verdict share
guarded_answer g =
    let a : Shares = record { y = share Y g; u = share U g; v = share «V» g } in
    answering (guarded_verdict g) a

abbrev pub guarded_outcome : Result Shares Refused → Outcome Shares
guarded_outcome = outcome_by (λ shares. shares)

-- ---- the buffer
-- what a component's stretch then holds; one not run keeps its residuals
unfoldable pub levels : Component → GuardedBlock → List ℤ
unfolding runs guarded_levels guard_of stretch
levels k g = let c = guarded_levels (guard_of k g) in cond (runs k g.call) c (stretch k g.call)

-- the three stretches and the surplus
unfoldable pub coded_buffer : GuardedBlock → List ℤ
unfolding levels start area
coded_buffer g =
    let s = g.call in
    levels Y g ++ (levels U g ++ (levels «V» g ++ drop (start «V» s + area «V» s) s.buffer))

unfoldable pub guarded_buffer : GuardedBlock → List ℤ
unfolding guarded_verdict coded_buffer
guarded_buffer g = let after = coded_buffer g in if_accepted (guarded_verdict g) after g.call.buffer
