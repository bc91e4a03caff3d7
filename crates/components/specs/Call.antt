-- `sub_block_tq`: its faults in order, its answer, and what its buffer then holds, as functions of all its inputs. Each
-- component is a stretch of the one buffer; what is done to it is what the transform and the quantiser alone do.
use Rattle.std.specs.Prelude.{Bool, ◌&&◌, ◌||◌, cond, List, [], ◌∷◌, ◌++◌, ℕ, ◌+◌, ◌-◌, ◌*◌, ◌/◌, ◌%◌, ◌^◌, ltb, eqb, length, take, drop, ℤ, Result}
use Rattle.refusals.specs.declared.Refused.{Refused}
use Rattle.refusals.specs.declared.Three.{Three}
use Rattle.refusals.specs.Three.{part_of}
use Rattle.refusals.specs.declared.Component.{Component}
use Rattle.refusals.specs.declared.Component.TheVariants.{Y, U, «V»}
use Rattle.refusals.specs.declared.Refusal.TheVariants.{Side, Cost, Length}
use Rattle.refusals.specs.Numbers.{component_of}
use Rattle.refusals.specs.Sides.{most_log2}
use Rattle.refusals.specs.Faults.{Fault, of_none, outside, Outcome, accepted, verdict, answering, if_accepted, outcome_by}
use Rattle.transform.specs.Coefficients.{coefficients}
use Rattle.transform.specs.Call.{Trans}
use Rattle.transform.specs.Call as trans
use Rattle.price.specs.declared.Settings.{Settings}
use Rattle.price.specs.declared.Costs.{Costs}
use Rattle.price.specs.Costs.{cost_refused}
use Rattle.coding.specs.declared.Mode.{Mode}
use Rattle.coding.specs.declared.Coded.{Coded}
use Rattle.coding.specs.Block.{Fixed, document01, Quant, count_of, price_of, quantised}
use Rattle.coding.specs.Call as quant
use Rattle.components.specs.declared.Request.{Request}

-- the inputs: the buffer, luma's log2 sides, each component's settings, the run mask, and what all three share; then
-- the mode and what document 01 fixes, as of the quantiser's call
pub record SubBlock : Type 0 where
  pub buffer : List ℤ
  pub lw : ℕ
  pub lh : ℕ
  pub settings : Three Settings
  pub run : ℕ
  pub intra_slice : Bool
  pub intra_coded : Bool
  pub costs : Costs
  pub mode : Mode
  pub fixed : Fixed

-- a call with one log2 side, by what it is lent and its request
unfoldable pub requested : List ℤ → Costs → Request → SubBlock
unfolding document01
requested buffer t q =
    record {
      buffer = buffer;
      lw = q.log2_luma;
      lh = q.log2_luma;
      settings = q.settings;
      run = q.run;
      intra_slice = q.intra_slice;
      intra_coded = q.intra_coded;
      costs = t;
      mode = q.mode;
      fixed = document01;
    }

-- ---- the components
-- bits 0, 1, 2 of the run mask are for Y, U, V; other bits mean nothing
unfoldable pub bit : Component → ℕ → Bool
bit k run = eqb (run / 2 ^ component_of k % 2) 1

unfoldable pub runs : Component → SubBlock → Bool
unfolding bit
runs k s = bit k s.run

abbrev pub settings_of : Component → SubBlock → Settings
settings_of k s = part_of k s.settings

-- a component's log2 side, by luma's: chroma's is one less
abbrev pub log2_of : Component → ℕ → ℕ
log2_of Y l = l
log2_of U l = l - 1
log2_of «V» l = l - 1

-- its block's places, and where its stretch starts
unfoldable pub area : Component → SubBlock → ℕ
area k s = 2 ^ log2_of k s.lw * 2 ^ log2_of k s.lh

unfoldable pub start : Component → SubBlock → ℕ
unfolding area
start Y s = 0
start U s = area Y s
start «V» s = area Y s + area U s

unfoldable pub stretch : Component → SubBlock → List ℤ
unfolding area start
stretch k s = take (area k s) (drop (start k s) s.buffer)

-- the transform of a stretch, the quantiser's call on a buffer, and that on the stretch's coefficients
unfoldable pub trans_of : Component → SubBlock → Trans
unfolding stretch
trans_of k s = record { buffer = stretch k s; lw = log2_of k s.lw; lh = log2_of k s.lh }

unfoldable pub quant_on : Component → SubBlock → List ℤ → Quant
quant_on k s buffer =
    record {
      buffer = buffer;
      lw = log2_of k s.lw;
      lh = log2_of k s.lh;
      component = k;
      settings = settings_of k s;
      intra_slice = s.intra_slice;
      intra_coded = s.intra_coded;
      costs = s.costs;
      mode = s.mode;
      fixed = s.fixed;
    }

unfoldable pub quant_of : Component → SubBlock → Quant
unfolding trans_of coefficients quant_on
quant_of k s = let t = trans_of k s in quant_on k s (coefficients t.buffer t.lw t.lh)

-- ---- the faults
unfoldable pub side_fault : Fault SubBlock
side_fault =
    record {
      refusal = Side;
      component = of_none;
      holds = λ s. outside 2 most_log2 s.lw || outside 2 most_log2 s.lh;
    }

-- every entry is read, whatever runs
unfoldable pub cost_fault : Fault SubBlock
unfolding cost_refused
cost_fault = record { refusal = Cost; component = of_none; holds = λ s. cost_refused s.costs }

-- three components need 3/2 of the luma block, whichever run
unfoldable pub length_fault : Fault SubBlock
unfolding area
length_fault = record { refusal = Length; component = of_none; holds = λ s. ltb (length s.buffer) (area Y s * 3 / 2) }

-- a fault of a component's transform or of its quantiser, asked only if the component is run
unfoldable pub in_trans : Component → Fault Trans → Fault SubBlock
unfolding runs trans_of
in_trans k f = record { refusal = f.refusal; component = λ s. k; holds = λ s. runs k s && f.holds (trans_of k s) }

unfoldable pub in_quant : Component → Fault Quant → Fault SubBlock
unfolding runs quant_of
in_quant k f = record { refusal = f.refusal; component = λ s. k; holds = λ s. runs k s && f.holds (quant_of k s) }

unfoldable pub sub_block_faults : List (Fault SubBlock)
unfolding side_fault cost_fault length_fault in_trans in_quant trans.sample_fault quant.qp_fault quant.lambda_fault
    quant.level_fault quant.price_fault quant.distortion_fault
sub_block_faults =
    side_fault
    ∷ in_quant Y quant.qp_fault
    ∷ in_quant U quant.qp_fault
    ∷ in_quant «V» quant.qp_fault
    ∷ in_quant Y quant.lambda_fault
    ∷ in_quant U quant.lambda_fault
    ∷ in_quant «V» quant.lambda_fault
    ∷ cost_fault
    ∷ length_fault
    ∷ in_trans Y trans.sample_fault
    ∷ in_trans U trans.sample_fault
    ∷ in_trans «V» trans.sample_fault
    ∷ in_quant Y quant.level_fault
    ∷ in_quant Y quant.price_fault
    ∷ in_quant Y quant.distortion_fault
    ∷ in_quant U quant.level_fault
    ∷ in_quant U quant.price_fault
    ∷ in_quant U quant.distortion_fault
    ∷ in_quant «V» quant.level_fault
    ∷ in_quant «V» quant.price_fault
    ∷ in_quant «V» quant.distortion_fault
    ∷ []

unfoldable pub sub_block_verdict : SubBlock → Outcome Unit
unfolding sub_block_faults verdict
sub_block_verdict s = verdict sub_block_faults s

-- ---- the answer, and what code answers by the paper's numbers
-- 0 and 0 for a component not run
unfoldable pub count : Component → SubBlock → ℕ
unfolding runs count_of quant_of
count k s = let n = count_of (quant_of k s) in cond (runs k s) n 0

unfoldable pub price : Component → SubBlock → ℕ
unfolding runs price_of quant_of
price k s = let n = price_of (quant_of k s) in cond (runs k s) n 0

unfoldable pub share : Component → SubBlock → Coded
unfolding count price
share k s = record { count = count k s; price = price k s }

-- what was coded of each
abbrev pub Shares : Type 0
Shares = Three Coded

abbrev pub coded : (y u v : Coded) → Outcome Shares
coded y u v = accepted (record { y = y; u = u; v = v })

unfoldable pub sub_block_answer : SubBlock → Outcome Shares
unfolding sub_block_verdict share
sub_block_answer s =
    let a : Shares = record { y = share Y s; u = share U s; v = share «V» s } in
    answering (sub_block_verdict s) a

abbrev pub sub_block_outcome : Result Shares Refused → Outcome Shares
sub_block_outcome = outcome_by (λ shares. shares)

-- ---- the buffer
-- what a component's stretch then holds; one not run keeps its residuals
unfoldable pub levels : Component → SubBlock → List ℤ
unfolding runs quantised quant_of stretch
levels k s = let c = quantised (quant_of k s) in cond (runs k s) c (stretch k s)

-- the three stretches and the surplus
unfoldable pub coded_buffer : SubBlock → List ℤ
unfolding levels start area
coded_buffer s = levels Y s ++ (levels U s ++ (levels «V» s ++ drop (start «V» s + area «V» s) s.buffer))

unfoldable pub sub_block_buffer : SubBlock → List ℤ
unfolding sub_block_verdict coded_buffer
sub_block_buffer s = let after = coded_buffer s in if_accepted (sub_block_verdict s) after s.buffer
