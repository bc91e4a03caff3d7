-- The calls over flat numbers, as they cross to C and Rust: which call the numbers ask for, and what it leaves. A
-- call's result is 0 for accepted, else the refusal's number; its answer is written in either case.
use Rattle.std.specs.Prelude.{◌≡◌, Bool, cond, List, [], ◌∷◌, ℕ, ◌+◌, ◌/◌, ◌%◌, eqb, Float, ℤ, get_or}
use Rattle.std.specs.Float.{nan}
use Rattle.refusals.specs.declared.Component.{Component}
use Rattle.refusals.specs.Faults.{Outcome, accepted, refused}
use Rattle.runs.specs.Call.{Write, write_answer, write_list, Read, read_verdict, read_buffer}
use Rattle.transform.specs.Call.{Trans, trans_verdict, trans_buffer}
use Rattle.decoding.specs.Call.{ScaleBack, scale_verdict, scale_buffer, Inverse, inverse_verdict, inverse_buffer}
use Rattle.price.specs.declared.Settings.{Settings}
use Rattle.price.specs.Costs.{costs_of}
use Rattle.coding.specs.declared.Coded.{Coded}
use Rattle.coding.specs.declared.Coding.{Coding}
use Rattle.coding.specs.declared.Mode.{Mode}
use Rattle.coding.specs.declared.Mode.TheVariants.{Walk, Least}
use Rattle.coding.specs.Block.{Quant, called}
use Rattle.coding.specs.Call.{quant_answer, quant_buffer}
use Rattle.components.specs.declared.Request.{Request}
use Rattle.components.specs.Call.{SubBlock, requested, Shares, sub_block_answer, sub_block_buffer}
use Rattle.heights.specs.declared.Extremes.{Extremes}
use Rattle.heights.specs.declared.Heights.{Heights}
use Rattle.heights.specs.Call.{Measure, measure_answer}
use Rattle.refusals.specs.declared.Three.{Three}
use Rattle.guarding.specs.Call.{GuardedBlock, guarded_request, guarded_answer, guarded_buffer}
use Rattle.guarding.specs.Call as guarding

-- a call's result
abbrev pub result_of : {A : Type 0} → Outcome A → ℕ
result_of (accepted a) = 0
result_of (refused number component) = number

-- ---- flags: bit 0 for an intra slice, bit 1 for an intra-coded block, bit 2 for the cheapest block of all instead of
-- the walk's; other bits mean nothing
abbrev pub slice_in : ℕ → Bool
slice_in flags = eqb (flags % 2) 1

abbrev pub coded_in : ℕ → Bool
coded_in flags = eqb (flags / 2 % 2) 1

abbrev pub mode_in : ℕ → Mode
mode_in flags = cond (eqb (flags / 4 % 2) 1) Least Walk

-- ---- the transform, scaling back, the inverse transform and the reader of symbols, which answer a verdict alone:
-- their result and their block, by the call's verdict and what it leaves
pub record VerdictLeft (verdict : Outcome Unit) (buffer : List ℤ) (r : ℕ) (block : List ℤ) : Type 0 where
  pub result : r ≡ result_of verdict
  pub left : block ≡ buffer

abbrev pub TransLeft : Trans → (r : ℕ) → (block : List ℤ) → Type 0
TransLeft t r block = VerdictLeft (trans_verdict t) (trans_buffer t) r block

abbrev pub ScaleLeft : ScaleBack → (r : ℕ) → (block : List ℤ) → Type 0
ScaleLeft s r block = VerdictLeft (scale_verdict s) (scale_buffer s) r block

abbrev pub InverseLeft : Inverse → (r : ℕ) → (block : List ℤ) → Type 0
InverseLeft t r block = VerdictLeft (inverse_verdict t) (inverse_buffer t) r block

abbrev pub ReadLeft : Read → (r : ℕ) → (block : List ℤ) → Type 0
ReadLeft c r block = VerdictLeft (read_verdict c) (read_buffer c) r block

-- ---- the quantiser
abbrev pub coding_by : Component → (log2 qp : ℕ) → Float → (flags : ℕ) → Coding
coding_by k log2 qp lambda flags =
    record {
      log2 = log2;
      component = k;
      settings = record { qp = qp; lambda = lambda };
      intra_slice = slice_in flags;
      intra_coded = coded_in flags;
      mode = mode_in flags;
    }

-- its call, by the 28 numbers of the cost tables
abbrev pub quant_asked : Component → List ℤ → (log2 qp : ℕ) → Float → (flags : ℕ) → List ℕ → Quant
quant_asked k block log2 qp lambda flags costs = called block (costs_of costs) (coding_by k log2 qp lambda flags)

-- its answer: the component, the count, the price
abbrev pub quant_written : Outcome Coded → List ℕ
quant_written (accepted a) = 0 ∷ a.count ∷ a.price ∷ []
quant_written (refused number component) = component ∷ 0 ∷ 0 ∷ []

-- what it leaves: result, answer and block
pub record QuantLeft (c : Quant) (r : ℕ) (answer : List ℕ) (block : List ℤ) : Type 0 where
  pub result : r ≡ result_of (quant_answer c)
  pub written : answer ≡ quant_written (quant_answer c)
  pub left : block ≡ quant_buffer c

-- ---- the three-component call: QPs and lambdas of Y, U, V
abbrev pub settings_in : List ℕ → List Float → ℕ → Settings
settings_in qp lambda k = record { qp = get_or qp k 0; lambda = get_or lambda k nan }

abbrev pub request_by : (log2 : ℕ) → List ℕ → List Float → (run flags : ℕ) → Request
request_by log2 qp lambda run flags =
    record {
      log2_luma = log2;
      settings = record { y = settings_in qp lambda 0; u = settings_in qp lambda 1; v = settings_in qp lambda 2 };
      run = run;
      intra_slice = slice_in flags;
      intra_coded = coded_in flags;
      mode = mode_in flags;
    }

abbrev pub three_asked : List ℤ → (log2 : ℕ) → List ℕ → List Float → (run flags : ℕ) → List ℕ → SubBlock
three_asked buffer log2 qp lambda run flags costs =
    requested buffer (costs_of costs) (request_by log2 qp lambda run flags)

-- its answer: the component, the counts of Y, U, V, their prices
abbrev pub three_written : Outcome Shares → List ℕ
three_written (accepted a) =
    0 ∷ a.y.count ∷ a.u.count ∷ a.v.count ∷ a.y.price ∷ a.u.price ∷ a.v.price ∷ []
three_written (refused number component) = component ∷ 0 ∷ 0 ∷ 0 ∷ 0 ∷ 0 ∷ 0 ∷ []

-- what it leaves: result, answer and buffer
pub record ThreeLeft (s : SubBlock) (r : ℕ) (answer : List ℕ) (buffer : List ℤ) : Type 0 where
  pub result : r ≡ result_of (sub_block_answer s)
  pub written : answer ≡ three_written (sub_block_answer s)
  pub left : buffer ≡ sub_block_buffer s

-- ---- the guarded call: that of three components, and six heights, of Y, U, V darker, then of Y, U, V lighter
abbrev pub heights_in : List ℕ → ℕ → Heights
heights_in heights k = record { darker = get_or heights k 0; lighter = get_or heights (3 + k) 0 }

abbrev pub heights_by : List ℕ → Three Heights
heights_by heights = record { y = heights_in heights 0; u = heights_in heights 1; v = heights_in heights 2 }

abbrev pub guarded_asked : List ℤ → (log2 : ℕ) → List ℕ → List Float → (run flags : ℕ) → (costs heights : List ℕ)
    → GuardedBlock
guarded_asked buffer log2 qp lambda run flags costs heights =
    guarded_request buffer (costs_of costs) (request_by log2 qp lambda run flags) (heights_by heights)

-- its answer: the component, the counts of Y, U, V, their prices, how much darker they get, how much lighter
abbrev pub guarded_written : Outcome guarding.Shares → List ℕ
guarded_written (accepted a) =
    0 ∷ a.y.count ∷ a.u.count ∷ a.v.count ∷ a.y.price ∷ a.u.price ∷ a.v.price
    ∷ a.y.darker ∷ a.u.darker ∷ a.v.darker ∷ a.y.lighter ∷ a.u.lighter ∷ a.v.lighter ∷ []
guarded_written (refused number component) =
    component ∷ 0 ∷ 0 ∷ 0 ∷ 0 ∷ 0 ∷ 0 ∷ 0 ∷ 0 ∷ 0 ∷ 0 ∷ 0 ∷ 0 ∷ []

-- what it leaves: result, answer and buffer
pub record GuardedLeft (g : GuardedBlock) (r : ℕ) (answer : List ℕ) (buffer : List ℤ) : Type 0 where
  pub result : r ≡ result_of (guarded_answer g)
  pub written : answer ≡ guarded_written (guarded_answer g)
  pub left : buffer ≡ guarded_buffer g

-- ---- `measure`, which writes no sample: its answer is how much darker and how much lighter
abbrev pub measure_written : Outcome Extremes → List ℕ
measure_written (accepted e) = e.darker ∷ e.lighter ∷ []
measure_written (refused number component) = 0 ∷ 0 ∷ []

-- what it leaves: result and answer
pub record MeasureLeft (m : Measure) (r : ℕ) (answer : List ℕ) : Type 0 where
  pub result : r ≡ result_of (measure_answer m)
  pub written : answer ≡ measure_written (measure_answer m)

-- ---- the writer of symbols: its answer is how many it wrote
abbrev pub write_written : Outcome ℕ → List ℕ
write_written (accepted count) = count ∷ []
write_written (refused number component) = 0 ∷ []

-- what it leaves: result, answer and list
pub record WriteLeft (w : Write) (r : ℕ) (answer list : List ℕ) : Type 0 where
  pub result : r ≡ result_of (write_answer w)
  pub written : answer ≡ write_written (write_answer w)
  pub left : list ≡ write_list w
