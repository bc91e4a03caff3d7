-- What a request is answered by: the call that its fields ask for, made by the numbers that cross to C (`surface`), and
-- the answer line that shows what the call left: its result, its answer, its list, if it has one, and its buffer.
use Rattle.std.specs.Prelude.{true, false, cond, List, [], ◌∷◌, ℕ, eqb, Float, ℤ, get_or, take, drop}
use Rattle.std.specs.Prelude.{Option, Some, None}
use Rattle.std.specs.Float.{binary64}
use Rattle.std.specs.Float.Ieee.{of_bits}
use Rattle.refusals.specs.declared.Component.{Component}
use Rattle.refusals.specs.declared.Component.TheVariants.{Y, U, «V»}
use Rattle.refusals.specs.Faults.{Outcome}
use Rattle.runs.specs.Call.{Write, writing, write_answer, write_list, Read, reading, read_verdict, read_buffer}
use Rattle.transform.specs.Call.{Trans, trans_verdict, trans_buffer}
use Rattle.transform.specs.Call as trans
use Rattle.decoding.specs.Call.{ScaleBack, levels_lent, scale_verdict, scale_buffer}
use Rattle.decoding.specs.Call.{Inverse, coefficients_lent, inverse_verdict, inverse_buffer}
use Rattle.coding.specs.Block.{Quant}
use Rattle.coding.specs.Call.{quant_answer, quant_buffer}
use Rattle.components.specs.Call.{SubBlock, sub_block_answer, sub_block_buffer}
use Rattle.heights.specs.Call.{Measure, lent, measure_answer}
use Rattle.guarding.specs.Call.{GuardedBlock, guarded_answer, guarded_buffer}
use Rattle.surface.specs.Surface.{result_of, quant_asked, quant_written, three_asked, three_written}
use Rattle.surface.specs.Surface.{guarded_asked, guarded_written, measure_written, write_written}
use Rattle.verbs.specs.declared.Verb.{Verb}
use Rattle.verbs.specs.declared.Verb.TheVariants as verbs
use Rattle.replies.specs.Reply.{reply_text}

-- ---- the calls, by the fields of a request in the order of its line
abbrev pub component_by : ℕ → Component
component_by n = cond (eqb n 0) Y (cond (eqb n 1) U «V»)

-- an f64 by its bits
abbrev pub lambda_by : ℕ → Float
lambda_by bits = of_bits binary64 bits

-- the 28 costs from field i on
abbrev pub costs_from : ℕ → List ℕ → List ℕ
costs_from i f = take 28 (drop i f)

-- LOG2W LOG2H
abbrev pub trans_by : List ℕ → List ℤ → Trans
trans_by f samples = trans.called samples (get_or f 0 0) (get_or f 1 0)

-- COMPONENT LOG2 QP LAMBDA FLAGS, COSTS
abbrev pub quant_by : List ℕ → List ℤ → Quant
quant_by f samples =
    quant_asked (component_by (get_or f 0 0)) samples (get_or f 1 0) (get_or f 2 0) (lambda_by (get_or f 3 0))
    (get_or f 4 0) (costs_from 5 f)

-- LOG2 RUN, a QP and a LAMBDA each of Y, U and V, FLAGS, COSTS
abbrev pub qps_by : List ℕ → List ℕ
qps_by f = get_or f 2 0 ∷ get_or f 4 0 ∷ get_or f 6 0 ∷ []

abbrev pub lambdas_by : List ℕ → List Float
lambdas_by f = lambda_by (get_or f 3 0) ∷ lambda_by (get_or f 5 0) ∷ lambda_by (get_or f 7 0) ∷ []

abbrev pub three_by : List ℕ → List ℤ → SubBlock
three_by f samples =
    three_asked samples (get_or f 0 0) (qps_by f) (lambdas_by f) (get_or f 1 0) (get_or f 8 0) (costs_from 9 f)

-- LOG2 QP
abbrev pub scale_by : List ℕ → List ℤ → ScaleBack
scale_by f samples = levels_lent samples (get_or f 0 0) (get_or f 1 0)

-- LOG2W LOG2H
abbrev pub inverse_by : List ℕ → List ℤ → Inverse
inverse_by f samples = coefficients_lent samples (get_or f 0 0) (get_or f 1 0)

-- LOG2 RUN, a QP and a LAMBDA each of Y, U and V, FLAGS, six heights, COSTS
abbrev pub allowed_by : List ℕ → List ℕ
allowed_by f = get_or f 9 0 ∷ get_or f 10 0 ∷ get_or f 11 0 ∷ get_or f 12 0 ∷ get_or f 13 0 ∷ get_or f 14 0 ∷ []

abbrev pub guarded_by : List ℕ → List ℤ → GuardedBlock
guarded_by f samples =
    guarded_asked samples (get_or f 0 0) (qps_by f) (lambdas_by f) (get_or f 1 0) (get_or f 8 0)
    (costs_from 15 f) (allowed_by f)

-- LOG2 QP FLAGS RESIDUALS: so many of the samples are residuals, and those behind are levels
abbrev pub measure_by : List ℕ → List ℤ → Measure
measure_by f samples = lent (take (get_or f 3 0) samples) (drop (get_or f 3 0) samples) (get_or f 0 0) (get_or f 1 0)

-- LOG2, and a list: one to fill with the samples' symbols, or one whose symbols go into the samples
abbrev pub write_by : (f list : List ℕ) → List ℤ → Write
write_by f list samples = writing samples (get_or f 0 0) list

abbrev pub read_by : (f list : List ℕ) → List ℤ → Read
read_by f list samples = reading list samples (get_or f 0 0)

-- ---- the answer line
-- where the result is 0, `accepted` and numbers of the answer; else `refused`, the result and the component
abbrev pub shown : (result component : ℕ) → (numbers : List ℕ) → (list : Option (List ℕ)) → List ℤ → List ℕ
shown result component numbers list buffer =
    cond (eqb result 0) (reply_text true numbers list buffer) (reply_text false (result ∷ component ∷ []) list buffer)

-- no number where a call answers a verdict alone
abbrev pub verdict_text : Outcome Unit → (list : Option (List ℕ)) → List ℤ → List ℕ
verdict_text verdict list buffer = shown (result_of verdict) 0 [] list buffer

abbrev pub trans_text : Trans → List ℕ
trans_text t = verdict_text (trans_verdict t) None (trans_buffer t)

abbrev pub scale_text : ScaleBack → List ℕ
scale_text s = verdict_text (scale_verdict s) None (scale_buffer s)

abbrev pub inverse_text : Inverse → List ℕ
inverse_text t = verdict_text (inverse_verdict t) None (inverse_buffer t)

-- the count and the price
abbrev pub quant_text : Quant → List ℕ
quant_text c =
    let w = quant_written (quant_answer c) in
    shown (result_of (quant_answer c)) (get_or w 0 0) (get_or w 1 0 ∷ get_or w 2 0 ∷ []) None (quant_buffer c)

-- the count and the price of Y, of U, of V
abbrev pub three_text : SubBlock → List ℕ
three_text s =
    let w = three_written (sub_block_answer s) in
    shown (result_of (sub_block_answer s)) (get_or w 0 0)
    (get_or w 1 0 ∷ get_or w 4 0 ∷ get_or w 2 0 ∷ get_or w 5 0 ∷ get_or w 3 0 ∷ get_or w 6 0 ∷ [])
    None (sub_block_buffer s)

-- the count and the price of Y, of U, of V, how much darker each gets, how much lighter
abbrev pub guarded_numbers : List ℕ → List ℕ
guarded_numbers w =
    get_or w 1 0 ∷ get_or w 4 0 ∷ get_or w 2 0 ∷ get_or w 5 0 ∷ get_or w 3 0 ∷ get_or w 6 0
    ∷ get_or w 7 0 ∷ get_or w 8 0 ∷ get_or w 9 0 ∷ get_or w 10 0 ∷ get_or w 11 0 ∷ get_or w 12 0 ∷ []

abbrev pub guarded_text : GuardedBlock → List ℕ
guarded_text g =
    let w = guarded_written (guarded_answer g) in
    shown (result_of (guarded_answer g)) (get_or w 0 0) (guarded_numbers w) None (guarded_buffer g)

-- how much darker and how much lighter, and the samples as they were
abbrev pub measure_text : Measure → List ℤ → List ℕ
measure_text m samples =
    let w = measure_written (measure_answer m) in
    shown (result_of (measure_answer m)) 0 (get_or w 0 0 ∷ get_or w 1 0 ∷ []) None samples

-- how many symbols were written, the list as it was left, and the samples as they were
abbrev pub write_text : Write → List ℕ
write_text w =
    let n = write_written (write_answer w) in
    shown (result_of (write_answer w)) 0 (get_or n 0 0 ∷ []) (Some (write_list w)) w.buffer

-- the list as it was
abbrev pub read_text : Read → List ℕ
read_text r = verdict_text (read_verdict r) (Some r.list) (read_buffer r)

-- what a verb with its fields, its list and its samples is answered by
unfoldable pub answered : Verb → (f list : List ℕ) → List ℤ → List ℕ
unfolding reply_text
answered verbs.Transform f list samples = trans_text (trans_by f samples)
answered verbs.Quantise f list samples = quant_text (quant_by f samples)
answered verbs.SubBlock f list samples = three_text (three_by f samples)
answered verbs.ScaleBack f list samples = scale_text (scale_by f samples)
answered verbs.Inverse f list samples = inverse_text (inverse_by f samples)
answered verbs.Guarded f list samples = guarded_text (guarded_by f samples)
answered verbs.Measure f list samples = measure_text (measure_by f samples) samples
answered verbs.Write f list samples = write_text (write_by f list samples)
answered verbs.Read f list samples = read_text (read_by f list samples)
