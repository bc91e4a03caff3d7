-- `calls::call_guarded` meets its contract: what the export left, shown.
use mathlib.Core.Path.{ap, ◌∙◌}
use mathlib.Core.List.{List}
use Prim.Native.Nat.{ℕ}
use native.Mathlib.Omega.{arith}
use lib.Ieee.{Float}
use lib.ListN.{get_or}
use Rattle.guarding.specs.Call.{GuardedBlock}
use Rattle.surface.specs.Surface.{guarded_asked}
use Rattle.calls.specs.Calls.{qps_by, lambdas_by, costs_from, guarded_numbers, guarded_text}
use Rattle.calls.proofs.Shown.{replied, guarded_shown}
use Rattle.calls.proofs.call_guarded.Goals as goal

pub returns : goal.returns
returns c =
    let f = c.args.fields.now in
    let asked : List ℕ → List Float → List ℕ → List ℕ → GuardedBlock = λ qp lambda costs heights.
    guarded_asked c.args.room.now (get_or f 0 0) qp lambda (get_or f 1 0) (get_or f 8 0) costs heights in
    let qp = c.qps_of-qp in
    let lambda = c.lambdas_of-lambda in
    let costs = c.costs_from-costs in
    let heights = c.heights_in-heights in
    let call = c.galemosu_guarded_sub_block-result in
    let w = call.new.answer in
    replied call.result (get_or w 0 0) 12 (guarded_numbers w) _ _ call.new.buffer _ _ c.reply_guarded.ensures
    (omega arith) call.auto.buffer
    (guarded_shown (asked qp.result lambda.result costs.result heights.result) _ _ _ call.ensures
    ∙ ap (λ (q : List ℕ). guarded_text (asked q lambda.result costs.result heights.result)) qp.ensures
    ∙ ap (λ (l : List Float). guarded_text (asked (qps_by f) l costs.result heights.result)) lambda.ensures
    ∙ ap (λ (l : List ℕ). guarded_text (asked (qps_by f) (lambdas_by f) l heights.result)) costs.ensures
    ∙ ap (λ (l : List ℕ). guarded_text (asked (qps_by f) (lambdas_by f) (costs_from 15 f) l)) heights.ensures)
