-- 1 to 5 in order, then the block in its part of the buffer.
use mathlib.Core.Path.{◌≡◌, refl, sym, ap, ◌∙◌}
use mathlib.Core.List.{List, ◌++◌}
use Prim.Native.Nat.{ℕ, ◌*◌, ◌^◌, ◌≤◌}
use native.Mathlib.Omega.{arith}
use lib.ListN.{length, take, drop}
use lib.IntN.{ℤ}
use Rattle.price.specs.Costs.{costs_of}
use Rattle.coding.specs.Block.{Quant, called}
use Rattle.coding.specs.Call.{quant_answer, quant_buffer}
use Rattle.coding.proofs.Surplus.{surplus_untested, surplus_carried}
use Rattle.quantise.proofs.Refusing.{side_said, qp_said, lambda_said, cost_said, length_said}
use Rattle.std.proofs.Common.{rules}
use Rattle.std.proofs.lemmas.Result.{err_from_is_err_and}
use Rattle.std.specs.Prelude.{Result, Ok, Err, MatchResult, IsErrAnd}
use Rattle.refusals.specs.declared.Refusal.{Refusal}
use Rattle.refusals.specs.declared.Refused.{Refused}
use Rattle.refusals.specs.declared.Component.{Component}
use Rattle.refusals.specs.Faults.{of_whole}
use Rattle.coding.specs.declared.Coded.{Coded}
use Rattle.coding.specs.Call.{quant_outcome}
use Rattle.quantise.specs.Inner.Early.{outcome_in}
use Rattle.quantise.proofs.quant_nnz.Goals as goal

pub returns-in_err-side : goal.returns-in_err-side
returns-in_err-side c =
    let p = err_from_is_err_and c.from_residual.result c.from_residual.ensures.1 in
    let a = side_said c.args.block.now (costs_of c.args.costs.now) c.args.coding c.in_err-side.ensures.1 p.0
    (p.2 ∙ ap of_whole c.in_err-side.ensures.0) in
    record { answer = rw p.1 a.0; buffer = a.1 }

pub returns-then-settings-gt-MOST_QP : goal.returns-then-settings-gt-MOST_QP
returns-then-settings-gt-MOST_QP c =
    let a = qp_said c.args.block.now (costs_of c.args.costs.now) c.args.coding
    c.in_ok-side.ensures.1 c.if-settings-gt-MOST_QP.true in
    record { answer = a.0; buffer = a.1 }

pub returns-then-lambda_refused : goal.returns-then-lambda_refused
returns-then-lambda_refused c =
    let a = lambda_said c.args.block.now (costs_of c.args.costs.now) c.args.coding
    c.in_ok-side.ensures.1 c.if-settings-gt-MOST_QP.false
    (sym c.lambda_refused.ensures ∙ c.if-lambda_refused.true) in
    record { answer = a.0; buffer = a.1 }

pub returns-then-costs_refused : goal.returns-then-costs_refused
returns-then-costs_refused c =
    let a = cost_said c.args.block.now (costs_of c.args.costs.now) c.args.coding
    c.in_ok-side.ensures.1 c.if-settings-gt-MOST_QP.false
    (sym c.lambda_refused.ensures ∙ c.if-lambda_refused.false)
    (sym c.costs_refused.ensures ∙ c.if-costs_refused.true) _ c.into.ensures in
    record { answer = a.0; buffer = a.1 }

pub returns-then-block-n : goal.returns-then-block-n
returns-then-block-n c =
    let a = length_said c.args.block.now (costs_of c.args.costs.now) c.args.coding
    c.in_ok-side.ensures.1 c.if-settings-gt-MOST_QP.false
    (sym c.lambda_refused.ensures ∙ c.if-lambda_refused.false)
    (sym c.costs_refused.ensures ∙ c.if-costs_refused.false) (let long = rw c.in_ok-side.ensures.0 at c.length-a.ensures.0 in rw (← long) c.if-block-n.true) _
    c.into-then-block-n.ensures in
    record { answer = a.0; buffer = a.1 }

-- a refusal with its component
with_component : (component : Component) (a : Result Coded Refusal) (b : Result Coded Refused)
    → MatchResult a (λ coded. b ≡ Ok coded)
    (λ why. IsErrAnd b (λ r. r ≡ record { why = why; component = component }))
    → quant_outcome b ≡ outcome_in component a
with_component component (Ok coded) b h = ap quant_outcome h
with_component component (Err why) (Ok coded) h = absurd h
with_component component (Err why) (Err r) h = rw h refl

pub returns : goal.returns
returns c =
    let B = c.args.block.now in
    let k = c.args.coding in
    let t = costs_of c.args.costs.now in
    let n = c.length-a.result * c.length-a.result in
    let e : n ≡ 2 ^ k.log2 * 2 ^ k.log2 = rw (c.length-a.ensures.0, c.in_ok-side.ensures.0) refl in
    let room : 2 ^ k.log2 * 2 ^ k.log2 ≤ length B = omega (arith, c.if-block-n.false, e) in
    let of : ℕ → Quant = λ m. called (take m B) t k in
    record {
      answer =
          with_component k.component c.code_block.result c.map_err.result (search rules)
          ∙ c.code_block.ensures.answer
          ∙ ap (λ (m : ℕ). quant_answer (of m)) e
          ∙ surplus_untested B t k room;
      buffer =
          ap (λ (l : List ℤ). l ++ drop n B) c.code_block.ensures.buffer
          ∙ ap (λ (m : ℕ). quant_buffer (of m) ++ drop m B) e
          ∙ surplus_carried B t k room;
    }
