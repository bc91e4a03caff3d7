-- `stretch::code_component` meets its contract: a component that is run is transformed, which is accepted, and
-- quantised by the definition's call; one that is not run is left alone.
use mathlib.Core.Path.{◌≡◌, sym, ap, ◌∙◌}
use mathlib.Core.Bool.{true}
use Rattle.price.specs.Costs.{costs_of}
use Rattle.coding.specs.declared.Coding.{Coding}
use Rattle.components.specs.Call.{bit}
use Rattle.stretch.proofs.OneComponent.{not_run, trans_passes, part_coded}
use Rattle.stretch.proofs.code_component.Goals as goal

pub returns-then-not-is_run : goal.returns-then-not-is_run
returns-then-not-is_run c =
    let a = c.args in
    let left = not_run a.component (costs_of a.costs.now) a.q a.part.now (sym c.is_run.ensures ∙ c.if-not-is_run.true) in
    record { answer = left.0; buffer = left.1 }

pub returns-in_err-trans : goal.returns-in_err-trans
returns-in_err-trans c =
    let a = c.args in
    let asked = c.coding_of-coding in
    let run : bit a.component a.q.run ≡ true = sym c.is_run.ensures ∙ c.if-not-is_run.false in
    let e = trans_passes a.component (costs_of a.costs.now) a.q a.part.now c.requires run asked.result.log2
    (ap (λ (x : Coding). x.log2) asked.ensures) in
    absurd (cc (e, c.in_err-trans.ensures.answer))

pub returns : goal.returns
returns c =
    let a = c.args in
    let run : bit a.component a.q.run ≡ true = sym c.is_run.ensures ∙ c.if-not-is_run.false in
    let done =
    part_coded a.component (costs_of a.costs.now) a.q a.part.now c.requires run _ _ c.coding_of-coding.ensures
    c.trans.ensures.buffer _ _ c.quant_nnz.ensures.answer c.quant_nnz.ensures.buffer in
    record { answer = done.0; buffer = done.1 }
