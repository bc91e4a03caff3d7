-- `guard::guard_component` meets its contract: a refusal of the quantiser alone is handed on, a block that it accepts
-- is guarded, and a component not run is left alone.
use mathlib.Core.Path.{sym, ◌∙◌}
use lib.Seq.{length-take-le}
use Rattle.std.proofs.lemmas.Result.{err_from_is_err_and}
use Rattle.price.specs.Costs.{costs_of}
use Rattle.guard.proofs.OneComponent.{not_run, has_room, refused_part, guardable, held_part}
use Rattle.guard.proofs.guard_component.Goals as goal

pub returns-then-not-is_run : goal.returns-then-not-is_run
returns-then-not-is_run c =
    let a = c.args in
    not_run a.component (costs_of a.costs.now) a.q a.h a.part.now (sym c.is_run.ensures ∙ c.if-not-is_run.true)

pub returns-in_err-coded : goal.returns-in_err-coded
returns-in_err-coded c =
    let a = c.args in
    let p = err_from_is_err_and c.from_residual.result c.from_residual.ensures.1 in
    refused_part a.component (costs_of a.costs.now) a.q a.h a.part.now c.requires.ready
    (sym c.is_run.ensures ∙ c.if-not-is_run.false) _ _ p.1 (rw p.2 c.in_err-coded.ensures.answer)

pub slice_bounds-guard-end : goal.slice_bounds-guard-end
slice_bounds-guard-end c =
    let a = c.args in
    has_room a.component (costs_of a.costs.now) a.q a.h a.part.now c.requires.ready
    (sym c.is_run.ensures ∙ c.if-not-is_run.false) _ c.code_component.auto.part _ c.requires.part_value.1

pub slice_bounds-guard-end-2 : goal.slice_bounds-guard-end-2
slice_bounds-guard-end-2 c =
    let a = c.args in
    sym (length-take-le _ _ (has_room a.component (costs_of a.costs.now) a.q a.h a.part.now c.requires.ready
    (sym c.is_run.ensures ∙ c.if-not-is_run.false) _ c.code_component.auto.part _ c.requires.part_value.1))

pub guard-requires : goal.guard-requires
guard-requires c =
    let a = c.args in
    let given =
    guardable a.component (costs_of a.costs.now) a.q a.h a.part.now c.requires.ready
    (sym c.is_run.ensures ∙ c.if-not-is_run.false) _ c.in_ok-coded.ensures.answer c.requires.part_value.0
    c.coding_of-coding.ensures c.of.ensures _ _ c.code_component.ensures.buffer
    c.code_component.auto.part c.requires.part_value.1 in
    record { guardable = given.0; of_mode = given.1 }

pub returns : goal.returns
returns c =
    let a = c.args in
    held_part a.component (costs_of a.costs.now) a.q a.h a.part.now c.requires.ready
    (sym c.is_run.ensures ∙ c.if-not-is_run.false) _ c.in_ok-coded.ensures.answer c.requires.part_value.0
    c.coding_of-coding.ensures c.of.ensures _ _ c.guard.ensures
