-- The samples so far and the words that are left are together what all the words are.
use Rattle.std.proofs.Common.{[], sym, arith, rules, w16}
use mir.Val.{SFits}
use mir.Facts.{to_z-of_z}
use Rattle.requests.proofs.Samples.{begun, all_read, left_over, no_word, no_sample, one_read}
use Rattle.requests.proofs.request.read_samples.Goals as goal

pub loop-place-init : goal.loop-place-init
loop-place-init c = begun _ _ []

pub returns-in_err-take_word : goal.returns-in_err-take_word
returns-in_err-take_word c =
    let l = c.loop-place in
    rw c.from_residual.ensures
    (no_word _ _ l.room _ l.place-index (omega arith) l.invariant (omega arith) c.in_err-take_word.ensures)

pub returns-in_err-place : goal.returns-in_err-place
returns-in_err-place c =
    let l = c.loop-place in
    rw c.from_residual-in_err-place.ensures
    (no_sample _ _ l.room _ l.place-index (omega arith) l.invariant (omega arith) _ _ c.in_ok-take_word.ensures
    (sym c.in_err-place.ensures))

pub loop-place-preserved : goal.loop-place-preserved
loop-place-preserved c =
    let l = c.loop-place in
    let f : SFits w16 c.in_ok-place.field-0 = search rules in
    rw (to_z-of_z f)
    (one_read _ _ l.room _ l.place-index (omega arith) l.invariant (omega arith) _ _ c.in_ok-take_word.ensures _
    (sym c.in_ok-place.ensures))

pub returns-in-Some : goal.returns-in-Some
returns-in-Some c =
    let l = c.loop-place in
    left_over _ _ l.room _ l.place-index (omega arith) l.invariant (omega arith) _ _ c.in-Some.ensures

pub returns-in-None : goal.returns-in-None
returns-in-None c =
    let l = c.loop-place in
    all_read _ _ l.room _ l.place-index (omega arith) l.invariant (omega arith) c.in-None.ensures
