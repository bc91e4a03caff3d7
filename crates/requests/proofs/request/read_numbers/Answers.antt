-- The numbers so far and the words that are left are together what all the words are.
use Rattle.std.proofs.Common.{◌<◌, ◌≤◌, [], length, sym, ap, Some, ◌∙◌, arith}
use Rattle.requests.specs.Request.{list_kinds}
use lib.Seq.{take_all}
use Rattle.requests.specs.Inner.Left.{left}
use Rattle.requests.proofs.Fields.{begun, all_read, no_word, no_number, one_read}
use Rattle.requests.proofs.Lists.{listed, as_listed}
use Rattle.requests.proofs.request.read_numbers.Goals as goal

pub loop-place-init : goal.loop-place-init
loop-place-init c = begun _ _ []

pub returns-in_err-take_word : goal.returns-in_err-take_word
returns-in_err-take_word c =
    let l = c.loop-place in
    let n = length c.args.room.now in
    let more : l.place-index < length (list_kinds n) = omega (arith, listed n) in
    rw c.from_residual.ensures
    (no_word _ _ l.room _ l.place-index l.invariant more c.in_err-take_word.ensures)

pub returns-in_err-place : goal.returns-in_err-place
returns-in_err-place c =
    let l = c.loop-place in
    let n = length c.args.room.now in
    let more : l.place-index < length (list_kinds n) = omega (arith, listed n) in
    rw c.from_residual-in_err-place.ensures
    (no_number _ _ l.room _ l.place-index l.invariant more _ _ c.in_ok-take_word.ensures
    (as_listed n l.place-index _ (omega arith) ∙ sym c.in_err-place.ensures.value))

pub overflow_cast-place : goal.overflow_cast-place
overflow_cast-place c = omega (arith, c.in_ok-place.ensures.within)

pub loop-place-preserved : goal.loop-place-preserved
loop-place-preserved c =
    let l = c.loop-place in
    let n = length c.args.room.now in
    let more : l.place-index < length (list_kinds n) = omega (arith, listed n) in
    one_read _ _ l.room _ l.place-index l.invariant more _ _ c.in_ok-take_word.ensures _ (omega arith)
    (as_listed n l.place-index _ (omega arith) ∙ sym c.in_ok-place.ensures.value)

pub returns : goal.returns
returns c =
    let l = c.loop-place in
    let n = length c.args.room.now in
    let done : length (list_kinds n) ≤ l.place-index = omega (arith, listed n) in
    all_read _ _ l.room _ l.place-index l.invariant done
    ∙ ap (λ room. Some (room, left l.words)) (take_all l.place-index l.room (omega arith))
