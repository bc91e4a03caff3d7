-- The parts of the line are read as the definition reads them, and the reply to the call answers the request.
use Rattle.std.proofs.Common.{sym, ap, ◌∙◌, arith}
use lib.Seq.{length-take-le}
use Rattle.requests.proofs.Asked.{no_words, verb_malformed}
use Rattle.protocol.specs.Answer.{answer_of, answer_to}
use Rattle.protocol.proofs.Asking.{most_left, no_fields, no_list, no_count, no_samples, all_parts}
use Rattle.protocol.proofs.Retold.{retold}
use Rattle.protocol.proofs.answer_asked.Goals as goal

pub returns-in_err-take_word : goal.returns-in_err-take_word
returns-in_err-take_word c =
    rw c.from_residual.ensures
    (no_words c.args.line.now c.requires.2 (sym c.of-words.ensures ∙ c.in_err-take_word.ensures))

pub returns-in_err-verb : goal.returns-in_err-verb
returns-in_err-verb c =
    rw c.from_residual-in_err-verb.ensures
    (verb_malformed c.args.line.now c.requires.2 _ _ (sym c.of-words.ensures ∙ c.in_ok-take_word.ensures)
    (sym c.in_err-verb.ensures))

pub returns-in_err-fields : goal.returns-in_err-fields
returns-in_err-fields c =
    rw c.from_residual-in_err-fields.ensures
    (no_fields c.args.line.now c.requires.2 _ _ (sym c.of-words.ensures ∙ c.in_ok-take_word.ensures) _
    (sym c.in_ok-verb.ensures) _ c.in_err-fields.ensures)

pub returns-in_err-listed : goal.returns-in_err-listed
returns-in_err-listed c =
    rw c.from_residual-in_err-listed.ensures
    (no_list c.args.line.now c.requires.2 _ _ (sym c.of-words.ensures ∙ c.in_ok-take_word.ensures) _
    (sym c.in_ok-verb.ensures) _ _ c.in_ok-fields.ensures c.in_err-listed.ensures.value)

pub returns-in_err-count : goal.returns-in_err-count
returns-in_err-count c =
    let most = most_left c.in_ok-listed.listed c.read_list.new.room
    (omega (arith, c.in_ok-listed.ensures.few, c.read_list.auto.room, c.requires.1)) in
    rw c.from_residual-in_err-count.ensures
    (no_count c.args.line.now c.requires.2 _ _ (sym c.of-words.ensures ∙ c.in_ok-take_word.ensures) _
    (sym c.in_ok-verb.ensures) _ _ c.in_ok-fields.ensures _ _ c.in_ok-listed.ensures.value
    (rw most at c.in_err-count.ensures.value))

pub returns-in_err-read_samples : goal.returns-in_err-read_samples
returns-in_err-read_samples c =
    let k = c.in_ok-listed.listed in
    let n = c.in_ok-count.count in
    let most = most_left k c.read_list.new.room
    (omega (arith, c.in_ok-listed.ensures.few, c.read_list.auto.room, c.requires.1)) in
    let size = length-take-le n c.args.room.now (omega (arith, c.in_ok-count.ensures.few, c.requires.0)) in
    rw c.from_residual-in_err-read_samples.ensures
    (no_samples c.args.line.now c.requires.2 _ _ (sym c.of-words.ensures ∙ c.in_ok-take_word.ensures) _
    (sym c.in_ok-verb.ensures) _ _ c.in_ok-fields.ensures _ _ c.in_ok-listed.ensures.value n _
    (rw most at c.in_ok-count.ensures.value) (rw size at c.in_err-read_samples.ensures))

pub returns : goal.returns
unfolding answer_to
returns c =
    let k = c.in_ok-listed.listed in
    let n = c.in_ok-count.count in
    let most = most_left k c.read_list.new.room
    (omega (arith, c.in_ok-listed.ensures.few, c.read_list.auto.room, c.requires.1)) in
    let size = length-take-le n c.args.room.now (omega (arith, c.in_ok-count.ensures.few, c.requires.0)) in
    let read = all_parts c.args.line.now c.requires.2 _ _ (sym c.of-words.ensures ∙ c.in_ok-take_word.ensures) _
    (sym c.in_ok-verb.ensures) _ _ c.in_ok-fields.ensures _ _ c.in_ok-listed.ensures.value n _
    (rw most at c.in_ok-count.ensures.value) _ (rw size at c.in_ok-read_samples.ensures) in
    retold (ap answer_of read ∙ sym c.call-reply.ensures.is) (rw c.list_if.ensures.shown at c.put_reply.ensures)
