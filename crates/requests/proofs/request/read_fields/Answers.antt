-- The fields so far and the words that are left are together what all the words are, and each field is within its
-- kind's limit.
use Rattle.std.proofs.Common.{◌≡◌, [], length, sym, arith, rules}
use Rattle.requests.proofs.Fields.{one_within, begun, all_read, no_word, no_number, one_read, unread, read_lem}
use Rattle.requests.proofs.request.read_fields.Goals as goal

pub loop-i-init : goal.loop-i-init
loop-i-init c = (search rules, begun _ _ [], λ k h. absurd (let no : ⊥ = omega arith in no))

pub returns-in_err-take_word : goal.returns-in_err-take_word
returns-in_err-take_word c =
    let l = c.loop-i in
    rw c.from_residual.ensures
    (unread _ _ _ (no_word _ _ l.fields _ l.i l.invariant.1 c.loop-i-test.true c.in_err-take_word.ensures))

pub returns-in_err-fields : goal.returns-in_err-fields
returns-in_err-fields c =
    let l = c.loop-i in
    rw c.from_residual-in_err-fields.ensures
    (unread _ _ _ (no_number _ _ l.fields _ l.i l.invariant.1 c.loop-i-test.true _ _ c.in_ok-take_word.ensures
    (sym c.in_err-fields.ensures.value)))

pub loop-i-preserved : goal.loop-i-preserved
loop-i-preserved c =
    let l = c.loop-i in (
      search rules,
      one_read _ _ l.fields _ l.i l.invariant.1 c.loop-i-test.true _ _ c.in_ok-take_word.ensures _ (omega arith)
          (sym c.in_ok-fields.ensures.value),
      one_within c.args.kinds.now l.fields l.i _ l.invariant.2 c.in_ok-fields.ensures.within,
    )

pub returns : goal.returns
returns c =
    let l = c.loop-i in
    let all : l.i ≡ length c.args.kinds.now = omega arith in
    read_lem _ _ _ _ (rw all at (all_read _ _ l.fields _ l.i l.invariant.1 (omega arith)))
    (λ k h. l.invariant.2 k (omega arith))
