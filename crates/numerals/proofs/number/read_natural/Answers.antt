-- The loop's invariant: what was read is within the limit, and what the digits left mean behind it is what the word
-- means.
use Rattle.std.proofs.Common.{◌≡◌, ℕ, ◌<◌, ◌*◌, ◌+◌, ◌-◌, List, [], ◌∷◌, length, drop, get_or, None, sym, ap, ◌∙◌, arith}
use Rattle.numerals.specs.Number.{natural_up_to}
use Rattle.numerals.proofs.Reading.{a_digit, below_digits, above_digits, none_read, zero_led}
use Rattle.numerals.proofs.Reading.{no_digit, digit_next, past_limit, all_read, read_from}
use Rattle.numerals.proofs.number.read_natural.Goals as goal

alone : (w : List ℕ) (limit : ℕ) → length w < 1 → natural_up_to limit w ≡ None
alone [] limit e = none_read limit
alone (b ∷ w) limit e = absurd (let no : ⊥ = omega arith in no)

pub returns-in-empty : goal.returns-in-empty
returns-in-empty c = sym (alone _ _ c.in-empty.len_below)

pub returns-in-empty-2 : goal.returns-in-empty-2
returns-in-empty-2 c = sym (zero_led _ _ (omega arith) (omega arith))

pub returns-in_default-byte : goal.returns-in_default-byte
returns-in_default-byte c =
    let l = c.loop-byte in
    let b = get_or c.args.word.now l.byte-index 0 in
    let low : b < 48 = omega arith in
    sym (no_digit _ l.value _ l.byte-index c.loop-byte-test.true (below_digits b low)) ∙ l.invariant.1

pub returns-in_default-byte-2 : goal.returns-in_default-byte-2
returns-in_default-byte-2 c =
    let l = c.loop-byte in
    let b = get_or c.args.word.now l.byte-index 0 in
    let high : 57 < b = omega arith in
    sym (no_digit _ l.value _ l.byte-index c.loop-byte-test.true (above_digits b high)) ∙ l.invariant.1

pub returns-in_err-checked_mul : goal.returns-in_err-checked_mul
returns-in_err-checked_mul c =
    let l = c.loop-byte in
    rw c.from_residual.ensures
    (sym (past_limit _ l.value _ l.byte-index c.loop-byte-test.true (omega arith)) ∙ l.invariant.1)

pub returns-in_err-value : goal.returns-in_err-value
returns-in_err-value c =
    let l = c.loop-byte in
    rw c.from_residual-in_err-value.ensures
    (sym (past_limit _ l.value _ l.byte-index c.loop-byte-test.true (omega arith)) ∙ l.invariant.1)

pub returns-then-limit-value : goal.returns-then-limit-value
returns-then-limit-value c =
    let l = c.loop-byte in
    sym (past_limit _ l.value _ l.byte-index c.loop-byte-test.true (omega arith)) ∙ l.invariant.1

pub loop-byte-preserved : goal.loop-byte-preserved
loop-byte-preserved c =
    let l = c.loop-byte in
    let w = c.args.word.now in
    let b = get_or w l.byte-index 0 in
    let worth : c.in_ok-value.value ≡ 10 * l.value + (b - 48) = omega arith in (
      omega arith,
      ap (λ v. read_from c.args.limit v (drop (l.byte-index + 1) w)) worth
          ∙ sym (digit_next _ l.value _ l.byte-index c.loop-byte-test.true (a_digit b (omega arith) (omega arith)))
          ∙ l.invariant.1,
    )

pub returns : goal.returns
returns c =
    let l = c.loop-byte in
    sym (all_read _ l.value _ l.byte-index c.loop-byte-test.false l.invariant.0) ∙ l.invariant.1
