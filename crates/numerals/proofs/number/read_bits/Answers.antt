-- As many digits as were read bound what they are worth, and what the digits left mean behind them is what the word
-- means.
use Rattle.std.proofs.Common.{◌+◌, ◌*◌, sym, ap, ◌∙◌, arith}
use lib.ListN.{drop}
use Rattle.numerals.proofs.Hex.{hex_read, other_length, begun, no_digit, digit_next, all_read, one_more, fits}
use Rattle.numerals.proofs.number.read_bits.Goals as goal

pub returns-then-word-ne16 : goal.returns-then-word-ne16
returns-then-word-ne16 c = sym (other_length _ c.if-word-ne16.true)

pub loop-byte-init : goal.loop-byte-init
loop-byte-init c = (omega arith, begun _ c.if-word-ne16.false)

pub overflow_mul-value : goal.overflow_mul-value
overflow_mul-value c =
    let l = c.loop-byte in
    record { fits = omega (arith, fits l.value l.byte-index 0 l.invariant.0 (omega arith) (omega arith)) }

pub returns-in_err-value : goal.returns-in_err-value
returns-in_err-value c =
    let l = c.loop-byte in
    rw c.from_residual.ensures
    (sym (no_digit l.value _ l.byte-index c.loop-byte-test.true (omega (arith, c.in_err-value.ensures))) ∙ l.invariant.1)

pub overflow_add-value : goal.overflow_add-value
overflow_add-value c =
    let l = c.loop-byte in
    record { fits = fits l.value l.byte-index _ l.invariant.0 (c.in_ok-value.ensures).1 (omega arith) }

pub loop-byte-preserved : goal.loop-byte-preserved
loop-byte-preserved c =
    let l = c.loop-byte in
    let word = c.args.word.now in
    let worth = c.in_ok-value.ensures in (
      one_more l.value l.byte-index _ l.invariant.0 worth.1,
      ap (λ d. hex_read (16 * l.value + d) (drop (l.byte-index + 1) word)) worth.0
          ∙ sym (digit_next l.value _ l.byte-index c.loop-byte-test.true (omega (arith, worth)))
          ∙ l.invariant.1,
    )

pub returns : goal.returns
returns c =
    let l = c.loop-byte in
    sym (all_read l.value _ l.byte-index c.loop-byte-test.false) ∙ l.invariant.1
