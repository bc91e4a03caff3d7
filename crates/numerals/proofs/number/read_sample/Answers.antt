-- A number, or one behind a `-`.
use Rattle.std.proofs.Common.{◌≡◌, length, get_or, sym, ap, ◌∙◌, arith}
use Rattle.numerals.specs.Number.{negative_of, positive_of}
use Rattle.numerals.proofs.Reading.{within}
use Rattle.numerals.proofs.Signs.{nothing, behind_minus, plain, no_negative, no_minus_zero, one_less_fits}
use Rattle.numerals.proofs.Signs.{a_negative, no_positive, plain_fits, a_positive}
use Rattle.numerals.proofs.number.read_sample.Goals as goal

pub returns-in-empty : goal.returns-in-empty
returns-in-empty c = nothing _ c.in-empty.len_below

pub returns-in_err-size-in-45 : goal.returns-in_err-size-in-45
returns-in_err-size-in-45 c =
    let some : length c.args.word.now ≡ 0 → ⊥ = omega arith in
    rw c.from_residual.ensures
    (sym no_negative ∙ ap negative_of c.in_err-size-in-45.ensures ∙ sym (behind_minus _ some (omega arith)))

pub returns-in_err-less-in-45 : goal.returns-in_err-less-in-45
returns-in_err-less-in-45 c =
    let some : length c.args.word.now ≡ 0 → ⊥ = omega arith in
    let zero : c.in_ok-size-in-45.size ≡ 0 = omega (arith, c.in_err-less-in-45.ensures) in
    rw c.from_residual-in_err-less-in-45.ensures
    (sym (no_minus_zero _ zero) ∙ ap negative_of c.in_ok-size-in-45.ensures ∙ sym (behind_minus _ some (omega arith)))

pub overflow_cast-result : goal.overflow_cast-result
overflow_cast-result c =
    let e = c.in_ok-less-in-45.ensures in
    rw e.1 (one_less_fits _ (omega (arith, e)) (within _ _ _ (sym c.in_ok-size-in-45.ensures)))

pub returns-in_ok-less-in-45 : goal.returns-in_ok-less-in-45
returns-in_ok-less-in-45 c =
    let e = c.in_ok-less-in-45.ensures in
    let some : length c.args.word.now ≡ 0 → ⊥ = omega arith in
    rw e.1
    (a_negative _ (omega (arith, e)) (within _ _ _ (sym c.in_ok-size-in-45.ensures))
    ∙ ap negative_of c.in_ok-size-in-45.ensures
    ∙ sym (behind_minus _ some (omega arith)))

pub returns-in_err-plain-in_default : goal.returns-in_err-plain-in_default
returns-in_err-plain-in_default c =
    let unsigned : get_or c.args.word.now 0 0 ≡ 45 → ⊥ = omega arith in
    rw c.from_residual-in_err-plain-in_default.ensures
    (sym no_positive ∙ ap positive_of c.in_err-plain-in_default.ensures ∙ sym (plain _ (omega arith) unsigned))

pub overflow_cast-result-in_default : goal.overflow_cast-result-in_default
overflow_cast-result-in_default c = plain_fits _ (within _ _ _ (sym c.in_ok-plain-in_default.ensures))

pub returns-in_ok-plain-in_default : goal.returns-in_ok-plain-in_default
returns-in_ok-plain-in_default c =
    let unsigned : get_or c.args.word.now 0 0 ≡ 45 → ⊥ = omega arith in
    a_positive _ (within _ _ _ (sym c.in_ok-plain-in_default.ensures))
    ∙ ap positive_of c.in_ok-plain-in_default.ensures
    ∙ sym (plain _ (omega arith) unsigned)
