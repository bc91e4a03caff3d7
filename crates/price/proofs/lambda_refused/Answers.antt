-- `price::lambda_refused` meets its contract: the code's two literals are the definition's.
use Rattle.std.proofs.Common.{◌≡◌, ◌||◌, sym, ◌∙◌}
use lib.Ieee.{of_bits, is_nan, lt}
use Rattle.price.specs.Lambda.{none, lambda_refused}
use Rattle.price.proofs.lambda_refused.Goals.{then-is_nan, else-is_nan}
use Rattle.price.proofs.lambda_refused.Goals as goal

pub returns-then-d : goal.returns-then-d
unfolding lambda_refused of_bits
returns-then-d c =
    let nan = c.is_nan.ensures.value in
    let first : c.if-is_nan.value ≡ (is_nan c.args.d || lt c.args.d none) = elim c.if-is_nan.branch [
      | then-is_nan w ↦ rw (sym nan ∙ w.if-is_nan.true) (w.value-is ∙ w.if-is_nan.true)
      | else-is_nan w ↦ rw (sym nan ∙ w.if-is_nan.false) w.value-is
    ] in
    rw (sym first ∙ c.if-d.true) c.if-d.true

pub returns-else-d : goal.returns-else-d
unfolding lambda_refused of_bits
returns-else-d c =
    let nan = c.is_nan.ensures.value in
    let first : c.if-is_nan.value ≡ (is_nan c.args.d || lt c.args.d none) = elim c.if-is_nan.branch [
      | then-is_nan w ↦ rw (sym nan ∙ w.if-is_nan.true) (w.value-is ∙ w.if-is_nan.true)
      | else-is_nan w ↦ rw (sym nan ∙ w.if-is_nan.false) w.value-is
    ] in
    rw (sym first ∙ c.if-d.false)
