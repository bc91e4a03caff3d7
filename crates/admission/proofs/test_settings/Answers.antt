-- `admission::test_settings` meets its contract: the side is tested, and then what is run, by its qp and its lambda.
use mathlib.Core.Logic.{inl, inr}
use lib.Dec.{ltb}
use Rattle.std.proofs.Common.{rules}
use Rattle.std.proofs.lemmas.Result.{err_from_is_err_and}
use Rattle.refusals.specs.Three.{part_of}
use Rattle.price.specs.Lambda.{lambda_refused}
use Rattle.admission.proofs.Sides.{log2_low, log2_high, log2_fine}
use Rattle.admission.proofs.Groups.{side_refused, qp_refused, lambda_left}
use Rattle.admission.proofs.test_settings.Goals as goal

pub returns-then-q-lt2 : goal.returns-then-q-lt2
returns-then-q-lt2 c l t =
    rw c.from.ensures (elim c.then-q-lt2.either [
      | inl h ↦ side_refused l t c.args.q (log2_low _ h)
      | inr h ↦ side_refused l t c.args.q (log2_high _ h.1)
    ])

pub returns-in_err-refuse_first : goal.returns-in_err-refuse_first
returns-in_err-refuse_first c l t =
    let p = err_from_is_err_and c.from_residual.result c.from_residual.ensures.1 in
    rw (p.1, p.2)
    (qp_refused l t c.args.q (log2_fine _ c.if-q-lt2.false c.if-q-gt5.false)
    (c.in_err-refuse_first.ensures (λ k. ltb 63 (part_of k c.args.q.settings).qp) (λ k b h. search rules)))

pub returns : goal.returns
returns c l t =
    lambda_left l t c.args.q (log2_fine _ c.if-q-lt2.false c.if-q-gt5.false)
    (c.in_ok-refuse_first.ensures (λ k. ltb 63 (part_of k c.args.q.settings).qp) (λ k b h. search rules))
    (c.refuse_first-2.ensures (λ k. lambda_refused (part_of k c.args.q.settings).lambda) (λ k b h. search rules))
