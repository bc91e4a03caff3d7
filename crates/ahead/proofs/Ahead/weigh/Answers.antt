-- Behind a nonzero level the cheaper of ending and going on, and then the offer against 0.
use mathlib.Core.Path.{◌≡◌, refl, sym, ◌∙◌}
use native.Mathlib.Omega.{arith}
use borrow.Author.Tests.{lt-ltb, le-ltb}
use Rattle.ahead.specs.Inner.Ahead.{behind_by}
use Rattle.ahead.proofs.Weighing.{taken_small, weighed_small}
use Rattle.ahead.proofs.Ahead.weigh.Goals as goal
use Rattle.ahead.proofs.Ahead.weigh.Goals.{then-goes_on, else-goes_on}

pub overflow_cast-result : goal.overflow_cast-result
overflow_cast-result c =
    record { fits = omega (arith, taken_small _ _ _ c.requires.fine _ c.offer-offer.ensures _ _ _ c.choose-z.ensures) }

pub overflow_cast-result-2 : goal.overflow_cast-result-2
overflow_cast-result-2 c =
    record { fits = omega (arith, taken_small _ _ _ c.requires.fine _ c.offer-offer.ensures _ _ _ c.choose-n.ensures) }

pub returns : goal.returns
returns c =
    let behind : c.if-goes_on.behind ≡ behind_by c.args.weights.prices c.args.self =
    elim c.if-goes_on.branch [
      | then-goes_on w ↦ w.behind-is ∙ sym (let k = lt-ltb _ _ w.if-goes_on.true in rw k)
      | else-goes_on w ↦ w.behind-is ∙ sym (let k = le-ltb _ _ w.if-goes_on.false in rw k)
    ] in
    weighed_small _ _ _ _ c.requires.fine _ c.offer-offer.ensures _ _ c.squared_below-d.ensures.is behind _ _
    c.choose-z.ensures c.choose-n.ensures _ refl
