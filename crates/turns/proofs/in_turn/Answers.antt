-- `turns::in_turn` meets its contract: the three parts of the room are the residuals of the three, and those are ready.
use mathlib.Core.Path.{◌≡◌, sym, ap, ◌∙◌}
use native.Mathlib.Omega.{arith}
use Rattle.refusals.specs.declared.Component.TheVariants.{Y, U, «V»}
use Rattle.admission.specs.Inner.Tested.{residuals}
use Rattle.turns.proofs.Parts.{second_part, third_part}
use Rattle.turns.proofs.in_turn.Goals as goal
use Rattle.turns.proofs.in_turn.Goals.{After-split_at_mut-of_u}

of_u : (g : _) (c : After-split_at_mut-of_u g)
    → c.split_at_mut-of_u.result.0.now ≡ residuals U c.args.stretches.luma c.args.room.now
of_u g c =
    second_part c.args.room.now _ _ c.args.stretches.quarter c.split_at_mut-of_y.ensures.back
    c.split_at_mut-of_u.ensures.front

of_v : (g : _) (c : After-split_at_mut-of_u g)
    → c.split_at_mut-of_u.result.1.now ≡ residuals «V» c.args.stretches.luma c.args.room.now
of_v g c =
    third_part c.args.room.now _ _ c.args.stretches.quarter c.split_at_mut-of_y.ensures.back c.requires.ready.long
    c.split_at_mut-of_u.ensures.back

pub code-requires-clause-ready : goal.code-requires-clause-ready
code-requires-clause-ready g c = rw c.split_at_mut-of_y.ensures.front (c.requires.ready.parts Y)

pub code-requires-clause-given : goal.code-requires-clause-given
code-requires-clause-given g c = (
  c.split_at_mut-of_y.ensures.front ∙ ap (residuals Y c.args.stretches.luma) c.requires.given.0 ∙ sym (c.parts-parts.ensures Y),
  c.requires.given.1,
)

pub code-requires-2-clause-ready : goal.code-requires-2-clause-ready
code-requires-2-clause-ready g c =
    rw (of_u g (goal.at.code-requires-2-clause-ready g c).After-split_at_mut-of_u) (c.requires.ready.parts U)

pub code-requires-2-clause-given : goal.code-requires-2-clause-given
code-requires-2-clause-given g c = (
  of_u g (goal.at.code-requires-2-clause-given g c).After-split_at_mut-of_u ∙ ap (residuals U c.args.stretches.luma) c.requires.given.0 ∙ sym (c.parts-parts.ensures U),
  omega (arith, c.requires.given.1, c.code.auto.shown),
)

pub code-requires-3-clause-ready : goal.code-requires-3-clause-ready
code-requires-3-clause-ready g c =
    rw (of_v g (goal.at.code-requires-3-clause-ready g c).After-split_at_mut-of_u) (c.requires.ready.parts «V»)

pub code-requires-3-clause-given : goal.code-requires-3-clause-given
code-requires-3-clause-given g c = (
  of_v g (goal.at.code-requires-3-clause-given g c).After-split_at_mut-of_u ∙ ap (residuals «V» c.args.stretches.luma) c.requires.given.0 ∙ sym (c.parts-parts.ensures «V»),
  omega (arith, c.requires.given.1, c.code.auto.shown, c.code-2.auto.shown),
)
