-- `guard::guard` meets its contract: the mode's block is looked at, and kept where it lies within the heights.
use mathlib.Core.Path.{sym, ◌∙◌}
use Rattle.guard.proofs.Kept.{qp_fine, as_long, fits_within, kept_within}
use Rattle.guard.proofs.guard.Goals as goal

pub invariant_of-side : goal.invariant_of-side
invariant_of-side c = let given = c.requires.guardable in record { in_range = (given.low, given.high) }

pub invariant_of-qp : goal.invariant_of-qp
invariant_of-qp c = record { in_range = qp_fine c.requires.guardable }

pub look-e-requires : goal.look-e-requires
look-e-requires c = let given = c.requires.guardable in (given.long, as_long given, given.room)

pub returns-then-within : goal.returns-then-within
returns-then-within c =
    kept_within c.requires.guardable c.look-e.result c.look-e.ensures c.args.coded c.requires.of_mode
    (sym c.within.ensures ∙ c.if-within.true)

pub repair-requires-clause-h_value : goal.repair-requires-clause-h_value
repair-requires-clause-h_value c =
    fits_within c.requires.guardable c.look-e.result c.look-e.ensures ∙ sym c.within.ensures ∙ c.if-within.false
