-- The first items are put, each with its space.
use Rattle.std.proofs.Common.{◌+◌}
use Rattle.replies.proofs.Spaced.{Spaced}
use Rattle.replies.proofs.put_each.Given as goal

abbrev pub invariant-loop-item : goal.invariant-loop-item
invariant-loop-item g l =
    Spaced g.T.Shown.text l.items (g.T.Shown.most + 1) l.initial.out l.at l.item-index l.out l.next
