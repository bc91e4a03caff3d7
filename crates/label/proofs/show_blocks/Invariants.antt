-- `label::show_blocks`: the room stays as long as it was, and no count of levels passes 64 for each block that was shown.
use Rattle.std.proofs.Common.{◌≡◌, ◌*◌, length}
use Rattle.fates.specs.Fate.{Most}
use Rattle.label.proofs.show_blocks.Given as goal

abbrev pub invariant-loop-number : goal.invariant-loop-number
invariant-loop-number g l = (length l.kept ≡ length l.initial.kept) × Most (64 * l.number) l.tally
