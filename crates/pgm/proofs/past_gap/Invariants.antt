-- `pgm::past_gap` meets its contract: what was passed and the gap that is left make the whole gap.
use Rattle.std.proofs.Common.{◌≡◌, ◌+◌, drop}
use Rattle.pgm.specs.Gap.{gap, past_gap}
use Rattle.pgm.proofs.past_gap.Given as goal

abbrev pub invariant-loop-i : goal.invariant-loop-i
invariant-loop-i l = l.i + gap l.comment (drop l.i l.bytes) ≡ past_gap l.bytes l.at
