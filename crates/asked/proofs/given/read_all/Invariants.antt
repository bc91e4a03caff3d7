-- `asked::read_all` comes to an end: each turn but the last brings a byte or more.
use Rattle.std.proofs.Common.{◌-◌, ◌≤◌, length}
use Rattle.asked.proofs.given.read_all.Given as goal

abbrev pub invariant-loop-have : goal.invariant-loop-have
invariant-loop-have g l = l.have ≤ length l.buf

abbrev pub decreases-loop-have : goal.decreases-loop-have
decreases-loop-have g l = length l.buf - l.have
