-- `attempts::try_all` meets its contract: turn by turn, those before do not fit.
use Rattle.attempts.proofs.Trying.{Trying}
use Rattle.attempts.proofs.try_all.Given as goal

abbrev pub invariant-loop-i : goal.invariant-loop-i
invariant-loop-i l =
    Trying l.block.terms l.block.residuals.now l.block.coefs.now l.block.places.now l.initial.ms l.i l.ms
