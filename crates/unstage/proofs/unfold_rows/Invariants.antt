-- `unstage::unfold_rows` meets its contract: before the turn n the first n rows and the last n are unfolded.
use Rattle.unstage.proofs.Unfolding.{UnfoldedTo}
use Rattle.unstage.proofs.unfold_rows.Given as goal

abbrev pub invariant-loop-n : goal.invariant-loop-n
invariant-loop-n l = UnfoldedTo l.h l.lines l.initial.dst l.dst l.n
