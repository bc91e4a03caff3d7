-- `unstage::unfold_row` meets its contract: before the turn i the first i places of both rows are unfolded.
use Rattle.unstage.specs.Inner.Rows.{RowsUnfolded}
use Rattle.unstage.proofs.unfold_row.Given as goal

abbrev pub invariant-loop-i : goal.invariant-loop-i
invariant-loop-i l = RowsUnfolded l.a l.c l.i l.initial.dst l.dst
