-- `fours::last_columns` meets its contract: before the turn j the residuals of the first j lines stand in their
-- columns.
use Rattle.stages.specs.Inner.Stages.{Columns}
use Rattle.fours.specs.Inner.Last.{last_at}
use Rattle.fours.proofs.last_columns.Given as goal

abbrev pub invariant-loop-j : goal.invariant-loop-j
invariant-loop-j l = Columns (last_at l.x) 4 l.n (λ j. j) l.block l.j
