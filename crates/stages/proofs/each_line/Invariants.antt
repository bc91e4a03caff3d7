-- `stages::each_line` meets its contract: before the turn j the first j lines stand in their columns.
use Rattle.tables.specs.Matrix.{matrix}
use Rattle.stages.specs.Inner.Stages.{Staged}
use Rattle.stages.proofs.each_line.Given as goal

abbrev pub invariant-loop-j : goal.invariant-loop-j
invariant-loop-j g l = Staged matrix (λ z. z) l.side.log2 l.lines l.src l.dst l.j
