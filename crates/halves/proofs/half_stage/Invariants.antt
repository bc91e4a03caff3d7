-- `halves::half_stage` meets its contract: before the turn j the first j lines stand in their columns.
use Rattle.tables.specs.Matrix.{matrix}
use Rattle.stages.specs.Inner.Stages.{Staged}
use Rattle.halves.specs.Inner.Halves.{half}
use Rattle.halves.proofs.half_stage.Given as goal

abbrev pub invariant-loop-j : goal.invariant-loop-j
invariant-loop-j l = Staged matrix half 5 32 l.src l.dst l.j
