-- `stages::odds16` meets its contract: before the turn j the first j lines stand in the odd rows.
use Prim.Native.Nat.{◌+◌, ◌*◌}
use Rattle.tables.specs.Matrix.{matrix}
use Rattle.stages.specs.Inner.Stages.{stage_at, Columns}
use Rattle.stages.proofs.odds16.Given as goal

abbrev pub invariant-loop-j : goal.invariant-loop-j
invariant-loop-j l =
    Columns (λ j k. stage_at matrix 16 l.src j (2 * k + 1)) 8 (2 * l.lines) (λ j. l.lines + j) l.dst l.j
