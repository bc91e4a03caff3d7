-- `stages::evens16` meets its contract: before the turn j the first j lines stand in the even rows, and the
-- odd rows are kept.
use Prim.Native.Nat.{◌+◌, ◌*◌}
use Rattle.integers.specs.Sum.{at}
use Rattle.tables.specs.Matrix.{matrix}
use Rattle.stages.specs.Inner.Stages.{stage_at, Columns}
use Rattle.stages.proofs.evens16.Given as goal

abbrev pub invariant-loop-j : goal.invariant-loop-j
invariant-loop-j l =
    Columns (λ j k. stage_at matrix 16 l.src j (2 * k)) 8 (2 * l.lines) (λ j. j) l.dst l.j
    × Columns (λ j k. at l.initial.dst (k * (2 * l.lines) + (l.lines + j))) 8 (2 * l.lines) (λ j. l.lines + j) l.dst
    l.lines
