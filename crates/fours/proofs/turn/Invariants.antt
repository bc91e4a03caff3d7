-- `fours::turn` meets its contract: before the turn k the first k rows stand in their columns.
use Prim.Native.Nat.{◌+◌, ◌*◌}
use Rattle.integers.specs.Sum.{at}
use Rattle.stages.specs.Inner.Stages.{Columns}
use Rattle.fours.proofs.turn.Given as goal

abbrev pub invariant-loop-k : goal.invariant-loop-k
invariant-loop-k l = Columns (λ j i. at l.block (j * 4 + i)) 4 l.n (λ j. j) l.turned l.k
