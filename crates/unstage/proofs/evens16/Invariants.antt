-- `unstage::evens16` meets its contract: before the turn j the even halves of the first j lines stand in their columns.
use Prim.Native.Nat.{◌+◌, ◌*◌}
use Rattle.integers.specs.Sum.{at}
use Rattle.tables.specs.Matrix.{matrix}
use Rattle.unfold.specs.Inner.Back.{value_at, most_value}
use Rattle.unstage.specs.Inner.Rows.{Lines}
use Rattle.unstage.proofs.evens16.Given as goal

abbrev pub invariant-loop-j : goal.invariant-loop-j
invariant-loop-j l = Lines (λ j n. value_at matrix 8 (λ k. at l.src (j * 16 + 2 * k)) n) most_value 8 l.lines l.dst l.j
