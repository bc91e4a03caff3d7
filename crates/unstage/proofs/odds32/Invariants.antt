-- `unstage::odds32` meets its contract: before the turn j the first j lines stand in their columns.
use Prim.Native.Nat.{◌+◌, ◌-◌, ◌*◌}
use Rattle.integers.specs.Sum.{at}
use Rattle.tables.specs.Matrix.{matrix}
use Rattle.unfold.specs.Inner.Back.{odd_at, most_odd}
use Rattle.unstage.specs.Inner.Rows.{Lines}
use Rattle.unstage.proofs.odds32.Given as goal

abbrev pub invariant-loop-j : goal.invariant-loop-j
invariant-loop-j l =
    Lines (λ j n. odd_at matrix 16 (λ k. at l.os (j * 16 + k)) (16 - 1 - n)) most_odd 16 l.lines l.dst l.j
