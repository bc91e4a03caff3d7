-- `unstage::odds16` meets its contract: before the turn j the odd halves of the first j lines stand in their columns.
use Prim.Native.Nat.{◌+◌, ◌-◌, ◌*◌}
use Rattle.integers.specs.Sum.{at}
use Rattle.tables.specs.Matrix.{matrix}
use Rattle.unfold.specs.Inner.Back.{odd_at, most_odd}
use Rattle.unstage.specs.Inner.Rows.{Small, Lines}
use Rattle.unstage.proofs.odds16.Given as goal

abbrev pub invariant-loop-j : goal.invariant-loop-j
invariant-loop-j l =
    Lines (λ j n. odd_at matrix 8 (λ k. at l.src (j * 16 + (2 * k + 1))) (7 - n)) most_odd 8 l.lines l.dst l.j
    × Small 16 l.src l.j

-- half the side of a line is 2^3
abbrev pub ghost-halves : goal.ghost-halves
ghost-halves a = 3
