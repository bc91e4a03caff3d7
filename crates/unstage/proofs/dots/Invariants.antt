-- `unstage::dots` meets its contract: the first k products stand in their places.
use Prim.Native.Nat.{◌-◌}
use Rattle.integers.specs.Sum.{at}
use Rattle.tables.specs.Matrix.{matrix}
use Rattle.columns.specs.Inner.Placed.{Placed}
use Rattle.unfold.specs.Inner.Back.{odd_at}
use Rattle.unstage.proofs.dots.Given as goal

abbrev pub invariant-loop-k : goal.invariant-loop-k
invariant-loop-k l = Placed l.lines l.c l.k (λ k. odd_at matrix 16 (at l.o) (15 - k)) l.initial.dst l.dst
