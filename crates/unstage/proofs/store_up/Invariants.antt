-- `unstage::store_up` meets its contract: the first k numbers from the end stand in their places.
use Prim.Native.Nat.{◌-◌}
use lib.ListN.{length}
use Rattle.integers.specs.Sum.{at}
use Rattle.columns.specs.Inner.Placed.{Placed}
use Rattle.unstage.proofs.store_up.Given as goal

abbrev pub invariant-loop-k : goal.invariant-loop-k
invariant-loop-k l = Placed l.width l.c l.k (λ k. at l.b (length l.b - 1 - k)) l.initial.dst l.dst
