-- `unfold::dot16` meets its contract: the sum is that of the first k products, each of a magnitude of at most 90·2^15.
use mathlib.Core.Path.{◌≡◌}
use Prim.Native.Nat.{◌*◌, ◌≤◌}
use lib.IntN.{nat_abs, ◌*ℤ◌}
use Rattle.integers.specs.Sum.{sum_ℤ, at}
use Rattle.unfold.proofs.dot16.Given as goal

abbrev pub invariant-loop-k : goal.invariant-loop-k
invariant-loop-k l = (l.sum ≡ sum_ℤ l.k (λ i. at l.t i *ℤ at l.o i)) × (nat_abs l.sum ≤ l.k * 2949120)
