-- `unfold::part` meets its contract: the first k of the even places and of the odd ones are stored.
use mathlib.Core.Path.{◌≡◌}
use Prim.Native.Nat.{ℕ, ◌+◌, ◌*◌, ◌<◌, ◌≤◌}
use lib.IntN.{nat_abs}
use Rattle.integers.specs.Sum.{at}
use Rattle.unfold.proofs.part.Given as goal

abbrev pub invariant-loop-k : goal.invariant-loop-k
invariant-loop-k l = record {
  evens : (i : ℕ) → i < l.k → at l.e i ≡ at l.x (2 * i);
  odds : (i : ℕ) → i < l.k → at l.o i ≡ at l.x (2 * i + 1);
  small : (i : ℕ) → i < l.k → (nat_abs (at l.e i) ≤ 32768) × (nat_abs (at l.o i) ≤ 32768);
}
