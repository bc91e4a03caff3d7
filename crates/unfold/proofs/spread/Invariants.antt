-- `unfold::spread` meets its contract: the first n sums are stored, and from the end the first n differences.
use mathlib.Core.Path.{◌≡◌}
use Prim.Native.Nat.{ℕ, ◌*◌, ◌-◌, ◌<◌}
use lib.ListN.{length}
use lib.IntN.{◌+ℤ◌, ◌-ℤ◌}
use Rattle.integers.specs.Sum.{at}
use Rattle.unfold.proofs.spread.Given as goal

abbrev pub invariant-loop-n : goal.invariant-loop-n
invariant-loop-n l = record {
  near : (i : ℕ) → i < l.n → at l.row i ≡ at l.e i +ℤ at l.b i;
  far : (i : ℕ) → i < l.n → at l.row (2 * length l.e - 1 - i) ≡ at l.e i -ℤ at l.b i;
}
