-- `parts::low` meets its contract: the first i low parts are stored.
use mathlib.Core.Path.{◌≡◌}
use Prim.Native.Nat.{ℕ, ◌<◌}
use Rattle.integers.specs.Sum.{at}
use Rattle.parts.specs.Inner.Parts.{low_of}
use Rattle.parts.proofs.low.Given as goal

abbrev pub invariant-loop-i : goal.invariant-loop-i
invariant-loop-i l = (j : ℕ) → j < l.i → at l.lo j ≡ low_of (at l.x j)
