-- `parts::high` meets its contract: the first i high parts are stored.
use mathlib.Core.Path.{◌≡◌}
use Prim.Native.Nat.{ℕ, ◌<◌}
use Rattle.integers.specs.Sum.{at}
use Rattle.parts.specs.Inner.Parts.{high_of}
use Rattle.parts.proofs.high.Given as goal

abbrev pub invariant-loop-i : goal.invariant-loop-i
invariant-loop-i l = (j : ℕ) → j < l.i → at l.hi j ≡ high_of (at l.x j)
