-- `parts::join` meets its contract: the first i residuals are stored.
use mathlib.Core.Path.{◌≡◌}
use Prim.Native.Nat.{ℕ, ◌<◌}
use Rattle.integers.specs.Sum.{at}
use Rattle.integers.specs.Floor.{rounded}
use Rattle.integers.specs.Clip.{clipped}
use Rattle.parts.specs.Inner.Parts.{whole}
use Rattle.parts.proofs.join.Given as goal

abbrev pub invariant-loop-i : goal.invariant-loop-i
invariant-loop-i l = (j : ℕ) → j < l.i → at l.block j ≡ clipped (rounded (whole (at l.p j) (at l.q j)) 17)
