-- `fours::last_rows` meets its contract: before the turn j the first j rows hold their residuals.
use mathlib.Core.Path.{◌≡◌}
use Prim.Native.Nat.{ℕ, ◌+◌, ◌*◌, ◌<◌}
use Rattle.integers.specs.Sum.{at}
use Rattle.fours.specs.Inner.Last.{last_at}
use Rattle.fours.proofs.last_rows.Given as goal

abbrev pub invariant-loop-j : goal.invariant-loop-j
invariant-loop-j l = (i k : ℕ) → i < l.j → k < 4 → at l.block (i * 4 + k) ≡ last_at l.x i k
