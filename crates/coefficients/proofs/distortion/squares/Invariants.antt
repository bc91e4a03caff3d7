-- `coefficients::distortion::squares` meets its contract: an error by two 32-bit products, and its square.
use mathlib.Core.Path.{◌≡◌}
use Prim.Native.Nat.{◌≤◌, ◌*◌, ◌+◌}
use lib.ListN.{drop}
use Rattle.integers.specs.Sum.{over, on_ℕ}
use Rattle.coefficients.specs.Inner.Coefficients.{zero_distortion}
use Rattle.coefficients.proofs.Uncoding.{most_square}
use Rattle.coefficients.proofs.distortion.squares.Given as goal

abbrev pub invariant-loop-c : goal.invariant-loop-c
invariant-loop-c l =
    (l.sum + over on_ℕ (zero_distortion l.scale) (drop l.c-index l.part) ≡ over on_ℕ (zero_distortion l.scale) l.part)
    × (l.sum ≤ l.c-index * most_square l.scale)
