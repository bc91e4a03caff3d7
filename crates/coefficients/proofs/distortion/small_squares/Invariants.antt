-- `coefficients::distortion::small_squares` meets its contract: three sums, none above that of the squared
-- coefficients, and D from them.
use mathlib.Core.Path.{◌≡◌}
use Prim.Native.Nat.{◌+◌}
use lib.ListN.{drop}
use Rattle.integers.specs.Sum.{over, on_ℕ}
use Rattle.coefficients.specs.Inner.Coefficients.{energy}
use Rattle.coefficients.proofs.Small.{crossed, up_square}
use Rattle.coefficients.proofs.distortion.small_squares.Given as goal

abbrev pub invariant-loop-c : goal.invariant-loop-c
invariant-loop-c l =
    (l.aa + over on_ℕ energy (drop l.c-index l.block) ≡ over on_ℕ energy l.block)
    × (l.ay + over on_ℕ (crossed l.rest) (drop l.c-index l.block) ≡ over on_ℕ (crossed l.rest) l.block)
    × (l.yy + over on_ℕ (up_square l.rest) (drop l.c-index l.block) ≡ over on_ℕ (up_square l.rest) l.block)
