-- `coefficients::skip::largest` meets its contract: the largest of what is passed, and of what is left, is the block's.
use mathlib.Core.Path.{◌≡◌}
use Prim.Native.Nat.{max}
use lib.ListN.{drop}
use lib.IntN.{nat_abs}
use Rattle.integers.specs.Sum.{over, on_max}
use Rattle.coefficients.proofs.Lowest.{Fitting}
use Rattle.coefficients.proofs.skip.largest.Given as goal

abbrev pub invariant-loop-c : goal.invariant-loop-c
invariant-loop-c l =
    (max l.top (over on_max nat_abs (drop l.c-index l.part)) ≡ over on_max nat_abs l.part)
    × Fitting l.part l.c-index
