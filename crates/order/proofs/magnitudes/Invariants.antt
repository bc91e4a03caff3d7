-- `order::magnitudes` meets its contract: the list is filled from the front.
use Rattle.std.proofs.Common.{◌≤◌, ◌<◌, ℕ, map, get_or}
use lib.IntN.{nat_abs}
use Rattle.integers.specs.Sum.{at}
use Rattle.integers.proofs.Fill.{Filled}
use Rattle.order.proofs.magnitudes.Given as goal

abbrev pub invariant-loop-i : goal.invariant-loop-i
invariant-loop-i l =
    Filled 0 l.out (λ j. get_or (map nat_abs l.block) j 0) l.i × ((j : ℕ) → j < l.i → nat_abs (at l.block j) ≤ 32768)
