-- `signs::keep` meets its contract: the list is filled from the front, and counted as it is filled.
use mathlib.Core.Path.{◌≡◌}
use Prim.Native.Nat.{◌≤◌}
use lib.ListN.{length, take}
use Rattle.integers.specs.Sum.{at}
use Rattle.integers.proofs.Fill.{Filled}
use Rattle.price.specs.Price.{nonzeros}
use Rattle.signs.specs.Inner.Signs.{kept_of}
use Rattle.signs.proofs.keep.Given as goal

abbrev pub invariant-loop-i : goal.invariant-loop-i
invariant-loop-i l =
    (length l.kept ≡ length l.block) × Filled 0 l.kept (λ j. kept_of l.scale (at l.block j)) l.i
    × (l.count ≡ nonzeros (take l.i l.kept)) × (l.count ≤ l.i)
