-- `coefficients::skip::skipped_top` meets its contract. The loop's invariant: the largest magnitude of what was looked
-- at, and of what is left, is the block's, and the former does not reach the threshold.
use mathlib.Core.Path.{◌≡◌}
use Prim.Native.Nat.{◌<◌, ◌≤◌, ◌*◌, max}
use lib.IntN.{nat_abs}
use Rattle.integers.specs.Sum.{over, on_max}
use Rattle.coefficients.proofs.skip.skipped_top.Given as goal

abbrev pub invariant-loop-part : goal.invariant-loop-part
invariant-loop-part l =
    (max l.top (over on_max nat_abs l.part-iterator.rest.now) ≡ over on_max nat_abs l.block)
    × (l.top * l.q < l.threshold) × (l.top ≤ 32768)
