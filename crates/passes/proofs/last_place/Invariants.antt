-- While something is left there is a place for it, and where nothing is left nothing is kept.
use mathlib.Core.Path.{◌≡◌}
use Prim.Native.Nat.{◌-◌, ◌*◌, ◌≤◌}
use Rattle.weights.specs.Inner.Places.{kept_from}
use Rattle.passes.proofs.last_place.Given as goal

abbrev pub invariant-loop-left : goal.invariant-loop-left
invariant-loop-left l =
    (l.n ≤ l.kept.scan.w * l.kept.scan.h)
    × (l.left ≡ kept_from l.kept.scan.w l.kept.scan.h l.kept.magnitudes.now l.n)

abbrev pub decreases-loop-left : goal.decreases-loop-left
decreases-loop-left l = l.kept.scan.w * l.kept.scan.h - l.n
