-- Each turn passes its place, or steps and puts the level taken there: totals and levels are the definition's so far.
use Prim.Native.Nat.{◌-◌, ◌*◌}
use Rattle.along.proofs.Steps.{Walking}
use Rattle.along.proofs.walk_places.Given as goal

abbrev pub invariant-loop-left : goal.invariant-loop-left
invariant-loop-left l =
    let k = l.kept in
    Walking k.weights.prices k.weights.scale l.initial.totals k.scan.w k.scan.h k.magnitudes.now
    l.levels l.totals l.end l.left l.n

abbrev pub decreases-loop-left : goal.decreases-loop-left
decreases-loop-left l = l.kept.scan.w * l.kept.scan.h - l.n
