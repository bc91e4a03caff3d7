-- `shown::worst_by` meets its contract: the worst of the first p samples.
use Rattle.shown.specs.Shown.{distance_in, Farthest}
use Rattle.shown.proofs.worst_by.Given as goal

abbrev pub invariant-loop-p : goal.invariant-loop-p
invariant-loop-p g l = Farthest (distance_in g.of l.camera l.shown) l.p l.best
