-- `shown::worst_by` meets its contract: the worst of the first p samples.
use Rattle.std.proofs.Common.{rules}
use Rattle.shown.specs.Shown.{distance_in}
use Rattle.shown.proofs.Far.{further}
use Rattle.shown.proofs.worst_by.Goals as goal

pub loop-p-preserved : goal.loop-p-preserved
loop-p-preserved g c =
    let l = c.loop-p in
    rw c.farther-best.ensures
    (further (distance_in g.of c.args.camera.now c.args.shown.now) l.best l.p _
    (c.requires.1.1.1 _ _ _ (search rules) (search rules) c.distance-in-loop-p.ensures) l.invariant)
