-- Each turn passes its place or weighs it, and writes what it takes.
use Rattle.passes.proofs.Looking.{Looking}
use Rattle.passes.proofs.look_back.Given as goal

abbrev pub invariant-loop-n : goal.invariant-loop-n
invariant-loop-n l = Looking l.kept l.end l.taken l.ahead l.n
