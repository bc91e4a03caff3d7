-- `rescale::whole` meets its contract: the first k parts are replaced.
use Prim.Native.Nat.{◌*◌}
use lib.IntN.{pos}
use Rattle.integers.proofs.Replace.{Replaced}
use Rattle.rescale.specs.Inner.Step.{stepped}
use Rattle.rescale.proofs.whole.Given as goal

abbrev pub invariant-loop-k : goal.invariant-loop-k
invariant-loop-k l = Replaced (stepped (pos l.times) l.half l.down) l.initial.block (64 * l.k) l.block
