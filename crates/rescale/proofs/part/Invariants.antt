-- `rescale::part` meets its contract: the first i levels are replaced.
use Rattle.integers.specs.Sum.{at}
use Rattle.integers.proofs.Replace.{Replaced}
use Rattle.rescale.specs.Inner.Step.{stepped}
use Rattle.rescale.proofs.part.Given as goal

abbrev pub invariant-loop-i : goal.invariant-loop-i
invariant-loop-i l = Replaced (stepped (at l.times 0) l.half l.down) l.initial.block l.i l.block
