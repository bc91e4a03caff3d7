-- `parts::low` meets its contract: what the machine stores is the low part.
use Rattle.std.proofs.Common.{arith}
use lib.IntN.{pos}
use Rattle.integers.specs.Sum.{at}
use Rattle.integers.proofs.Fill.{filled_more}
use Rattle.parts.specs.Inner.Parts.{low_of}
use Rattle.parts.proofs.Steps.{low_fits, low_is}
use Rattle.parts.proofs.low.Goals as goal

pub overflow_cast-lo : goal.overflow_cast-lo
overflow_cast-lo c =
    let l = c.loop-i in
    low_fits (at c.args.x.now l.i) (c.requires.by_index l.i (omega arith))

pub loop-i-preserved : goal.loop-i-preserved
loop-i-preserved c =
    let l = c.loop-i in
    let x = c.args.x.now in
    filled_more (pos 0) l.lo (λ j. low_of (at x j)) l.i _ (omega arith)
    (low_is (at x l.i) (c.requires.by_index l.i (omega arith))) l.invariant
