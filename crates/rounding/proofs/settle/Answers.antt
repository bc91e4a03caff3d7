-- `rounding::settle` meets its contract: the first i sums are rounded.
use native.Mathlib.Omega.{arith}
use lib.IntN.{pos}
use Rattle.integers.specs.Sum.{at}
use Rattle.integers.proofs.Fill.{filled_more}
use Rattle.integers.specs.Floor.{rounded}
use Rattle.rounding.proofs.Steps.{result_is}
use Rattle.rounding.proofs.settle.Goals as goal

pub loop-i-preserved : goal.loop-i-preserved
loop-i-preserved c =
    let l = c.loop-i in
    filled_more (pos 0) l.block (λ j. rounded (at c.args.sums.now j) c.args.shift) l.i _ (omega arith)
    (result_is (at c.args.sums.now l.i) c.args.shift c.requires.block_len.1 c.requires.block_len.2
    (c.requires.by_index l.i (omega arith))) l.invariant
