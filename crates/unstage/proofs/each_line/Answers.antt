-- `unstage::each_line` meets its contract: before the turn j the first j lines stand in their columns.
use native.Mathlib.Omega.{arith}
use lib.IntN.{pos}
use Rattle.unstage.proofs.Loop.{values_more}
use Rattle.unstage.proofs.each_line.Goals as goal

pub loop-j-preserved : goal.loop-j-preserved
loop-j-preserved g c =
    values_more c.args.side.log2 g.row.N c.requires.side.0 c.args.src.now c.loop-j.j c.args.lines c.loop-j.dst
    c.store.new.dst c.back.new.row (omega arith) (omega arith) c.back.ensures (c.store.ensures (pos 0))
    c.loop-j.invariant
