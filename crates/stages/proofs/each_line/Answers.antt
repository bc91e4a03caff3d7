-- `stages::each_line` meets its contract: before the turn j the first j lines stand in their columns.
use native.Mathlib.Omega.{arith}
use Rattle.tables.specs.Matrix.{matrix}
use Rattle.stages.proofs.Lines.{staged_more}
use Rattle.stages.proofs.each_line.Goals as goal

pub loop-j-preserved : goal.loop-j-preserved
loop-j-preserved g c =
    staged_more c.args.side.log2 g.row.N c.requires.side.0 c.args.src.now c.loop-j.j matrix (λ z. z) c.args.lines
    c.loop-j.dst
    c.store_row.new.dst _ (omega arith) c.line.ensures.holds c.store_row.ensures c.loop-j.invariant
