-- `halves::half_stage` meets its contract: before the turn j the first j lines stand in their columns.
use native.Mathlib.Omega.{arith}
use Rattle.tables.specs.Matrix.{matrix}
use Rattle.stages.proofs.Lines.{staged_more}
use Rattle.halves.specs.Inner.Halves.{half}
use Rattle.halves.proofs.half_stage.Goals as goal

pub loop-j-preserved : goal.loop-j-preserved
loop-j-preserved c =
    staged_more 5 32 (omega arith) c.args.src.now c.loop-j.j matrix half 32 c.loop-j.dst c.store_row.new.dst _
    (omega arith) c.half_line.ensures c.store_row.ensures c.loop-j.invariant
