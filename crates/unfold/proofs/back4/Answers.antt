-- `unfold::back4` meets its contract: one level over the line of half the side.
use native.Mathlib.Omega.{arith}
use Rattle.unfold.proofs.Line.{level_back}
use Rattle.unfold.proofs.back4.Goals as goal

pub returns : goal.returns
returns c =
    level_back 1 (omega arith) c.args.x.now c.halves.result.0 c.halves.result.1 c.back2.new.row c.halves.ensures
    c.back2.ensures c.spread.new.row (omega arith) c.spread.ensures
