-- `unfold::back8` meets its contract: one level over the line of half the side.
use native.Mathlib.Omega.{arith}
use Rattle.unfold.proofs.Line.{level_back}
use Rattle.unfold.proofs.back8.Goals as goal

pub returns : goal.returns
returns c =
    level_back 2 (omega arith) c.args.x.now c.halves.result.0 c.halves.result.1 c.back4.new.row c.halves.ensures
    c.back4.ensures c.spread.new.row (omega arith) c.spread.ensures
