-- `butterfly::line16` meets its contract: one level over the row of half the side.
use native.Mathlib.Omega.{arith}
use Rattle.butterfly.proofs.HalfLine.{row_held}
use Rattle.butterfly.proofs.line16.Goals as goal

pub returns : goal.returns
returns c =
    row_held 3 (omega arith) c.args.x.now _ c.args.row.now _ _ c.requires.0 c.one_level-e.ensures c.line8.ensures
