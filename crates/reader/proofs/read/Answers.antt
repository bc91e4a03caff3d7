-- `reader::read` meets its contract: a block of a side up to 8 fits a room of 64 places, and any other one of 1,024.
use Rattle.std.proofs.Common.{arith}
use Rattle.refusals.specs.Sides.{most_log2}
use Rattle.squares.proofs.Squares.{within, at_most}
use Rattle.reader.proofs.read.Goals as goal

pub read_with-requires-clause-room : goal.read_with-requires-clause-room
read_with-requires-clause-room c = (at_most _ _ c.requires.0 3 c.if-log2_side-le3.true, omega arith)

pub read_with-requires-else-log2_side-le3-clause-room : goal.read_with-requires-else-log2_side-le3-clause-room
read_with-requires-else-log2_side-le3-clause-room c =
    (at_most _ _ c.requires.0 most_log2 (within _ _ c.requires.0).1, omega arith)
