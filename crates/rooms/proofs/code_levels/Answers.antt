-- A block of a side up to 8 fits the smallest rooms.
use native.Mathlib.Omega.{arith}
use Rattle.rooms.proofs.Fitting.{fits}
use Rattle.rooms.proofs.code_levels.Goals as goal

pub code_in_rooms-requires-in-1-to-3 : goal.code_in_rooms-requires-in-1-to-3
code_in_rooms-requires-in-1-to-3 c =
    (fits 3 c.args.side.log2 (omega arith) c.args.block.now c.requires.room, omega arith, c.requires)
