-- `writer::write_with` meets its contract: the room's front is as long as the block, and the scan there meets each of
-- its places.
use Rattle.std.proofs.Common.{arith, ◌∙◌}
use Rattle.squares.proofs.Squares.{part_length, within, scan_room, counted_in_order}
use Rattle.writer.proofs.write_with.Goals as goal

pub whole_as_front-square : goal.whole_as_front-square
whole_as_front-square g c = (c.requires.room.0, omega (arith, c.requires.room.1))

pub square-scan-requires : goal.square-scan-requires
square-scan-requires g c =
    let q = c.requires.square.0 in
    part_length g.row.N _ c.requires.room.0 ∙ scan_room _ _ q

pub write_in-requires-clause-count_value : goal.write_in-requires-clause-count_value
write_in-requires-clause-count_value g c =
    let e = c.square-scan.ensures in
    let q = c.requires.square.0 in
    (c.requires.count_value.0 ∙ counted_in_order _ _ q _ _ e.0 e.1, c.requires.count_value.1)
