-- `reader::read_with` meets its contract: the room's front is as long as the block. What was cleared does not matter, as
-- each place is met.
use Rattle.std.proofs.Common.{◌≡◌, ℕ, ◌*◌, ◌^◌, length, replicate, arith, ap, sym, ◌∙◌}
use lib.ListN.{length-replicate}
use lib.IntN.{pos}
use Rattle.runs.specs.Packing.{run_bits}
use Rattle.runs.specs.Runs.{misread}
use Rattle.squares.proofs.Squares.{part_length, within, scan_room}
use Rattle.reader.proofs.Over.{over_any}
use Rattle.reader.proofs.read_with.Goals as goal

-- the block's places, by the sides that the scan has
sides : (w h l : ℕ) → w ≡ 2 ^ l → h ≡ 2 ^ l → w * h ≡ 2 ^ l * 2 ^ l
sides w h l e f = rw (e, f)

pub whole_as_front-square : goal.whole_as_front-square
whole_as_front-square g c = (c.requires.room.0, omega (arith, c.requires.room.1))

pub square-scan-requires : goal.square-scan-requires
square-scan-requires g c =
    let q = c.requires.square.0 in
    part_length g.row.N _ c.requires.room.0 ∙ scan_room _ _ q

pub lay-requires : goal.lay-requires
lay-requires g c =
    let e = sides _ _ _ c.square-scan.ensures.0 c.square-scan.ensures.1 in (
      ap (λ (n : ℕ). misread run_bits n c.args.list.now) e ∙ c.requires.square.1,
      (c.fill.ensures.after (λ y e. e)) ∙ ap (λ (n : ℕ). replicate n (pos 0)) (c.requires.square.0.room ∙ sym e),
    )

pub returns : goal.returns
returns g c =
    c.lay.ensures
    ∙ rw (c.square-scan.ensures.0, c.square-scan.ensures.1)
    (over_any c.args.log2_side c.args.list.now _ _ c.requires.square.0
    (ap length (c.fill.ensures.after (λ y e. e)) ∙ length-replicate _ (pos 0)) c.requires.square.1)
