-- With the list of its side a whole scan stands in the room.
use Rattle.scan.proofs.Scanned.{square_scanned}
use Rattle.scan.proofs.Scan.square.Goals as goal

pub invariant_of-result : goal.invariant_of-result
invariant_of-result c = record {
  scanned =
      square_scanned c.args.side.log2 c.args.side.in_range.1 _ _ _ c.length-a.ensures.0 c.length-a.ensures.0
      c.fill_scan.ensures;
}
