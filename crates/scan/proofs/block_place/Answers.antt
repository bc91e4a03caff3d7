-- What is held is the scan, whose entries lie inside the block, and that is no larger than the largest.
use Rattle.scan.proofs.Scanned.{place_in}
use Rattle.scan.proofs.block_place.Goals as goal

pub returns : goal.returns
returns c =
    let h = c.requires in
    place_in c.args.w c.args.h c.args.held.now h.0 h.2 h.3 h.4 c.args.p.0 h.1
