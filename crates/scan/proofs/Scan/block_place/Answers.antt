-- What is held is a whole scan, so that a place below its length is one of what is held.
use Rattle.std.proofs.Common.{arith}
use Rattle.scan.proofs.Scanned.{held_length}
use Rattle.scan.proofs.Scan.block_place.Goals as goal

pub block_place-requires : goal.block_place-requires
block_place-requires c =
    let s = c.args.self.scanned in
    (s.is, omega (arith, held_length _ _ _ s, c.requires), s.wide, s.high, s.few)
