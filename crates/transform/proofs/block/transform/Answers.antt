-- `transform::block::transform` meets its contract: no block is larger than the largest rooms.
use Rattle.stages.proofs.Sizes.{at_most_1024}
use native.Mathlib.Omega.{arith}
use Rattle.transform.proofs.block.transform.Goals as goal

pub in_rooms-requires-in_default-clause-rooms : goal.in_rooms-requires-in_default-clause-rooms
in_rooms-requires-in_default-clause-rooms c = (
  at_most_1024 _ c.args.width.log2 c.args.height.log2 c.requires.block_len.0 c.args.width.in_range.1
      c.args.height.in_range.1,
  omega arith,
)
