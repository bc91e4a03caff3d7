-- `transform::block::in_rooms` meets its contract: the block fits its rooms.
use native.Mathlib.Omega.{arith}
use Rattle.transform.proofs.block.in_rooms.Goals as goal

pub whole_as_front-both_stages : goal.whole_as_front-both_stages
whole_as_front-both_stages g c = (omega arith, omega arith)

pub whole_as_front-both_stages-2 : goal.whole_as_front-both_stages-2
whole_as_front-both_stages-2 g c = (omega arith, omega arith)
