-- `picture::Block::take` meets its contract: the first i samples are taken.
use Rattle.std.proofs.Common.{◌≡◌, length, get_or}
use Rattle.integers.proofs.Fill.{Filled}
use Rattle.picture.specs.Picture.{place_of}
use Rattle.picture.proofs.block.Block.take.Given as goal

abbrev pub invariant-loop-i : goal.invariant-loop-i
invariant-loop-i l = (64 ≡ length l.block) × Filled 0 l.block (λ j. get_or l.camera (place_of l.self.size l.self.number j) 0) l.i
