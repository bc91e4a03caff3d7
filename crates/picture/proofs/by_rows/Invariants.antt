-- `picture::by_rows` meets its contract: the first p samples are in their places.
use Rattle.std.proofs.Common.{get_or}
use Rattle.integers.proofs.Fill.{Filled}
use Rattle.picture.specs.Picture.{kept_of}
use Rattle.picture.proofs.by_rows.Given as goal

abbrev pub invariant-loop-p : goal.invariant-loop-p
invariant-loop-p l = Filled 0 l.shown (λ k. get_or l.kept (kept_of l.size k) 0) l.p
