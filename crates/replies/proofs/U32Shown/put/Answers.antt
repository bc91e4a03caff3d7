-- A number of 32 bits has at most ten digits.
use Rattle.replies.proofs.Lines.{ten_digits}
use Rattle.replies.proofs.U32Shown.put.Goals as goal

pub returns : goal.returns
returns c = ten_digits _ _ _ _ _ c.ranges.self.fits (rw c.from.ensures at c.put_natural.ensures)
