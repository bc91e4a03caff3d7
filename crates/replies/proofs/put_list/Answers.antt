-- A colon and the list.
use Rattle.std.proofs.Common.{arith}
use Rattle.replies.proofs.Lines.{a_list}
use Rattle.replies.proofs.put_list.Goals as goal

pub returns : goal.returns
returns c =
    rw c.in-Some.is
    (a_list _ _ _ _ _ _ _ (omega (arith, c.requires.0, c.requires.2)) c.put_word-parted.ensures c.put_each.ensures)
