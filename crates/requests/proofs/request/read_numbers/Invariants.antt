-- The numbers so far and the words that are left are together what all the words are.
use Rattle.std.proofs.Common.{length}
use Rattle.requests.specs.Request.{list_kinds}
use Rattle.requests.specs.Inner.Left.{left}
use Rattle.requests.proofs.Fields.{Reading}
use Rattle.requests.proofs.request.read_numbers.Given as goal

abbrev pub invariant-loop-place : goal.invariant-loop-place
invariant-loop-place l =
    Reading (list_kinds (length l.initial.room)) (left l.initial.words) l.room (left l.words) l.place-index
