-- The samples so far and the words that are left are together what all the words are.
use Rattle.std.proofs.Common.{length}
use Rattle.requests.specs.Inner.Left.{left}
use Rattle.requests.proofs.Samples.{Reading}
use Rattle.requests.proofs.request.read_samples.Given as goal

abbrev pub invariant-loop-place : goal.invariant-loop-place
invariant-loop-place l = Reading (left l.initial.words) (length l.initial.room) l.room (left l.words) l.place-index
