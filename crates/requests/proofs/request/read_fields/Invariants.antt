-- The fields so far and the words that are left are together what all the words are, and each field is within its
-- kind's limit.
use Rattle.std.proofs.Common.{◌≡◌, ℕ, ◌≤◌, ◌<◌, length, get_or}
use Rattle.requests.specs.declared.kinds.Kind.TheVariants.{Component}
use Rattle.requests.specs.Request.{limit_of}
use Rattle.requests.specs.Inner.Left.{left}
use Rattle.requests.proofs.Fields.{Reading}
use Rattle.requests.proofs.request.read_fields.Given as goal

abbrev pub invariant-loop-i : goal.invariant-loop-i
invariant-loop-i l =
    (length l.fields ≡ 48)
    × Reading l.kinds (left l.initial.words) l.fields (left l.words) l.i
    × ((k : ℕ) → k < l.i → get_or l.fields k 0 ≤ limit_of (get_or l.kinds k Component))
