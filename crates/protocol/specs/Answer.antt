-- The answer to a line: that of its request, or `malformed`.
use Rattle.std.specs.Prelude.{List, ℕ, Option, Some, None}
use Rattle.replies.specs.Reply.{malformed_text}
use Rattle.requests.specs.Request.{Request, asked}
use Rattle.calls.specs.Calls.{answered}

abbrev pub answer_of : Option Request → List ℕ
answer_of None = malformed_text
answer_of (Some q) = answered q.verb q.fields q.list q.samples

unfoldable pub answer_to : List ℕ → List ℕ
unfolding asked answered
answer_to line = answer_of (asked line)
