-- What stands in the room for an answer, along what the answer is.
use Rattle.std.proofs.Common.{◌≡◌, List, ℕ, ◌<◌, None, length, refl, sym, ap, ◌∙◌}
use Rattle.replies.specs.Reply.{malformed_text, Written}
use Rattle.requests.specs.Request.{asked}
use Rattle.requests.proofs.Asked.{too_long}
use Rattle.protocol.specs.Answer.{answer_of, answer_to}

pub retold : {text written before after : List ℕ} → {r : ℕ} → text ≡ written → Written written before after r
    → Written text before after r
retold e w = record { holds = w.holds ∙ sym e; some = w.some; few = w.few; kept = w.kept }

-- a line that is no request is malformed
pub malformed_told : (line before mid after : List ℕ) (r : ℕ) → asked line ≡ None → length mid ≡ length before
    → Written malformed_text mid after r → Written (answer_to line) before after r
unfolding answer_to
malformed_told line before mid after r e same w =
    retold (ap answer_of e) (record { holds = w.holds; some = w.some; few = w.few; kept = w.kept ∙ same })

-- a line of more than 65,535 bytes is malformed
pub long_told : (line before after : List ℕ) (r : ℕ) → 65535 < length line → Written malformed_text before after r
    → Written (answer_to line) before after r
long_told line before after r h w = malformed_told line before before after r (too_long line h) refl w
