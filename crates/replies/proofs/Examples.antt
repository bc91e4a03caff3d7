-- The definition at some answers, one of each form.
use mathlib.Core.Path.{◌≡◌, refl}
use mathlib.Core.Bool.{true, false}
use mathlib.Core.List.{[], ◌∷◌}
use Rattle.std.proofs.Common.{Some, None}
use lib.IntN.{pos, negsuc}
use Rattle.text.specs.Text.{bytes}
use Rattle.replies.specs.Reply.{reply_text}

transformed : reply_text true [] None (pos 80 ∷ negsuc 15 ∷ negsuc 31 ∷ pos 0 ∷ []) ≡ bytes "accepted : 80 -16 -32 0"
unfolding reply_text
transformed = refl

quantised : reply_text true (1 ∷ 4096 ∷ []) None (negsuc 0 ∷ []) ≡ bytes "accepted 1 4096 : -1"
unfolding reply_text
quantised = refl

refused_empty : reply_text false (5 ∷ 0 ∷ []) None [] ≡ bytes "refused 5 0 :"
unfolding reply_text
refused_empty = refl

-- with a list, and with an empty one
listed :
    reply_text true (2 ∷ []) (Some (1025 ∷ 4294967295 ∷ 0 ∷ [])) (pos 1 ∷ negsuc 6 ∷ [])
    ≡ bytes "accepted 2 : 1025 4294967295 0 : 1 -7"
unfolding reply_text
listed = refl

listed_empty : reply_text true (0 ∷ []) (Some []) (pos 0 ∷ []) ≡ bytes "accepted 0 : : 0"
unfolding reply_text
listed_empty = refl
