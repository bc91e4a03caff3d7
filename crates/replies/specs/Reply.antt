-- The protocol's answer lines, as bytes: what stands in the room for an answer once one was put there.
use Rattle.std.specs.Prelude.{◌≡◌, Bool, true, false, cond, List, [], ◌∷◌, ◌++◌, ℕ, ◌≤◌, ℤ, length, take, Option, Some, None}
use Rattle.text.specs.Text.{bytes, printed, printed_sample}

-- a space, code 32, and a text for each
unfoldable pub spaced : {A : Type 0} → (A → List ℕ) → List A → List ℕ
spaced print [] = []
spaced print (x ∷ l) = 32 ∷ (print x ++ spaced print l)

abbrev pub verdict_text : Bool → List ℕ
verdict_text true = bytes "accepted"
verdict_text false = bytes "refused"

-- a call's list, if it has one
abbrev pub list_if : Bool → List ℕ → Option (List ℕ)
list_if listed list = cond listed (Some list) None

abbrev pub list_text : Option (List ℕ) → List ℕ
list_text None = []
list_text (Some list) = bytes " :" ++ spaced printed list

-- the verdict, the call's numbers, a colon, the samples; behind the numbers a list, with a colon of its own
unfoldable pub reply_text : Bool → (numbers : List ℕ) → (list : Option (List ℕ)) → List ℤ → List ℕ
unfolding spaced printed printed_sample
reply_text accepted numbers list samples =
    verdict_text accepted ++ spaced printed numbers ++ list_text list ++ bytes " :" ++ spaced printed_sample samples

abbrev pub malformed_text : List ℕ
malformed_text = bytes "malformed"

-- the first r bytes are the text, and there is room behind it for a newline
pub record Written (text before after : List ℕ) (r : ℕ) : Type 0 where
  pub holds : take r after ≡ text
  pub some : 1 ≤ r
  pub few : r ≤ 65535
  pub kept : length after ≡ length before
