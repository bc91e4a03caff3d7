-- What a line asks for, from what its readers answer. A caller reads the verb, the fields, the list, N and the samples
-- in turn: a law for each answer says what the line, or what is left of it, asks for.
use Rattle.std.proofs.Common.{◌≡◌, refl, List, [], ◌∷◌, Option, Some, None, ℕ, ℤ, ◌≤◌, ◌<◌, length, take}
use borrow.Author.Tests.{lt-ltb, le-ltb}
use Rattle.verbs.specs.declared.Verb.{Verb}
use Rattle.verbs.specs.Verbs.{verb_of}
use Rattle.requests.specs.Words.{words_of}
use Rattle.requests.specs.Request.{kinds_of, has_list, list_of, count_of, most_behind, exactly_of, with_samples}
use Rattle.requests.specs.Request.{behind_list, behind_fields, behind_verb, asked}
use Rattle.requests.specs.Inner.Left.{Fields}

module _ (line : List ℕ) where
  pub too_long : 65535 < length line → asked line ≡ None
  unfolding asked
  too_long h = rw (lt-ltb 65535 (length line) h) refl

  -- ---- the verb, in the first word
  module _ (few : length line ≤ 65535) where
    pub no_words : words_of line ≡ [] → asked line ≡ None
    unfolding asked
    no_words e = rw (le-ltb 65535 (length line) few, e) refl

    module _ (w : List ℕ) (words : List (List ℕ)) (e : words_of line ≡ w ∷ words) where
      pub verb_malformed : verb_of w ≡ None → asked line ≡ None
      unfolding asked
      verb_malformed v = rw (le-ltb 65535 (length line) few, e, v) refl

      pub verb_read : (verb : Verb) → verb_of w ≡ Some verb → asked line ≡ behind_verb verb words
      unfolding asked
      verb_read verb v = rw (le-ltb 65535 (length line) few, e, v) refl

-- ---- its fields
module _ (verb : Verb) (words left : List (List ℕ)) (r : Option (List ℕ)) (h : Fields (kinds_of verb) words left r) where
  pub fields_malformed : r ≡ None → behind_verb verb words ≡ None
  unfolding behind_verb
  fields_malformed e = rw (h.read, e) refl

  pub fields_read : (fields : List ℕ) → r ≡ Some fields
      → behind_verb verb words ≡ behind_fields verb (take (length (kinds_of verb)) fields) left
  unfolding behind_verb
  fields_read fields e = rw (h.read, e) refl

-- ---- its list
module _ (verb : Verb) (fields : List ℕ) (words : List (List ℕ)) where
  pub list_malformed : list_of (has_list verb) words ≡ None → behind_fields verb fields words ≡ None
  unfolding behind_fields
  list_malformed e = rw e refl

  pub list_read : (list : List ℕ) (left : List (List ℕ)) → list_of (has_list verb) words ≡ Some (list, left)
      → behind_fields verb fields words ≡ behind_list verb fields list left
  unfolding behind_fields
  list_read list left e = rw e refl

-- ---- N
module _ (verb : Verb) (fields list : List ℕ) (words : List (List ℕ)) where
  pub count_malformed : count_of (most_behind list) words ≡ None → behind_list verb fields list words ≡ None
  unfolding behind_list
  count_malformed e = rw e refl

  pub count_read : (n : ℕ) (left : List (List ℕ)) → count_of (most_behind list) words ≡ Some (n, left)
      → behind_list verb fields list words ≡ with_samples verb fields list (exactly_of n left)
  unfolding behind_list
  count_read n left e = rw e refl

  -- ---- the samples
  module _ (n : ℕ) where
    pub samples_malformed : exactly_of n words ≡ None → with_samples verb fields list (exactly_of n words) ≡ None
    unfolding with_samples
    samples_malformed e = rw e refl

    pub samples_read : (samples : List ℤ) → exactly_of n words ≡ Some samples
        → with_samples verb fields list (exactly_of n words)
        ≡ Some (record { verb = verb; fields = fields; list = list; samples = samples })
    unfolding with_samples
    samples_read samples e = rw e refl
