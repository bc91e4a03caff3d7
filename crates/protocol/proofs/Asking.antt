-- What a line asks for along the parts that were read of it: nothing where one is missing, else the request.
use Rattle.std.proofs.Common.{◌≡◌, refl, ◌∙◌, ℕ, ℤ, List, ◌∷◌, Some, None, ◌*◌, ◌-◌, ◌≤◌, length, take}
use lib.Seq.{length-take-le}
use Rattle.verbs.specs.declared.Verb.{Verb}
use Rattle.verbs.specs.Verbs.{verb_of}
use Rattle.requests.specs.Words.{words_of}
use Rattle.requests.specs.Request.{kinds_of, has_list, list_of, count_of, most_behind, exactly_of, asked}
use Rattle.requests.specs.Inner.Left.{Fields}
use Rattle.requests.proofs.Asked.{verb_read, fields_malformed, fields_read, list_malformed, list_read, count_malformed}
use Rattle.requests.proofs.Asked.{count_read, samples_malformed, samples_read}

-- what is left for the samples behind so many numbers in front of a room
pub most_left : (k : ℕ) (room : List ℕ) → k ≤ length room → 8192 - 2 * k ≡ most_behind (take k room)
most_left k room h = rw (length-take-le k room h) refl

module _ (line : List ℕ) (few : length line ≤ 65535) (w : List ℕ) (a : List (List ℕ)) (first : words_of line ≡ w ∷ a)
    (verb : Verb) (named : verb_of w ≡ Some verb) where
  pub no_fields : (b : List (List ℕ)) → Fields (kinds_of verb) a b None → asked line ≡ None
  no_fields b f = verb_read line few w a first verb named ∙ fields_malformed verb a b None f refl

  module _ (fields : List ℕ) (b : List (List ℕ)) (f : Fields (kinds_of verb) a b (Some fields)) where
    pub no_list : list_of (has_list verb) b ≡ None → asked line ≡ None
    no_list e =
        verb_read line few w a first verb named ∙ fields_read verb a b (Some fields) f fields refl
        ∙ list_malformed verb (take (length (kinds_of verb)) fields) b e

    module _ (list : List ℕ) (c : List (List ℕ)) (l : list_of (has_list verb) b ≡ Some (list, c)) where
      pub no_count : count_of (most_behind list) c ≡ None → asked line ≡ None
      no_count e =
          verb_read line few w a first verb named ∙ fields_read verb a b (Some fields) f fields refl
          ∙ list_read verb (take (length (kinds_of verb)) fields) b list c l
          ∙ count_malformed verb (take (length (kinds_of verb)) fields) list c e

      module _ (n : ℕ) (d : List (List ℕ)) (k : count_of (most_behind list) c ≡ Some (n, d)) where
        pub no_samples : exactly_of n d ≡ None → asked line ≡ None
        no_samples e =
            verb_read line few w a first verb named ∙ fields_read verb a b (Some fields) f fields refl
            ∙ list_read verb (take (length (kinds_of verb)) fields) b list c l
            ∙ count_read verb (take (length (kinds_of verb)) fields) list c n d k
            ∙ samples_malformed verb (take (length (kinds_of verb)) fields) list d n e

        pub all_parts : (samples : List ℤ) → exactly_of n d ≡ Some samples → asked line
            ≡ Some (record { verb = verb; fields = take (length (kinds_of verb)) fields; list = list; samples = samples })
        all_parts samples e =
            verb_read line few w a first verb named ∙ fields_read verb a b (Some fields) f fields refl
            ∙ list_read verb (take (length (kinds_of verb)) fields) b list c l
            ∙ count_read verb (take (length (kinds_of verb)) fields) list c n d k
            ∙ samples_read verb (take (length (kinds_of verb)) fields) list d n samples e
