-- The word of each verb, as bytes, and which verb a word names.
use Rattle.std.specs.Prelude.{Bool, true, false, ◌&&◌, cond, List, [], ◌∷◌, ℕ, eqb, Option, Some, None}
use Rattle.verbs.specs.declared.Verb.{Verb}
use Rattle.verbs.specs.declared.Verb.TheVariants.{Transform, Quantise, SubBlock, ScaleBack, Inverse}
use Rattle.verbs.specs.declared.Verb.TheVariants.{Guarded, Measure, Write, Read}

-- `transform`, `quantise`, `subblock`, `scaleback`, `inverse`, `guarded`, `measure`, `write`, `read`
abbrev pub word_of : Verb → List ℕ
word_of Transform = 116 ∷ 114 ∷ 97 ∷ 110 ∷ 115 ∷ 102 ∷ 111 ∷ 114 ∷ 109 ∷ []
word_of Quantise = 113 ∷ 117 ∷ 97 ∷ 110 ∷ 116 ∷ 105 ∷ 115 ∷ 101 ∷ []
word_of SubBlock = 115 ∷ 117 ∷ 98 ∷ 98 ∷ 108 ∷ 111 ∷ 99 ∷ 107 ∷ []
word_of ScaleBack = 115 ∷ 99 ∷ 97 ∷ 108 ∷ 101 ∷ 98 ∷ 97 ∷ 99 ∷ 107 ∷ []
word_of Inverse = 105 ∷ 110 ∷ 118 ∷ 101 ∷ 114 ∷ 115 ∷ 101 ∷ []
word_of Guarded = 103 ∷ 117 ∷ 97 ∷ 114 ∷ 100 ∷ 101 ∷ 100 ∷ []
word_of Measure = 109 ∷ 101 ∷ 97 ∷ 115 ∷ 117 ∷ 114 ∷ 101 ∷ []
word_of Write = 119 ∷ 114 ∷ 105 ∷ 116 ∷ 101 ∷ []
word_of Read = 114 ∷ 101 ∷ 97 ∷ 100 ∷ []

-- whether two words have the same bytes
unfoldable pub same_bytes : List ℕ → List ℕ → Bool
same_bytes [] [] = true
same_bytes [] (c ∷ v) = false
same_bytes (b ∷ w) [] = false
same_bytes (b ∷ w) (c ∷ v) = eqb b c && same_bytes w v

unfoldable pub verb_of : List ℕ → Option Verb
unfolding same_bytes
verb_of w =
    cond (same_bytes w (word_of Transform)) (Some Transform)
    (cond (same_bytes w (word_of Quantise)) (Some Quantise)
    (cond (same_bytes w (word_of SubBlock)) (Some SubBlock)
    (cond (same_bytes w (word_of ScaleBack)) (Some ScaleBack)
    (cond (same_bytes w (word_of Inverse)) (Some Inverse)
    (cond (same_bytes w (word_of Guarded)) (Some Guarded)
    (cond (same_bytes w (word_of Measure)) (Some Measure)
    (cond (same_bytes w (word_of Write)) (Some Write)
    (cond (same_bytes w (word_of Read)) (Some Read) None))))))))
