-- The words of a line, as bytes: it is split at every space (32). So the empty line is one empty word, and two spaces
-- side by side have an empty word between them.
use Rattle.std.specs.Prelude.{cond, List, [], ◌∷◌, ℕ, eqb}

-- a byte in front of the first word
abbrev pub onto : ℕ → List (List ℕ) → List (List ℕ)
onto b [] = (b ∷ []) ∷ []
onto b (w ∷ words) = (b ∷ w) ∷ words

unfoldable pub words_of : List ℕ → List (List ℕ)
words_of [] = [] ∷ []
words_of (b ∷ l) = cond (eqb b 32) ([] ∷ words_of l) (onto b (words_of l))
