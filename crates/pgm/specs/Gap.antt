-- What may stand between two numbers of a PGM: blanks, and comments from a # up to the end of its line.
use Rattle.std.specs.Prelude.{Bool, true, false, cond, List, [], ◌∷◌, ℕ, suc, ◌+◌, ltb, eqb, drop}

-- a blank, or one of tab, newline, vertical tab, form feed and carriage return
unfoldable pub is_blank : ℕ → Bool
is_blank b = cond (eqb b 32) true (cond (ltb b 9) false (cond (ltb b 14) true false))

-- in a comment every byte belongs to the gap
unfoldable pub in_gap : Bool → ℕ → Bool
unfolding is_blank
in_gap comment b = cond comment true (cond (eqb b 35) true (is_blank b))

-- whether the byte behind b belongs to a comment
unfoldable pub goes_on : Bool → ℕ → Bool
goes_on comment b = cond (eqb b 35) true (cond (eqb b 10) false (cond (eqb b 13) false comment))

-- how many bytes of a text belong to the gap that it begins with
unfoldable pub gap : Bool → List ℕ → ℕ
unfolding in_gap goes_on
gap comment [] = 0
gap comment (b ∷ w) = cond (in_gap comment b) (suc (gap (goes_on comment b) w)) 0

-- the first place from `at` on that does not
unfoldable pub past_gap : List ℕ → ℕ → ℕ
unfolding gap
past_gap bytes at = at + gap false (drop at bytes)
