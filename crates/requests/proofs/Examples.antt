-- The definition at some lines: what is asked for, and what a space too many, another N or K or a number of more than
-- 32 bits make of it.
use mathlib.Core.Path.{◌≡◌, refl}
use mathlib.Core.List.{List, [], ◌∷◌, ◌++◌}
use Rattle.std.proofs.Common.{Some, None}
use Prim.Native.Nat.{ℕ}
use lib.IntN.{pos, negsuc}
use Rattle.verbs.specs.declared.Verb.TheVariants.{Transform, ScaleBack, Inverse, Write, Read}
use Rattle.verbs.specs.Verbs.{word_of}
use Rattle.requests.specs.Request.{asked}

-- `transform 1 1`, a space, a digit for N, a space, `7 -8`
abbrev line : ℕ → List ℕ
line n = word_of Transform ++ (32 ∷ 49 ∷ 32 ∷ 49 ∷ 32 ∷ n ∷ 32 ∷ 55 ∷ 32 ∷ 45 ∷ 56 ∷ [])

two_samples :
    asked (line 50)
    ≡ Some (record { verb = Transform; fields = 1 ∷ 1 ∷ []; list = []; samples = pos 7 ∷ negsuc 7 ∷ [] })
unfolding asked
two_samples = refl

one_left_over : asked (line 49) ≡ None
unfolding asked
one_left_over = refl

one_missing : asked (line 51) ≡ None
unfolding asked
one_missing = refl

space_behind : asked (line 50 ++ (32 ∷ [])) ≡ None
unfolding asked
space_behind = refl

space_before : asked (32 ∷ line 50) ≡ None
unfolding asked
space_before = refl

-- `scaleback 1`, a space, a QP, ` 1 7`
abbrev scale_line : List ℕ → List ℕ
scale_line qp = word_of ScaleBack ++ (32 ∷ 49 ∷ 32 ∷ (qp ++ (32 ∷ 49 ∷ 32 ∷ 55 ∷ [])))

-- 2^32 - 1 is a QP, which the call refuses; 2^32 is none
largest_qp :
    asked (scale_line (52 ∷ 50 ∷ 57 ∷ 52 ∷ 57 ∷ 54 ∷ 55 ∷ 50 ∷ 57 ∷ 53 ∷ []))
    ≡ Some (record { verb = ScaleBack; fields = 1 ∷ 4294967295 ∷ []; list = []; samples = pos 7 ∷ [] })
unfolding asked
largest_qp = refl

past_32_bits : asked (scale_line (52 ∷ 50 ∷ 57 ∷ 52 ∷ 57 ∷ 54 ∷ 55 ∷ 50 ∷ 57 ∷ 54 ∷ [])) ≡ None
unfolding asked
past_32_bits = refl

-- `inverse 3 1 1 7`
inverse_line :
    asked (word_of Inverse ++ (32 ∷ 51 ∷ 32 ∷ 49 ∷ 32 ∷ 49 ∷ 32 ∷ 55 ∷ []))
    ≡ Some (record { verb = Inverse; fields = 3 ∷ 1 ∷ []; list = []; samples = pos 7 ∷ [] })
unfolding asked
inverse_line = refl

-- `write 2`, a space, a digit for K, a space, `5`, a space, a number, ` 1 7`
abbrev write_line : ℕ → List ℕ → List ℕ
write_line k n = word_of Write ++ (32 ∷ 50 ∷ 32 ∷ k ∷ 32 ∷ 53 ∷ 32 ∷ (n ++ (32 ∷ 49 ∷ 32 ∷ 55 ∷ [])))

-- 2^32 - 1 is a symbol, which a call refuses; 2^32 is none
largest_symbol :
    asked (write_line 50 (52 ∷ 50 ∷ 57 ∷ 52 ∷ 57 ∷ 54 ∷ 55 ∷ 50 ∷ 57 ∷ 53 ∷ []))
    ≡ Some (record { verb = Write; fields = 2 ∷ []; list = 5 ∷ 4294967295 ∷ []; samples = pos 7 ∷ [] })
unfolding asked
largest_symbol = refl

symbol_past_32_bits : asked (write_line 50 (52 ∷ 50 ∷ 57 ∷ 52 ∷ 57 ∷ 54 ∷ 55 ∷ 50 ∷ 57 ∷ 54 ∷ [])) ≡ None
unfolding asked
symbol_past_32_bits = refl

one_symbol_less :
    asked (write_line 49 (50 ∷ []))
    ≡ Some (record { verb = Write; fields = 2 ∷ []; list = 5 ∷ []; samples = pos 1 ∷ pos 7 ∷ [] })
unfolding asked
one_symbol_less = refl

one_symbol_more : asked (write_line 51 (50 ∷ [])) ≡ None
unfolding asked
one_symbol_more = refl

-- `read 2 0 1 7`
no_symbols :
    asked (word_of Read ++ (32 ∷ 50 ∷ 32 ∷ 48 ∷ 32 ∷ 49 ∷ 32 ∷ 55 ∷ []))
    ≡ Some (record { verb = Read; fields = 2 ∷ []; list = []; samples = pos 7 ∷ [] })
unfolding asked
no_symbols = refl
