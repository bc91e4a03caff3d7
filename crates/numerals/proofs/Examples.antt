-- The definitions at some words: the ends of the ranges, and what is no number.
use Rattle.std.proofs.Common.{Some, None}
use mathlib.Core.Path.{◌≡◌, refl}
use mathlib.Core.List.{[], ◌∷◌}
use Prim.Native.Nat.{◌-◌, ◌^◌}
use lib.IntN.{pos, negsuc}
use Rattle.numerals.specs.Number.{natural_up_to, sample_of, bits_of}

-- 18446744073709551616, 007, 00 and an empty word
one_too_large : natural_up_to (2 ^ 64 - 1) (49 ∷ 56 ∷ 52 ∷ 52 ∷ 54 ∷ 55 ∷ 52 ∷ 52 ∷ 48 ∷ 55 ∷ 51 ∷ 55 ∷ 48 ∷ 57 ∷ 53 ∷ 53
    ∷ 49 ∷ 54 ∷ 49 ∷ 54 ∷ []) ≡ None
unfolding natural_up_to
one_too_large = refl

zeros_in_front : (natural_up_to 9 (48 ∷ 48 ∷ 55 ∷ []) ≡ None)
    × (natural_up_to 9 (48 ∷ 48 ∷ []) ≡ None)
unfolding natural_up_to
zeros_in_front = (refl, refl)

empty : natural_up_to 9 [] ≡ None
unfolding natural_up_to
empty = refl

-- -32768, -32769, 32767, 32768, -0, +1 and -
samples_read : (sample_of (45 ∷ 51 ∷ 50 ∷ 55 ∷ 54 ∷ 56 ∷ []) ≡ Some (negsuc 32767))
    × (sample_of (45 ∷ 51 ∷ 50 ∷ 55 ∷ 54 ∷ 57 ∷ []) ≡ None)
    × (sample_of (51 ∷ 50 ∷ 55 ∷ 54 ∷ 55 ∷ []) ≡ Some (pos 32767))
    × (sample_of (51 ∷ 50 ∷ 55 ∷ 54 ∷ 56 ∷ []) ≡ None)
    × (sample_of (45 ∷ 48 ∷ []) ≡ None)
    × (sample_of (43 ∷ 49 ∷ []) ≡ None)
    × (sample_of (45 ∷ []) ≡ None)
unfolding sample_of
samples_read = (refl, refl, refl, refl, refl, refl, refl)

-- 3f50000000000000, 3F50000000000000 and 3f5
bits_read : (bits_of (51 ∷ 102 ∷ 53 ∷ 48 ∷ 48 ∷ 48 ∷ 48 ∷ 48 ∷ 48 ∷ 48 ∷ 48 ∷ 48 ∷ 48 ∷ 48 ∷ 48 ∷ 48 ∷ [])
    ≡ Some 0x3f50_0000_0000_0000)
    × (bits_of (51 ∷ 70 ∷ 53 ∷ 48 ∷ 48 ∷ 48 ∷ 48 ∷ 48 ∷ 48 ∷ 48 ∷ 48 ∷ 48 ∷ 48 ∷ 48 ∷ 48 ∷ 48 ∷ []) ≡ None)
    × (bits_of (51 ∷ 102 ∷ 53 ∷ []) ≡ None)
unfolding bits_of
bits_read = (refl, refl, refl)
