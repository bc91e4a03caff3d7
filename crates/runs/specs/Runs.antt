-- The symbols of a block in scan order, the block that symbols tell, and what a list has wrong.
use Rattle.std.specs.Prelude.{Bool, true, false, not, cond, ◌&&◌, ◌||◌, List, [], ◌∷◌, ◌++◌, map, ℕ, suc, ◌-◌, eqb, ltb, replicate, ℤ, pos, negsuc, neg_ℤ, nat_abs}
use Rattle.integers.specs.Sum.{over, on_ℕ}
use Rattle.integers.specs.Tests.{some, eq_ℤ}
use Rattle.runs.specs.declared.Symbol.{Symbol}
use Rattle.runs.specs.Packing.{unpacked, overfull}

abbrev pub is_zero : ℤ → Bool
is_zero z = eq_ℤ z (pos 0)

abbrev pub nonzero : ℤ → Bool
nonzero z = not (is_zero z)

abbrev pub below0 : ℤ → Bool
below0 (pos n) = false
below0 (negsuc n) = true

-- how many levels are not 0
unfoldable pub nonzeros : List ℤ → ℕ
unfolding over
nonzeros zs = over on_ℕ (λ z. cond (is_zero z) 0 1) zs

-- ---- a block's symbols
-- of a level that is not 0, with so many zeros before it
abbrev pub symbol_of : (run : ℕ) → ℤ → (last : Bool) → Symbol
symbol_of run z last = record { run = run; magnitude = nat_abs z; negative = below0 z; last = last }

-- of the levels behind so many zeros
unfoldable pub symbols_after : (run : ℕ) → List ℤ → List Symbol
unfolding some
symbols_after run [] = []
symbols_after run (z ∷ zs) =
    let here = symbol_of run z (not (some nonzero zs)) in
    cond (is_zero z) (symbols_after (suc run) zs) (here ∷ symbols_after 0 zs)

unfoldable pub symbols_of : List ℤ → List Symbol
unfolding symbols_after
symbols_of zs = symbols_after 0 zs

-- ---- the levels that symbols tell
abbrev pub level_of : Symbol → ℤ
level_of s = cond s.negative (neg_ℤ (pos s.magnitude)) (pos s.magnitude)

-- of n places: each symbol's zeros and its level, and zeros behind the last
unfoldable pub levels_of : (n : ℕ) → List Symbol → List ℤ
levels_of n [] = replicate n (pos 0)
levels_of n (s ∷ ss) = replicate s.run (pos 0) ++ level_of s ∷ levels_of (n - suc s.run) ss

-- ---- what a list has wrong
-- the places that its symbols take
unfoldable pub taken : List Symbol → ℕ
unfolding over
taken ss = over on_ℕ (λ s. suc s.run) ss

-- the last symbol has the last mark, and no other
unfoldable pub ends_marked : List Symbol → Bool
ends_marked [] = true
ends_marked (s ∷ []) = s.last
ends_marked (s ∷ t ∷ ss) = not s.last && ends_marked (t ∷ ss)

-- a zero magnitude, an unused bit set, a run past the block of n places, a missing last mark or a symbol after it
unfoldable pub misread : (bits n : ℕ) → List ℕ → Bool
unfolding some unpacked overfull taken ends_marked
misread bits n us =
    let ss = map (unpacked bits) us in
    some (λ s. eqb s.magnitude 0) ss || some (overfull bits) us || ltb n (taken ss) || not (ends_marked ss)
