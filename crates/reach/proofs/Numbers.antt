-- The bound in numbers, of sides 2, 4, 8, 16 and 32: it is at most 128 up to QP 46, 38, 32, 26 and 10, but for QP 5 at
-- side 32, whose scales miss 2^20 by most. At QP 0 it is little more than what the two transforms alone leave.
use mathlib.Core.Path.{◌≡◌, refl}
use mathlib.Core.Bool.{Bool, ◌||◌}
use mathlib.Core.List.{List, [], ◌∷◌, map}
use Prim.Native.Nat.{ℕ}
use lib.Dec.{T, leb, eqb}
use Rattle.integers.specs.Tests.{all}
use Rattle.reach.specs.Bound.{bound}

abbrev low : (l qp : ℕ) → Bool
low l qp = leb (bound l qp) 128

pub at_most_128 : T (all 47 (low 1)) × T (all 39 (low 2)) × T (all 33 (low 3)) × T (all 27 (low 4))
    × T (all 11 (λ qp. eqb qp 5 || low 5 qp))
unfolding all bound
at_most_128 = (tt, tt, tt, tt, tt)

abbrev bounds : ℕ → List ℕ
bounds qp = map (λ l. bound l qp) (1 ∷ 2 ∷ 3 ∷ 4 ∷ 5 ∷ [])

pub numbers : (bounds 0 ≡ 1 ∷ 24 ∷ 33 ∷ 42 ∷ 104 ∷ [])
    × (bounds 4 ≡ 1 ∷ 24 ∷ 33 ∷ 42 ∷ 104 ∷ [])
    × (bounds 5 ≡ 1 ∷ 25 ∷ 35 ∷ 49 ∷ 130 ∷ [])
    × (bounds 10 ≡ 2 ∷ 26 ∷ 37 ∷ 49 ∷ 104 ∷ [])
    × (bounds 11 ≡ 2 ∷ 27 ∷ 38 ∷ 56 ∷ 130 ∷ [])
    × (bounds 26 ≡ 13 ∷ 46 ∷ 75 ∷ 123 ∷ 263 ∷ [])
    × (bounds 27 ≡ 14 ∷ 49 ∷ 80 ∷ 130 ∷ 263 ∷ [])
    × (bounds 32 ≡ 26 ∷ 70 ∷ 119 ∷ 211 ∷ 422 ∷ [])
    × (bounds 33 ≡ 29 ∷ 76 ∷ 129 ∷ 231 ∷ 449 ∷ [])
    × (bounds 38 ≡ 51 ∷ 118 ∷ 208 ∷ 380 ∷ 767 ∷ [])
    × (bounds 39 ≡ 57 ∷ 129 ∷ 229 ∷ 421 ∷ 846 ∷ [])
    × (bounds 46 ≡ 128 ∷ 261 ∷ 478 ∷ 900 ∷ 1774 ∷ [])
    × (bounds 47 ≡ 144 ∷ 291 ∷ 535 ∷ 1015 ∷ 2013 ∷ [])
    × (bounds 63 ≡ 912 ∷ 1721 ∷ 3222 ∷ 6197 ∷ 12165 ∷ [])
unfolding bound
numbers = (refl, refl, refl, refl, refl, refl, refl, refl, refl, refl, refl, refl, refl, refl)
