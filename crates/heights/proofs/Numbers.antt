-- Numbers for the extremes of a block and for what is shown, worked out apart from the definitions and computed over
-- those of the call, and the order of its faults.
-- Assumes nothing.
use mathlib.Core.Path.{◌≡◌, refl}
use mathlib.Core.List.{List, [], ◌∷◌}
use Prim.Native.Nat.{ℕ}
use lib.IntN.{ℤ, pos, neg_ℤ}
use Rattle.refusals.specs.Faults.{accepted, refused}
use Rattle.tables.specs.Scales.{back}
use Rattle.heights.specs.Call.{Measure, lent, measure_answer}
use Rattle.heights.specs.Shown.{shown}

-- n, and -n
abbrev pub p : ℕ → ℤ
p n = pos n

abbrev pub m : ℕ → ℤ
m n = neg_ℤ (pos n)

-- residuals and levels, at a log2 side and a QP
abbrev pub asked : (l qp : ℕ) (residuals levels : List ℤ) → Measure
asked l qp residuals levels = lent residuals levels l qp

-- accepted, with these two extremes
abbrev pub Finds : Measure → (darker lighter : ℕ) → Type 0
Finds c darker lighter = measure_answer c ≡ accepted (record { darker = darker; lighter = lighter })

abbrev pub Refuses : Measure → ℕ → Type 0
Refuses c number = measure_answer c ≡ refused number 0

abbrev pub BlockNumbers : Type 0
BlockNumbers =
    -- side 2, QP 4: 0 -2 3 1 are decoded; a surplus behind both lists
    Finds (asked 1 4 (p 5 ∷ m 4 ∷ p 3 ∷ m 9 ∷ p 1000 ∷ m 1000 ∷ []) (p 1 ∷ p 2 ∷ m 3 ∷ p 0 ∷ p 500 ∷ p 7 ∷ [])) 5 10
    -- the residuals themselves; all of them above; all below
    × Finds (asked 1 4 (p 0 ∷ m 2 ∷ p 3 ∷ p 1 ∷ []) (p 1 ∷ p 2 ∷ m 3 ∷ p 0 ∷ [])) 0 0
    × Finds (asked 1 4 (p 40 ∷ p 40 ∷ p 41 ∷ p 42 ∷ []) (p 1 ∷ p 2 ∷ m 3 ∷ p 0 ∷ [])) 42 0
    × Finds (asked 1 4 (m 40 ∷ m 40 ∷ m 41 ∷ m 42 ∷ []) (p 1 ∷ p 2 ∷ m 3 ∷ p 0 ∷ [])) 0 44
    -- 4094 and -4094 are decoded, which no sample of 10 bits can hold
    × Finds (asked 1 4 (m 1000 ∷ p 1023 ∷ p 0 ∷ p 0 ∷ []) (p 2047 ∷ p 2047 ∷ p 2047 ∷ p 2047 ∷ [])) 1023 5094
    × Finds (asked 1 4 (m 1000 ∷ p 1023 ∷ p 0 ∷ p 0 ∷ []) (m 2047 ∷ m 2047 ∷ m 2047 ∷ m 2047 ∷ [])) 3094 0
    -- the largest QP: 0 0 3872 -224; an emptied block
    × Finds (asked 1 63 (p 7 ∷ m 7 ∷ p 1023 ∷ m 1023 ∷ []) (p 2 ∷ p 3 ∷ m 2 ∷ m 3 ∷ [])) 7 2849
    × Finds (asked 1 63 (p 7 ∷ m 7 ∷ p 1023 ∷ m 1023 ∷ []) (p 0 ∷ p 0 ∷ p 0 ∷ p 0 ∷ [])) 1023 1023
    -- side 4, QP 27
    × Finds
    (asked 2 27
    (p 100 ∷ p 90 ∷ p 80 ∷ p 70 ∷ m 3 ∷ m 5 ∷ m 7 ∷ m 9 ∷ p 600 ∷ m 600 ∷ p 1 ∷ p 0 ∷ p 0 ∷ p 23 ∷ p 45 ∷ m 67 ∷ [])
    (p 3 ∷ m 1 ∷ p 0 ∷ p 2 ∷ p 5 ∷ p 0 ∷ p 0 ∷ p 0 ∷ m 4 ∷ p 0 ∷ p 1 ∷ p 0 ∷ p 0 ∷ p 0 ∷ p 0 ∷ m 2 ∷ []))
    594 620

pub block_numbers : BlockNumbers
unfolding measure_answer back
block_numbers = (refl, refl, refl, refl, refl, refl, refl, refl, refl)

-- several faults at once: the first of the list decides
pub measure_order :
    -- a side, a QP and short lists
    Refuses (asked 0 64 [] []) 1
    × Refuses (asked 6 64 (p 1 ∷ []) (p 1 ∷ [])) 1
    -- a side alone
    × Refuses (asked 0 63 (p 1 ∷ []) (p 1 ∷ [])) 1
    -- a QP and short lists
    × Refuses (asked 1 64 (p 1 ∷ p 0 ∷ p 0 ∷ []) (p 1 ∷ [])) 2
    -- a QP alone
    × Refuses (asked 1 64 (p 1 ∷ p 0 ∷ p 0 ∷ p 0 ∷ []) (p 1 ∷ p 0 ∷ p 0 ∷ p 0 ∷ [])) 2
    -- both lists short, the residuals alone, the levels alone
    × Refuses (asked 1 63 (p 1 ∷ p 0 ∷ p 0 ∷ []) (p 1 ∷ p 0 ∷ p 0 ∷ [])) 5
    × Refuses (asked 1 63 (p 1 ∷ p 0 ∷ p 0 ∷ []) (p 1 ∷ p 0 ∷ p 0 ∷ p 0 ∷ [])) 5
    × Refuses (asked 1 63 (p 1 ∷ p 0 ∷ p 0 ∷ p 0 ∷ []) (p 1 ∷ p 0 ∷ p 0 ∷ [])) 5
unfolding measure_answer back
measure_order = (refl, refl, refl, refl, refl, refl, refl, refl)

-- what is shown, and its two ends
pub shown_numbers :
    (shown (p 700) (m 300) ≡ p 400)
    × (shown (p 10) (m 10) ≡ p 0)
    × (shown (p 10) (m 11) ≡ p 0)
    × (shown (p 10) (m 4094) ≡ p 0)
    × (shown (p 1000) (p 23) ≡ p 1023)
    × (shown (p 1000) (p 24) ≡ p 1023)
    × (shown (p 1000) (p 4094) ≡ p 1023)
unfolding shown
shown_numbers = (refl, refl, refl, refl, refl, refl, refl)
