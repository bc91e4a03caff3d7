-- What crosses to C and Rust, computed: calls made of flat numbers, and the flat numbers that they answer. The exports'
-- contracts are equations with specs/Surface.antt, and hold as well where code and definition take the numbers in one
-- and the same wrong order. The answers here do not: they were worked out by a program that shares nothing with the
-- definitions. No two of the 28 costs are equal, nor two of the settings, nor two prices of an answer; the slice's and
-- the block's flag are raised each without the other, in either mode, and once with all bits that mean nothing. Two
-- costs exchanged change some answer, whichever two they are, but for the second of a level's first row and the first
-- of its second row: every level of 2 or more pays both, and nothing else pays either.
-- Assumes nothing.
use mathlib.Core.Path.{◌≡◌, refl}
use mathlib.Core.List.{List, [], ◌∷◌, ◌++◌}
use Prim.Native.Nat.{ℕ}
use lib.IntN.{ℤ}
use lib.Ieee.{nan}
use Rattle.refusals.specs.declared.Component.{Component}
use Rattle.refusals.specs.declared.Component.TheVariants.{Y, U, «V»}
use Rattle.runs.specs.Call.{Write, writing, write_answer, write_list, Read, reading, read_verdict, read_buffer}
use Rattle.transform.specs.Call.{called, trans_verdict}
use Rattle.tables.specs.Scales.{back}
use Rattle.decoding.specs.Call.{ScaleBack, levels_lent, scale_verdict, scale_buffer}
use Rattle.decoding.specs.Call.{Inverse, coefficients_lent, inverse_verdict, inverse_buffer}
use Rattle.price.specs.Costs.{costs_of}
use Rattle.coding.specs.Block.{Quant}
use Rattle.coding.specs.Block as quant
use Rattle.coding.specs.Call.{quant_answer, quant_buffer}
use Rattle.coding.proofs.Numbers.{p, m, parts}
use Rattle.components.specs.Call.{SubBlock, sub_block_answer, sub_block_buffer}
use Rattle.components.specs.Call as three
use Rattle.heights.specs.Call.{Measure, lent, measure_answer}
use Rattle.guarding.specs.Call.{GuardedBlock, guarded_request, guarded_answer, guarded_buffer}
use Rattle.surface.specs.Surface.{result_of, quant_asked, quant_written, three_asked, three_written}
use Rattle.surface.specs.Surface.{guarded_asked, guarded_written, measure_written, write_written}

-- run, level, last and cbf
abbrev costs : List ℕ
costs =
    310 ∷ 28365 ∷ 25447 ∷ 43284 ∷ 35203 ∷ 24429 ∷ 44970 ∷ 45197
    ∷ 4594 ∷ 18607 ∷ 13666 ∷ 14409 ∷ 36614 ∷ 27580 ∷ 8674 ∷ 41287
    ∷ 1071 ∷ 43035 ∷ 35060 ∷ 49408
    ∷ 12891 ∷ 43307 ∷ 34547 ∷ 49964 ∷ 7598 ∷ 13705 ∷ 13517 ∷ 23789 ∷ []

-- ---- the three-component call, luma 4×4
-- residuals of Y and V, with those of U between
abbrev held : (u : List ℤ) → List ℤ
held u =
    (m 19 ∷ m 3 ∷ m 2 ∷ m 38 ∷ p 32 ∷ p 20 ∷ p 23 ∷ p 17 ∷ m 39 ∷ m 21 ∷ m 32 ∷ m 39 ∷ m 20 ∷ m 6 ∷ p 0 ∷ p 4 ∷ [])
    ++ (u ++ (p 2 ∷ p 7 ∷ p 6 ∷ m 3 ∷ []))

abbrev asked : (flags : ℕ) → List ℤ → SubBlock
asked flags u =
    three_asked (held u) 2 (31 ∷ 14 ∷ 24 ∷ []) (parts 1500 ∷ parts 2000 ∷ parts 900 ∷ []) 7 flags costs

-- the result, the answer, and the buffer at the end
abbrev Gives : SubBlock → ℕ → List ℕ → List ℤ → Type 0
Gives s result written after =
    (result_of (sub_block_answer s) ≡ result) × (three_written (sub_block_answer s) ≡ written) × (sub_block_buffer s ≡ after)

abbrev u : List ℤ
u = m 11 ∷ m 9 ∷ p 7 ∷ p 9 ∷ []

pub sub_block :
    -- an intra slice, not intra-coded: V is not skipped, and luma reads cbf all
    Gives (asked 1 u) 0 (0 ∷ 6 ∷ 3 ∷ 2 ∷ 57337292299 ∷ 1497848843 ∷ 2907307604 ∷ [])
    (m 1 ∷ p 0 ∷ m 1 ∷ p 0 ∷ p 1 ∷ p 1 ∷ p 0 ∷ p 0 ∷ p 0 ∷ p 0 ∷ p 0 ∷ p 0 ∷ m 3 ∷ p 0 ∷ m 1 ∷ p 0
    ∷ m 1 ∷ m 1 ∷ m 6 ∷ p 0 ∷ p 1 ∷ p 0 ∷ p 0 ∷ m 1 ∷ [])
    -- the same in the other mode
    × Gives (asked 5 u) 0 (0 ∷ 7 ∷ 1 ∷ 2 ∷ 57314785167 ∷ 1445553339 ∷ 2907307604 ∷ [])
    (m 1 ∷ p 0 ∷ m 1 ∷ p 0 ∷ p 1 ∷ p 1 ∷ p 0 ∷ p 0 ∷ m 1 ∷ p 0 ∷ p 0 ∷ p 0 ∷ m 3 ∷ p 0 ∷ m 1 ∷ p 0
    ∷ p 0 ∷ p 0 ∷ m 6 ∷ p 0 ∷ p 1 ∷ p 0 ∷ p 0 ∷ m 1 ∷ [])
    -- an inter slice, intra-coded: V is skipped, and luma reads cbf luma
    × Gives (asked 2 u) 0 (0 ∷ 6 ∷ 3 ∷ 0 ∷ 57347277799 ∷ 1497848843 ∷ 6588539064 ∷ [])
    (m 1 ∷ p 0 ∷ m 1 ∷ p 0 ∷ p 1 ∷ p 1 ∷ p 0 ∷ p 0 ∷ p 0 ∷ p 0 ∷ p 0 ∷ p 0 ∷ m 3 ∷ p 0 ∷ m 1 ∷ p 0
    ∷ m 1 ∷ m 1 ∷ m 6 ∷ p 0 ∷ p 0 ∷ p 0 ∷ p 0 ∷ p 0 ∷ [])
    -- refused: refusal 6 of U
    × Gives (asked 7 (p 0 ∷ m 1024 ∷ p 0 ∷ p 0 ∷ [])) 6 (1 ∷ 0 ∷ 0 ∷ 0 ∷ 0 ∷ 0 ∷ 0 ∷ [])
    (held (p 0 ∷ m 1024 ∷ p 0 ∷ p 0 ∷ []))
unfolding three.requested sub_block_answer sub_block_buffer costs_of
sub_block = ((refl, refl, refl), (refl, refl, refl), (refl, refl, refl), (refl, refl, refl))

-- ---- the quantiser, 2×2
abbrev block : (a b c d : ℤ) → List ℤ
block a b c d = a ∷ b ∷ c ∷ d ∷ []

abbrev Quantises : Quant → ℕ → List ℕ → List ℤ → Type 0
Quantises c result written after =
    (result_of (quant_answer c) ≡ result) × (quant_written (quant_answer c) ≡ written) × (quant_buffer c ≡ after)

-- a 2×2 block of a component
abbrev of : Component → (flags qp lambda : ℕ) → List ℤ → Quant
of k flags qp lambda l = quant_asked k l 1 qp (parts lambda) flags costs

pub quantise :
    -- luma, in either mode; the bits that mean nothing are raised in the first
    Quantises (of Y 4294967289 4 1500 (block (m 74) (p 9) (m 12) (m 53))) 0 (0 ∷ 3 ∷ 588576468 ∷ [])
    (block (m 4) (p 0) (m 1) (m 3))
    × Quantises (of Y 5 4 1500 (block (m 74) (p 9) (m 12) (m 53))) 0 (0 ∷ 4 ∷ 558049360 ∷ [])
    (block (m 4) (p 1) (m 1) (m 3))
    -- Cb, in either mode
    × Quantises (of U 2 5 700 (block (m 39) (p 15) (m 14) (p 56))) 0 (0 ∷ 3 ∷ 422358757 ∷ [])
    (block (m 2) (p 1) (p 0) (p 3))
    × Quantises (of U 6 5 700 (block (m 39) (p 15) (m 14) (p 56))) 0 (0 ∷ 2 ∷ 412852902 ∷ [])
    (block (m 2) (p 0) (p 0) (p 3))
unfolding quant.called quant_answer quant_buffer costs_of
quantise = ((refl, refl, refl), (refl, refl, refl), (refl, refl, refl), (refl, refl, refl))

-- blocks in which nothing is left
pub empty :
    -- by their price, which has the first entry of cbf all, luma, Cb and Cr
    Quantises (of Y 1 7 1500 (block (p 13) (p 1) (m 12) (p 15))) 0 (0 ∷ 0 ∷ 160590136 ∷ [])
    (block (p 0) (p 0) (p 0) (p 0))
    × Quantises (of Y 6 4 3000 (block (m 22) (m 7) (p 17) (m 28))) 0 (0 ∷ 0 ∷ 524644264 ∷ [])
    (block (p 0) (p 0) (p 0) (p 0))
    × Quantises (of U 6 5 2000 (block (p 24) (p 26) (p 17) (m 7))) 0 (0 ∷ 0 ∷ 431929188 ∷ [])
    (block (p 0) (p 0) (p 0) (p 0))
    × Quantises (of «V» 1 15 2000 (block (m 8) (m 20) (m 32) (p 36))) 0 (0 ∷ 0 ∷ 756744596 ∷ [])
    (block (p 0) (p 0) (p 0) (p 0))
    -- the first of these in an inter slice: skipped
    × Quantises (of Y 2 7 1500 (block (p 13) (p 1) (m 12) (p 15))) 0 (0 ∷ 0 ∷ 193074136 ∷ [])
    (block (p 0) (p 0) (p 0) (p 0))
unfolding quant.called quant_answer quant_buffer costs_of
empty = ((refl, refl, refl), (refl, refl, refl), (refl, refl, refl), (refl, refl, refl), (refl, refl, refl))

-- refused: refusal 3 of V
pub refused :
    Quantises (quant_asked «V» (block (p 1) (p 2) (p 3) (p 4)) 1 4 nan 3 costs) 3 (2 ∷ 0 ∷ 0 ∷ [])
    (block (p 1) (p 2) (p 3) (p 4))
unfolding quant.called quant_answer quant_buffer costs_of
refused = (refl, refl, refl)

-- ---- the transform: accepted, and refused with 6
pub transform :
    (result_of (trans_verdict (called (block (p 1) (p 2) (p 3) (p 4)) 1 1)) ≡ 0)
    × (result_of (trans_verdict (called (block (p 1) (p 2) (m 1024) (p 4)) 1 1)) ≡ 6)
unfolding trans_verdict
transform = (refl, refl)

-- ---- scaling back: accepted, with both clips and a surplus; refused with 1, 2 and 5
abbrev Scales : ScaleBack → ℕ → List ℤ → Type 0
Scales s result after = (result_of (scale_verdict s) ≡ result) × (scale_buffer s ≡ after)

pub scale_back :
    Scales (levels_lent (block (p 9) (m 2) (m 32768) (p 32767)) 1 17) 0 (block (p 648) (m 144) (m 32768) (p 32767))
    × Scales (levels_lent (p 1 ∷ p 2 ∷ m 3 ∷ p 300 ∷ m 7 ∷ []) 1 4) 0 (p 16 ∷ p 32 ∷ m 48 ∷ p 4800 ∷ m 7 ∷ [])
    × Scales (levels_lent (p 2 ∷ []) 6 64) 1 (p 2 ∷ [])
    × Scales (levels_lent (p 2 ∷ []) 1 64) 2 (p 2 ∷ [])
    × Scales (levels_lent (p 2 ∷ []) 1 63) 5 (p 2 ∷ [])
unfolding scale_buffer back
scale_back = ((refl, refl), (refl, refl), (refl, refl), (refl, refl), (refl, refl))

-- ---- the inverse transform: 4 wide and 2 high, the same numbers 2 wide and 4 high; refused with 1 and 5
abbrev Restores : Inverse → ℕ → List ℤ → Type 0
Restores t result after = (result_of (inverse_verdict t) ≡ result) × (inverse_buffer t ≡ after)

abbrev eight : List ℤ
eight = p 91 ∷ m 250 ∷ p 3 ∷ p 7 ∷ m 1900 ∷ p 20 ∷ p 0 ∷ m 61 ∷ []

pub inverse :
    Restores (coefficients_lent eight 2 1) 0 (m 67 ∷ m 58 ∷ m 55 ∷ m 46 ∷ p 52 ∷ p 55 ∷ p 70 ∷ p 72 ∷ [])
    × Restores (coefficients_lent eight 1 2) 0 (m 64 ∷ m 48 ∷ p 56 ∷ p 68 ∷ p 51 ∷ p 73 ∷ m 63 ∷ m 50 ∷ [])
    × Restores (coefficients_lent (p 7 ∷ []) 0 1) 1 (p 7 ∷ [])
    × Restores (coefficients_lent (p 7 ∷ []) 1 6) 1 (p 7 ∷ [])
    × Restores (coefficients_lent (p 7 ∷ []) 1 1) 5 (p 7 ∷ [])
unfolding inverse_buffer
inverse = ((refl, refl), (refl, refl), (refl, refl), (refl, refl), (refl, refl))

-- ---- the guarded call, luma 4×4, with a surplus: the heights are the extremes of what is written, no two of them
-- equal, so that the answer is another where two heights are exchanged
abbrev guard : (run flags : ℕ) → (heights : List ℕ) → List ℤ → GuardedBlock
guard run flags heights buffer =
    guarded_asked buffer 2 (31 ∷ 14 ∷ 24 ∷ []) (parts 1500 ∷ parts 2000 ∷ parts 900 ∷ []) run flags costs heights

abbrev Guards : GuardedBlock → ℕ → List ℕ → List ℤ → Type 0
Guards g result written after =
    (result_of (guarded_answer g) ≡ result) × (guarded_written (guarded_answer g) ≡ written) × (guarded_buffer g ≡ after)

-- luma's residuals of one of the two buffers, which a call keeps that does not run it, and all of that buffer
abbrev luma : List ℤ
luma =
    p 4 ∷ p 5 ∷ p 28 ∷ p 5 ∷ m 18 ∷ m 19 ∷ m 10 ∷ m 10 ∷ p 7 ∷ m 23 ∷ p 32 ∷ m 26 ∷ p 6 ∷ m 33 ∷ m 23 ∷ p 29 ∷ []

abbrev whole : List ℤ
whole = luma ++ (m 2 ∷ m 5 ∷ m 9 ∷ p 4 ∷ p 11 ∷ m 12 ∷ p 20 ∷ m 12 ∷ p 77 ∷ [])

pub guarded :
    -- the walk's blocks, the first 8 places of Y put back; the cheapest blocks, the first 2 places of U put back
    Guards (guard 7 2 (15 ∷ 1 ∷ 5 ∷ 9 ∷ 2 ∷ 4 ∷ []) whole) 0
    (0 ∷ 13 ∷ 3 ∷ 1 ∷ 64550752087 ∷ 1340826756 ∷ 4186996535 ∷ 15 ∷ 1 ∷ 5 ∷ 9 ∷ 2 ∷ 4 ∷ [])
    (m 1 ∷ m 1 ∷ p 0 ∷ p 1 ∷ p 1 ∷ p 0 ∷ m 2 ∷ p 0 ∷ p 1 ∷ m 1 ∷ p 1 ∷ m 1 ∷ p 1 ∷ p 1 ∷ m 1 ∷ p 1
    ∷ m 2 ∷ m 2 ∷ p 0 ∷ p 2 ∷ p 0 ∷ p 3 ∷ p 0 ∷ p 0 ∷ p 77 ∷ [])
    × Guards
    (guard 7 6 (9 ∷ 2 ∷ 3 ∷ 11 ∷ 1 ∷ 5 ∷ [])
    (p 36 ∷ p 2 ∷ m 36 ∷ p 19 ∷ m 12 ∷ p 9 ∷ p 36 ∷ m 16 ∷ p 11 ∷ p 29 ∷ p 34 ∷ p 24 ∷ p 12 ∷ m 15 ∷ m 36 ∷ p 28
    ∷ p 12 ∷ m 1 ∷ m 7 ∷ m 10 ∷ p 13 ∷ m 4 ∷ m 15 ∷ m 4 ∷ p 77 ∷ []))
    0 (0 ∷ 10 ∷ 4 ∷ 2 ∷ 41747107719 ∷ 1816772839 ∷ 4785929818 ∷ 9 ∷ 2 ∷ 3 ∷ 11 ∷ 1 ∷ 5 ∷ [])
    (p 1 ∷ p 0 ∷ p 1 ∷ p 0 ∷ p 0 ∷ p 1 ∷ p 0 ∷ p 0 ∷ m 1 ∷ p 1 ∷ p 3 ∷ m 1 ∷ p 1 ∷ p 0 ∷ p 1 ∷ m 1
    ∷ m 1 ∷ p 3 ∷ p 4 ∷ p 2 ∷ p 0 ∷ p 0 ∷ p 1 ∷ p 1 ∷ p 77 ∷ [])
    -- the first of these without Y, whose heights mean nothing then
    × Guards (guard 6 2 (0 ∷ 1 ∷ 5 ∷ 0 ∷ 2 ∷ 4 ∷ []) whole) 0
    (0 ∷ 0 ∷ 3 ∷ 1 ∷ 0 ∷ 1340826756 ∷ 4186996535 ∷ 0 ∷ 1 ∷ 5 ∷ 0 ∷ 2 ∷ 4 ∷ [])
    (luma ++ (m 2 ∷ m 2 ∷ p 0 ∷ p 2 ∷ p 0 ∷ p 3 ∷ p 0 ∷ p 0 ∷ p 77 ∷ []))
    -- refused: U would get lighter by 2
    × Guards (guard 6 2 (0 ∷ 1 ∷ 5 ∷ 0 ∷ 1 ∷ 4 ∷ []) whole) 15
    (1 ∷ 0 ∷ 0 ∷ 0 ∷ 0 ∷ 0 ∷ 0 ∷ 0 ∷ 0 ∷ 0 ∷ 0 ∷ 0 ∷ 0 ∷ []) whole
unfolding guarded_request guarded_answer guarded_buffer costs_of
guarded = ((refl, refl, refl), (refl, refl, refl), (refl, refl, refl), (refl, refl, refl))

-- ---- `measure`, 2×2: accepted, with a surplus behind either list, and with the lists exchanged; refused with 1, with
-- 2, and with 5 for either list
abbrev Measures : Measure → ℕ → List ℕ → Type 0
Measures a result written = (result_of (measure_answer a) ≡ result) × (measure_written (measure_answer a) ≡ written)

abbrev five : List ℤ
five = p 50 ∷ m 30 ∷ p 7 ∷ m 100 ∷ p 900 ∷ []

abbrev others : List ℤ
others = p 3 ∷ m 1 ∷ p 0 ∷ p 2 ∷ m 5 ∷ []

pub measure :
    Measures (lent five others 1 17) 0 (41 ∷ 114 ∷ [])
    × Measures (lent others five 1 17) 0 (167 ∷ 422 ∷ [])
    × Measures (lent (p 1 ∷ []) (p 2 ∷ []) 0 64) 1 (0 ∷ 0 ∷ [])
    × Measures (lent (p 1 ∷ []) (p 2 ∷ []) 1 64) 2 (0 ∷ 0 ∷ [])
    × Measures (lent (p 1 ∷ p 2 ∷ p 3 ∷ []) five 1 63) 5 (0 ∷ 0 ∷ [])
    × Measures (lent five (p 1 ∷ p 2 ∷ p 3 ∷ []) 1 63) 5 (0 ∷ 0 ∷ [])
unfolding measure_answer back
measure = ((refl, refl), (refl, refl), (refl, refl), (refl, refl), (refl, refl), (refl, refl))

-- ---- symbols written, of 4×4 with a surplus behind the block and behind the list, and of an empty block; refused with
-- 1, 5 and 6, and with 10 where the list is one place short
abbrev Writes : Write → ℕ → (written after : List ℕ) → Type 0
Writes w result written after =
    (result_of (write_answer w) ≡ result) × (write_written (write_answer w) ≡ written) × (write_list w ≡ after)

abbrev sixteen : (surplus : ℤ) → List ℤ
sixteen surplus =
    p 0 ∷ m 3 ∷ p 0 ∷ p 0 ∷ p 7 ∷ p 0 ∷ p 0 ∷ p 32767 ∷ p 0 ∷ p 0 ∷ p 0 ∷ p 0 ∷ m 1 ∷ p 0 ∷ p 0 ∷ p 0 ∷ surplus ∷ []

abbrev told : List ℕ
told = 33557505 ∷ 7168 ∷ 33555462 ∷ 100662274 ∷ []

pub write_symbols :
    Writes (writing (sixteen (p 5)) 2 (9 ∷ 8 ∷ 7 ∷ 6 ∷ 5 ∷ [])) 0 (4 ∷ []) (told ++ (5 ∷ []))
    × Writes (writing (block (p 0) (p 0) (p 0) (p 0)) 1 (4 ∷ [])) 0 (0 ∷ []) (4 ∷ [])
    × Writes (writing (m 32768 ∷ []) 6 (7 ∷ [])) 1 (0 ∷ []) (7 ∷ [])
    × Writes (writing (m 32768 ∷ []) 1 (7 ∷ [])) 5 (0 ∷ []) (7 ∷ [])
    × Writes (writing (block (p 1) (p 0) (m 32768) (p 0)) 1 (7 ∷ [])) 6 (0 ∷ []) (7 ∷ [])
    × Writes (writing (sixteen (p 5)) 2 (9 ∷ 8 ∷ 7 ∷ [])) 10 (0 ∷ []) (9 ∷ 8 ∷ 7 ∷ [])
unfolding write_answer write_list
write_symbols = (
  (refl, refl, refl),
  (refl, refl, refl),
  (refl, refl, refl),
  (refl, refl, refl),
  (refl, refl, refl),
  (refl, refl, refl),
)

-- ---- symbols read, the same over other levels, and none; refused with 1 and 5, and with 11 where the last is missing
abbrev Reads : Read → ℕ → List ℤ → Type 0
Reads r result after = (result_of (read_verdict r) ≡ result) × (read_buffer r ≡ after)

abbrev before : List ℤ
before =
    m 9 ∷ p 8 ∷ m 7 ∷ p 6 ∷ m 5 ∷ p 4 ∷ m 3 ∷ p 2 ∷ m 1 ∷ p 0 ∷ p 1 ∷ m 2 ∷ p 3 ∷ m 4 ∷ p 5 ∷ m 6 ∷ p 77 ∷ []

pub read_symbols :
    Reads (reading told before 2) 0 (sixteen (p 77))
    × Reads (reading [] (block (p 1) (p 2) (p 3) (p 4)) 1) 0 (block (p 0) (p 0) (p 0) (p 0))
    × Reads (reading (0 ∷ []) (p 7 ∷ []) 0) 1 (p 7 ∷ [])
    × Reads (reading (0 ∷ []) (p 7 ∷ []) 1) 5 (p 7 ∷ [])
    × Reads (reading (33557505 ∷ 7168 ∷ 33555462 ∷ []) before 2) 11 before
unfolding read_verdict read_buffer
read_symbols = ((refl, refl), (refl, refl), (refl, refl), (refl, refl), (refl, refl))
