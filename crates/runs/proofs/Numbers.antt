-- Numbers for both calls, worked out apart from the definitions and computed over those of the calls: the lists of some
-- blocks, and the blocks that these lists tell.
use mathlib.Core.Path.{◌≡◌, refl}
use mathlib.Core.List.{List, [], ◌∷◌, ◌++◌}
use Prim.Native.Nat.{ℕ}
use lib.ListN.{replicate}
use lib.IntN.{ℤ}
use Rattle.refusals.specs.Faults.{passed, accepted}
use Rattle.runs.specs.Call.{Write, writing, write_answer, write_list}
use Rattle.runs.specs.Call.{Read, reading, read_verdict, read_buffer}
use Rattle.runs.proofs.Amiss.{p, m, rectangle, rectangle_read, held}

-- ---- the writer
-- accepted with this count, and this list at the end
abbrev pub Writes : Write → (count : ℕ) → List ℕ → Type 0
Writes w count after = (write_answer w ≡ accepted count) × (write_list w ≡ after)

-- 4 by 4: -7, 8, 1 and -300 are met in this order
abbrev pub four : List ℤ
four = p 0 ∷ p 0 ∷ p 8 ∷ p 0 ∷ m 7 ∷ p 0 ∷ p 0 ∷ m 300 ∷ p 0 ∷ p 0 ∷ p 0 ∷ p 0 ∷ p 1 ∷ p 0 ∷ p 0 ∷ p 0 ∷ []

-- 6 and -5 in eight places
abbrev pub eight : List ℤ
eight = p 0 ∷ p 0 ∷ p 6 ∷ p 0 ∷ m 5 ∷ p 0 ∷ p 0 ∷ p 0 ∷ []

abbrev pub WritingNumbers : Type 0
WritingNumbers =
    -- two symbols: run 0, 3; run 2, -1, last. Places behind them
    Writes (writing (p 3 ∷ p 0 ∷ p 0 ∷ m 1 ∷ []) 1 (7 ∷ 8 ∷ 9 ∷ 10 ∷ [])) 2 (3072 ∷ 100664322 ∷ 9 ∷ 10 ∷ [])
    -- as many symbols as places, and as many places in the list
    × Writes (writing (p 1 ∷ p 2 ∷ p 3 ∷ p 4 ∷ []) 1 (7 ∷ 8 ∷ 9 ∷ 10 ∷ [])) 4
    (1024 ∷ 2048 ∷ 3072 ∷ 67112960 ∷ [])
    -- the surplus behind the block has no symbol, and no fault
    × Writes (writing (p 0 ∷ p 5 ∷ p 0 ∷ p 0 ∷ p 9 ∷ m 32768 ∷ []) 1 (7 ∷ 8 ∷ [])) 1 (67113985 ∷ 8 ∷ [])
    -- the largest magnitudes
    × Writes (writing (p 32767 ∷ p 0 ∷ m 32767 ∷ p 0 ∷ []) 1 (7 ∷ 8 ∷ [])) 2 (33553408 ∷ 134216705 ∷ [])
    -- the empty block, and no place in the list
    × Writes (writing (p 0 ∷ p 0 ∷ p 0 ∷ p 0 ∷ []) 1 (7 ∷ 8 ∷ [])) 0 (7 ∷ 8 ∷ [])
    × Writes (writing (p 0 ∷ p 0 ∷ p 0 ∷ p 0 ∷ []) 1 []) 0 []
    -- the scan's order on 4 by 4, on 4 by 2 and on 2 by 4
    × Writes (writing four 2 (1 ∷ 2 ∷ 3 ∷ 4 ∷ [])) 4 (33561602 ∷ 8194 ∷ 1027 ∷ 100970498 ∷ [])
    × Writes (rectangle 2 1 eight (1 ∷ 2 ∷ 3 ∷ [])) 2 (33559554 ∷ 67115009 ∷ 3 ∷ [])
    × Writes (rectangle 1 2 eight (1 ∷ 2 ∷ 3 ∷ [])) 2 (6146 ∷ 100668416 ∷ 3 ∷ [])
    -- the longest run of 16 by 16: 255 zeros, and -1
    × Writes (writing (replicate 255 (p 0) ++ m 1 ∷ []) 4 (7 ∷ [])) 1 (100664575 ∷ [])

pub writing_numbers : WritingNumbers
unfolding write_answer write_list
writing_numbers = (
  (refl, refl),
  (refl, refl),
  (refl, refl),
  (refl, refl),
  (refl, refl),
  (refl, refl),
  (refl, refl),
  (refl, refl),
  (refl, refl),
  (refl, refl),
)

-- ---- the reader
-- accepted, with this buffer at the end
abbrev pub Reads : Read → List ℤ → Type 0
Reads r after = (read_verdict r ≡ passed) × (read_buffer r ≡ after)

abbrev pub ReadingNumbers : Type 0
ReadingNumbers =
    -- the blocks from above; a surplus behind the first
    Reads (reading (3072 ∷ 100664322 ∷ []) (held 5) 1) (p 3 ∷ p 0 ∷ p 0 ∷ m 1 ∷ p 9 ∷ [])
    × Reads (reading (1024 ∷ 2048 ∷ 3072 ∷ 67112960 ∷ []) (held 4) 1) (p 1 ∷ p 2 ∷ p 3 ∷ p 4 ∷ [])
    × Reads (reading (33553408 ∷ 134216705 ∷ []) (held 4) 1) (p 32767 ∷ p 0 ∷ m 32767 ∷ p 0 ∷ [])
    × Reads (reading [] (held 6) 1) (p 0 ∷ p 0 ∷ p 0 ∷ p 0 ∷ p 9 ∷ p 9 ∷ [])
    × Reads (reading (33561602 ∷ 8194 ∷ 1027 ∷ 100970498 ∷ []) (held 16) 2) four
    × Reads (rectangle_read 2 1 (33559554 ∷ 67115009 ∷ []) (held 8)) eight
    × Reads (rectangle_read 1 2 (6146 ∷ 100668416 ∷ []) (held 8)) eight
    -- the longest runs of 2 by 2 and of 16 by 16, and that of 32 by 32, which is the longest that the field has
    × Reads (reading (67109891 ∷ []) (held 4) 1) (p 0 ∷ p 0 ∷ p 0 ∷ p 1 ∷ [])
    × Reads (reading (100664575 ∷ []) (held 256) 4) (replicate 255 (p 0) ++ m 1 ∷ [])
    × (read_verdict (reading (100665343 ∷ []) (held 1024) 5) ≡ passed)

pub reading_numbers : ReadingNumbers
unfolding read_verdict read_buffer
reading_numbers = (
  (refl, refl),
  (refl, refl),
  (refl, refl),
  (refl, refl),
  (refl, refl),
  (refl, refl),
  (refl, refl),
  (refl, refl),
  (refl, refl),
  refl,
)
