-- What can be amiss with either call, computed: each fault by itself, each thing that a list can have wrong by itself,
-- and the order of the faults, in which the first that holds decides.
use mathlib.Core.Path.{◌≡◌, refl}
use mathlib.Core.List.{List, [], ◌∷◌}
use Prim.Native.Nat.{ℕ}
use lib.ListN.{replicate}
use lib.IntN.{ℤ, pos, neg_ℤ}
use Rattle.refusals.specs.Faults.{refused}
use Rattle.runs.specs.Call.{Write, writing, write_answer, write_list}
use Rattle.runs.specs.Call.{Read, reading, read_verdict, read_buffer}

-- n, and -n
abbrev pub p : ℕ → ℤ
p n = pos n

abbrev pub m : ℕ → ℤ
m n = neg_ℤ (pos n)

-- ---- the writer: a side (1), a short block (5), a level of -32768 (6), too short a list (10)
-- a block w wide and h high, by its log2 sides
abbrev pub rectangle : (lw lh : ℕ) → List ℤ → List ℕ → Write
rectangle lw lh buffer list = record { buffer = buffer; lw = lw; lh = lh; list = list }

-- refused, with the list as it was
abbrev pub RefusesToWrite : Write → ℕ → Type 0
RefusesToWrite w number = (write_answer w ≡ refused number 0) × (write_list w ≡ w.list)

-- several faults at once: the first of the list decides
pub writing_order :
    -- all four; the side too small and too large, in either direction
    RefusesToWrite (writing (m 32768 ∷ p 1 ∷ []) 6 []) 1
    × RefusesToWrite (rectangle 0 2 (m 32768 ∷ p 1 ∷ []) []) 1
    × RefusesToWrite (rectangle 1 6 (m 32768 ∷ p 1 ∷ []) []) 1
    -- all but the side
    × RefusesToWrite (writing (m 32768 ∷ p 1 ∷ p 1 ∷ []) 1 []) 5
    -- a level of -32768 and too short a list
    × RefusesToWrite (writing (m 32768 ∷ p 1 ∷ p 0 ∷ p 0 ∷ []) 1 []) 6
    -- each alone
    × RefusesToWrite (writing (p 1 ∷ []) 0 (7 ∷ [])) 1
    × RefusesToWrite (writing (p 1 ∷ p 1 ∷ p 1 ∷ []) 1 (7 ∷ 8 ∷ 9 ∷ 10 ∷ [])) 5
    × RefusesToWrite (writing (p 1 ∷ p 0 ∷ p 0 ∷ m 32768 ∷ []) 1 (7 ∷ 8 ∷ 9 ∷ 10 ∷ [])) 6
    × RefusesToWrite (writing (p 1 ∷ p 0 ∷ p 1 ∷ p 0 ∷ []) 1 (7 ∷ [])) 10
unfolding write_answer write_list
writing_order = (
  (refl, refl),
  (refl, refl),
  (refl, refl),
  (refl, refl),
  (refl, refl),
  (refl, refl),
  (refl, refl),
  (refl, refl),
  (refl, refl),
)

-- ---- the reader: a side (1), a short block (5), a wrong symbol (11)
abbrev pub rectangle_read : (lw lh : ℕ) → List ℕ → List ℤ → Read
rectangle_read lw lh list buffer = record { list = list; buffer = buffer; lw = lw; lh = lh }

-- refused, with the buffer as it was
abbrev pub RefusesToRead : Read → ℕ → Type 0
RefusesToRead r number = (read_verdict r ≡ refused number 0) × (read_buffer r ≡ r.buffer)

-- buffers that hold something else
abbrev pub held : ℕ → List ℤ
held n = replicate n (p 9)

-- each thing that a list can have wrong, by itself
pub each_wrong_symbol :
    -- a zero magnitude, with either sign
    RefusesToRead (reading (67108864 ∷ []) (held 4) 1) 11
    × RefusesToRead (reading (100663296 ∷ []) (held 4) 1) 11
    × RefusesToRead (reading (0 ∷ 67109888 ∷ []) (held 4) 1) 11
    -- an unused bit, the lowest and the highest
    × RefusesToRead (reading (201327616 ∷ []) (held 4) 1) 11
    × RefusesToRead (reading (2214593536 ∷ []) (held 4) 1) 11
    -- a run past the block, by itself and after another symbol
    × RefusesToRead (reading (67109892 ∷ []) (held 4) 1) 11
    × RefusesToRead (reading (1025 ∷ 67109890 ∷ []) (held 4) 1) 11
    -- more symbols than places
    × RefusesToRead (reading (1024 ∷ 1024 ∷ 1024 ∷ 1024 ∷ 67109888 ∷ []) (held 4) 1) 11
    -- no last mark
    × RefusesToRead (reading (1024 ∷ []) (held 4) 1) 11
    × RefusesToRead (reading (1024 ∷ 1024 ∷ []) (held 4) 1) 11
    -- a symbol after a last mark, with one of its own and without
    × RefusesToRead (reading (67109888 ∷ 67109888 ∷ []) (held 4) 1) 11
    × RefusesToRead (reading (67109888 ∷ 1024 ∷ []) (held 4) 1) 11
unfolding read_verdict read_buffer
each_wrong_symbol = (
  (refl, refl),
  (refl, refl),
  (refl, refl),
  (refl, refl),
  (refl, refl),
  (refl, refl),
  (refl, refl),
  (refl, refl),
  (refl, refl),
  (refl, refl),
  (refl, refl),
  (refl, refl),
)

-- several faults at once: the first of the list decides
pub reading_order :
    -- all three; the side too large and too small, in either direction
    RefusesToRead (reading (0 ∷ []) (held 3) 6) 1
    × RefusesToRead (reading (0 ∷ []) [] 0) 1
    × RefusesToRead (rectangle_read 6 1 (0 ∷ []) (held 3)) 1
    -- a short block and a wrong symbol
    × RefusesToRead (reading (0 ∷ []) (held 3) 1) 5
    -- each alone
    × RefusesToRead (reading [] (held 1) 0) 1
    × RefusesToRead (reading [] (held 3) 1) 5
    × RefusesToRead (reading (0 ∷ []) (held 4) 1) 11
unfolding read_verdict read_buffer
reading_order = (
  (refl, refl),
  (refl, refl),
  (refl, refl),
  (refl, refl),
  (refl, refl),
  (refl, refl),
  (refl, refl),
)
