-- The paper's numbers for the transform, P1, P3 and P4, and the order of its faults, computed over the definitions of
-- the call.
use mathlib.Core.Path.{◌≡◌, refl}
use mathlib.Core.List.{List, [], ◌∷◌}
use Prim.Native.Nat.{ℕ}
use lib.IntN.{ℤ, pos, neg_ℤ}
use Rattle.refusals.specs.Faults.{passed, refused}
use Rattle.transform.specs.Call.{Trans, trans_verdict, trans_buffer}

-- n, and -n
abbrev pub p : ℕ → ℤ
p n = pos n

abbrev pub m : ℕ → ℤ
m n = neg_ℤ (pos n)

-- a call on a buffer
abbrev pub call : (lw lh : ℕ) → List ℤ → Trans
call lw lh buffer = record { buffer = buffer; lw = lw; lh = lh }

-- accepted, with this buffer at the end
abbrev pub Gives : Trans → List ℤ → Type 0
Gives t after = (trans_verdict t ≡ passed) × (trans_buffer t ≡ after)

-- refused, with the buffer as it was
abbrev pub Refuses : Trans → ℕ → Type 0
Refuses t number = (trans_verdict t ≡ refused number 0) × (trans_buffer t ≡ t.buffer)

abbrev pub corner : ℤ → List ℤ
corner z =
    z ∷ p 0 ∷ p 0 ∷ p 0 ∷ p 0 ∷ p 0 ∷ p 0 ∷ p 0 ∷ p 0 ∷ p 0 ∷ p 0 ∷ p 0 ∷ p 0 ∷ p 0 ∷ p 0 ∷ p 0 ∷ []

abbrev pub Numbers : Type 0
Numbers =
    -- P1, with a surplus behind the block
    Gives (call 1 1 (p 1 ∷ p 2 ∷ p 3 ∷ p 4 ∷ p 5 ∷ m 6 ∷ [])) (p 80 ∷ m 16 ∷ m 32 ∷ p 0 ∷ p 5 ∷ m 6 ∷ [])
    -- P3
    × Gives (call 2 2 (corner (p 4)))
    (p 8 ∷ p 11 ∷ p 8 ∷ p 4 ∷ p 11 ∷ p 14 ∷ p 11 ∷ p 6 ∷ p 8 ∷ p 11 ∷ p 8 ∷ p 4 ∷ p 4 ∷ p 6 ∷ p 4 ∷ p 2 ∷ [])
    -- P4: halves round up also below 0
    × Gives (call 2 2 (corner (m 4)))
    (m 8 ∷ m 10 ∷ m 8 ∷ m 4 ∷ m 10 ∷ m 14 ∷ m 10 ∷ m 6 ∷ m 8 ∷ m 10 ∷ m 8 ∷ m 4 ∷ m 4 ∷ m 6 ∷ m 4 ∷ m 2 ∷ [])
    -- a rectangle, 4 wide and 2 high: rows and columns are not mixed up
    × Gives (call 2 1 (p 0 ∷ p 0 ∷ p 0 ∷ p 0 ∷ p 16 ∷ p 0 ∷ p 0 ∷ p 0 ∷ []))
    (p 64 ∷ p 84 ∷ p 64 ∷ p 35 ∷ m 64 ∷ m 84 ∷ m 64 ∷ m 35 ∷ [])

pub numbers : Numbers
unfolding trans_verdict trans_buffer
numbers = ((refl, refl), (refl, refl), (refl, refl), (refl, refl))

-- several faults at once: the first of the list decides
pub order :
    -- a side, a short buffer and a residual
    Refuses (call 6 1 (p 1024 ∷ [])) 1
    × Refuses (call 1 0 (p 1024 ∷ [])) 1
    -- a short buffer and a residual
    × Refuses (call 1 1 (p 1024 ∷ p 0 ∷ p 0 ∷ [])) 5
    -- a residual alone, at either end of the range; in the surplus it is no fault
    × Refuses (call 1 1 (p 0 ∷ p 0 ∷ p 0 ∷ m 1024 ∷ [])) 6
    × Gives (call 1 1 (p 1023 ∷ p 1023 ∷ p 1023 ∷ p 1023 ∷ p 1024 ∷ [])) (p 32736 ∷ p 0 ∷ p 0 ∷ p 0 ∷ p 1024 ∷ [])
unfolding trans_verdict trans_buffer
order = ((refl, refl), (refl, refl), (refl, refl), (refl, refl), (refl, refl))
