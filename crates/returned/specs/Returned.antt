-- What it is that a block's residuals come back: whatever the transform accepts, the inverse accepts of it, and leaves
-- the buffer that the transform was lent, its surplus included.
use Rattle.std.specs.Prelude.{◌≡◌, List, ℕ, ℤ}
use Rattle.refusals.specs.Faults.{passed}
use Rattle.transform.specs.Call.{called, trans_verdict, trans_buffer}
use Rattle.decoding.specs.Call.{coefficients_lent, inverse_verdict, inverse_buffer}

-- the inverse of these coefficients leaves this buffer
abbrev pub Leaves : (coefficients : List ℤ) (lw lh : ℕ) (buffer : List ℤ) → Type 0
Leaves coefficients lw lh buffer =
    (inverse_verdict (coefficients_lent coefficients lw lh) ≡ passed)
    × (inverse_buffer (coefficients_lent coefficients lw lh) ≡ buffer)

-- blocks with these log2 sides are returned exactly
abbrev pub Returned : (lw lh : ℕ) → Type 0
Returned lw lh =
    (buffer : List ℤ) → trans_verdict (called buffer lw lh) ≡ passed
    → Leaves (trans_buffer (called buffer lw lh)) lw lh buffer
