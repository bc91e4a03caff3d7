-- Side 4 is not returned exactly: a residual of 37 in the corner of a block comes back, one of 38 comes back as 39.
-- Assumes nothing.
use mathlib.Core.Path.{◌≡◌, refl, sym, ◌∙◌}
use mathlib.Core.List.{List}
use Prim.Native.Nat.{ℕ}
use native.Mathlib.Omega.{arith}
use lib.IntN.{ℤ}
use Rattle.refusals.specs.Faults.{passed}
use Rattle.transform.specs.Call.{called, trans_verdict, trans_buffer}
use Rattle.transform.proofs.Numbers.{p, corner}
use Rattle.decoding.specs.Call.{inverse_verdict, inverse_buffer}
use Rattle.returned.specs.Returned.{Leaves, Returned}

-- accepted, and back as this
abbrev pub BackAs : (block after : List ℤ) → Type 0
BackAs block after =
    (trans_verdict (called block 2 2) ≡ passed) × Leaves (trans_buffer (called block 2 2)) 2 2 after

pub numbers : BackAs (corner (p 37)) (corner (p 37)) × BackAs (corner (p 38)) (corner (p 39))
unfolding trans_verdict trans_buffer inverse_verdict inverse_buffer
numbers = ((refl, (refl, refl)), (refl, (refl, refl)))

pub side_4_does_not_return : ¬ Returned 2 2
side_4_does_not_return f =
    let there = numbers.1 in
    let e : corner (p 39) ≡ corner (p 38) = sym there.1.1 ∙ (f (corner (p 38)) there.0).1 in
    let z : ◌≡◌ {A = ℕ} 39 38 = cc in
    omega arith
