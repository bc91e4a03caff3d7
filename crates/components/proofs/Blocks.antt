-- One block by itself: what the transform makes of residuals that fill it and are all tame, how long what the quantiser
-- leaves is, and what the residuals' fault of a component says of its stretch.
use mathlib.Core.Path.{◌≡◌, sym, ap, ◌∙◌}
use mathlib.Core.Bool.{false, ◌&&◌}
use mathlib.Core.List.{List, ◌++◌, append-nil}
use Prim.Native.Nat.{ℕ}
use native.Mathlib.Nat.{le_refl}
use native.Mathlib.Omega.{arith}
use borrow.Author.Tests.{le-ltb}
use lib.ListN.{length, drop}
use lib.Seq.{take_all, take-take, drop-length}
use lib.IntN.{ℤ}
use Rattle.integers.specs.Tests.{some}
use Rattle.scan.proofs.Laid.{laid_length}
use Rattle.refusals.specs.declared.Component.{Component}
use Rattle.refusals.specs.Sides.{most_log2}
use Rattle.refusals.specs.Faults.{outside, passed}
use Rattle.refusals.proofs.First.{end, but, accepted_without_a_fault}
use Rattle.transform.specs.Coefficients.{coefficients}
use Rattle.transform.specs.Call.{Trans, wild, places, side_fault, length_fault, sample_fault, trans_faults, trans_verdict}
use Rattle.transform.specs.Call.{trans_buffer, transformed}
use Rattle.coding.specs.Block.{Quant, block_places, signs, scanned, magnitudes, quantised}
use Rattle.components.specs.Call.{SubBlock, runs, area, start, stretch, trans_of, in_trans}

-- tame residuals that fill their block: the transform accepts them, and leaves their coefficients
module _ (t : Trans) (wide : outside 1 most_log2 t.lw ≡ false) (high : outside 1 most_log2 t.lh ≡ false)
    (long : length t.buffer ≡ places t)
    (tame : some wild t.buffer ≡ false) where
  pub block_accepted : trans_verdict t ≡ passed
  unfolding trans_verdict trans_faults side_fault length_fault sample_fault
  block_accepted =
      accepted_without_a_fault t trans_faults
      (but (rw (wide, high))
      (but (le-ltb (length t.buffer) (places t) (omega arith))
      (but (ap (λ (l : List ℤ). some wild l) (take_all (places t) t.buffer (omega arith)) ∙ tame)
      end)))

  pub block_leaves : trans_buffer t ≡ coefficients t.buffer t.lw t.lh
  unfolding trans_buffer transformed
  block_leaves =
      rw block_accepted
      (ap (λ (l : List ℤ). coefficients t.buffer t.lw t.lh ++ l) (ap (λ (n : ℕ). drop n t.buffer) (sym long)
      ∙ drop-length t.buffer)
      ∙ append-nil (coefficients t.buffer t.lw t.lh))

-- the levels are as many as the coefficients
pub quantised_length : (c : Quant) → length (quantised c) ≡ length c.buffer
unfolding quantised
quantised_length c = laid_length (block_places c) (signs (scanned c) (magnitudes c)) c.buffer

-- the residuals' fault of a component that is run is about its stretch
pub sample_of_stretch : (k : Component) (s : SubBlock)
    → (in_trans k sample_fault).holds s ≡ (runs k s && some wild (stretch k s))
unfolding in_trans sample_fault trans_of places stretch area
sample_of_stretch k s =
    ap (λ (l : List ℤ). runs k s && some wild l) (take-take (area k s) (area k s) (drop (start k s) s.buffer)
    (le_refl (area k s)))
