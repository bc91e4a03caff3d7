-- `residuals::block::settle` meets its contract: 12 of the 17 bits have nothing to round, and no clip acts.
use mathlib.Core.Path.{◌≡◌, sym, ◌∙◌, ap}
use Prim.Native.Nat.{◌≤◌}
use native.Mathlib.Omega.{arith}
use lib.Dec.{lit<}
use lib.IntN.{ℤ, pos, nat_abs, ◌+ℤ◌, ◌*ℤ◌}
use lib.Signed.{shr_z}
use mir.Syntax.{w16, w32}
use mir.Val.{SFits}
use mir.Facts.{to_z-of_z}
use Rattle.integers.specs.Floor.{rounded}
use Rattle.integers.specs.Clip.{clipped}
use Rattle.integers.proofs.Magnitude.{magnitude-+}
use Rattle.integers.proofs.Fit.{fits_within}
use Rattle.integers.proofs.Floor.{floor_bound}
use Rattle.integers.proofs.Split.{floor_in_two}
use Rattle.integers.proofs.Clip.{clip_within}
use Rattle.residuals.proofs.block.settle.Goals as goal

module _ (z : ℤ) (h : nat_abs z ≤ 131072) where
  raised : SFits w32 (z +ℤ pos 16)
  raised = fits_within (z +ℤ pos 16) 131088 (omega (arith, magnitude-+ z (pos 16))) (lit< tt)

  plain : SFits w32 z
  plain = fits_within z 131072 h (lit< tt)

  shifted : nat_abs (shr_z (z +ℤ pos 16) 32) ≤ 4096
  shifted = floor_bound z 16 32 4096 (lit< tt) (omega arith)

  settled_16 : SFits w16 (shr_z (z +ℤ pos 16) 32)
  settled_16 = fits_within (shr_z (z +ℤ pos 16) 32) 4096 shifted (lit< tt)

  settled_32 : SFits w32 (shr_z (z +ℤ pos 16) 32)
  settled_32 = fits_within (shr_z (z +ℤ pos 16) 32) 4096 shifted (lit< tt)

  same : shr_z (z +ℤ pos 16) 32 ≡ clipped (rounded (pos 4096 *ℤ z) 17)
  same =
      sym (clip_within (shr_z (z +ℤ pos 16) 32) (omega (arith, shifted)))
      ∙ ap clipped (sym (floor_in_two 4096 (lit< tt) z (pos 65536) 32 (lit< tt)))

pub returns : goal.returns
returns c =
    let f = plain c.args.z c.requires in
    let g = raised c.args.z c.requires in
    let k = settled_32 c.args.z c.requires in
    let l = settled_16 c.args.z c.requires in
    simp to_z-of_z (same c.args.z c.requires)
