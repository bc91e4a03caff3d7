-- `rescale::step` meets its contract: product and sum stay within 32 bits, and the machine reads them as they are.
use mathlib.Core.Path.{◌≡◌, ap, ◌∙◌}
use Prim.Native.Nat.{ℕ, ◌*◌, ◌^◌, ◌≤◌}
use native.Mathlib.Nat.{mul-le-mul}
use native.Mathlib.Omega.{arith}
use lib.IntN.{ℤ, pos, nat_abs, ◌+ℤ◌, ◌*ℤ◌}
use lib.Signed.{shr_z}
use mir.Syntax.{w16, w32}
use mir.Val.{SFits, to_z, of_z}
use mir.Facts.{to_z-of_z, to_z_pos, sfits_widen}
use Rattle.integers.specs.Clip.{clipped}
use Rattle.integers.proofs.Clip.{clipped_fits}
use Rattle.integers.proofs.Fit.{fits, magnitude_of, shift_fits}
use Rattle.integers.proofs.Magnitude.{magnitude-+, magnitude-*}
use Rattle.rescale.specs.Inner.Step.{stepped}
use Rattle.rescale.proofs.step.Goals as goal

module _ (level times : ℤ) (half : ℕ) (read : SFits w16 level) (bound : nat_abs times ≤ 18432) where
  small : nat_abs (level *ℤ times) ≤ 32768 * 18432
  small = omega (arith, magnitude-* level times, mul-le-mul (magnitude_of level read) bound)

  product_fits : SFits w32 (level *ℤ times)
  product_fits = fits (level *ℤ times) (omega (arith, small))

  whole_fits : half ≤ 32 → SFits w32 (level *ℤ times +ℤ pos half)
  whole_fits h = fits (level *ℤ times +ℤ pos half) (omega (arith, small, magnitude-+ (level *ℤ times) (pos half)))

half_is : (half : ℕ) → half ≤ 32 → to_z w32 half ≡ pos half
half_is half h = to_z_pos w32 (omega arith)

pub overflow_add-z : goal.overflow_add-z
overflow_add-z c =
    let level = c.args.level in
    let times = c.args.times in
    let l = c.ranges.level in
    let t = c.ranges.times in
    let l32 : SFits w32 level = sfits_widen tt l in
    let t32 : SFits w32 times = sfits_widen tt t in
    let p = product_fits level times c.args.half l c.requires.0 in
    simp (c.from.ensures, c.from-2.ensures, to_z-of_z, half_is c.args.half c.requires.1)
    (whole_fits level times c.args.half l c.requires.0 c.requires.1)

pub returns : goal.returns
unfolding stepped
returns c =
    let level = c.args.level in
    let times = c.args.times in
    let half = c.args.half in
    let l = c.ranges.level in
    let t = c.ranges.times in
    let l32 : SFits w32 level = sfits_widen tt l in
    let t32 : SFits w32 times = sfits_widen tt t in
    let p = product_fits level times half l c.requires.0 in
    let w = whole_fits level times half l c.requires.0 c.requires.1 in
    let z = shr_z (level *ℤ times +ℤ pos half) (2 ^ c.args.down) in
    let f : SFits w32 z = shift_fits w32 (level *ℤ times +ℤ pos half) (2 ^ c.args.down) w in
    let e : c.clip.result ≡ clipped z =
    simp (c.from.ensures, c.from-2.ensures, to_z-of_z, half_is half c.requires.1) at c.clip.ensures in
    ap (λ (y : ℤ). to_z w16 (of_z w16 y)) e ∙ to_z-of_z (clipped_fits z)
