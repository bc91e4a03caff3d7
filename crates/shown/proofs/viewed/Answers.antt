-- `shown::viewed` meets its contract: by the residual's sign.
use Rattle.std.proofs.Common.{◌≡◌, min, ℤ, pos, negsuc, ◌+ℤ◌, w16, arith, to_z-of_z}
use Rattle.std.specs.Int.{saturate_unsigned}
use Rattle.std.proofs.lemmas.Int.{ints}
use Rattle.shown.specs.Shown.{viewed_of}
use Rattle.shown.proofs.viewed.Goals as goal

clipped : (z : ℤ) → min (saturate_unsigned w16 (pos 700 +ℤ z)) 1023 ≡ viewed_of z
unfolding viewed_of
clipped (pos n) = omega (arith, ints)
clipped (negsuc n) = omega (arith, ints)

pub returns : goal.returns
returns c =
    let e = clipped c.args.residual in
    let h = rw (to_z-of_z c.ranges.residual) at c.saturating_add_signed.ensures in
    (omega arith, omega arith)
