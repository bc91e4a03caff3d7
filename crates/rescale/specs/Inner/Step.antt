-- Scaling back as the code does it: a level times a number of 16 bits, a half added, shifted right, clipped to 16 bits.
-- What is common to the factor and to the shift is left out of both.
use Rattle.std.specs.Prelude.{ℕ, ◌^◌, ℤ, pos, ◌+ℤ◌, ◌*ℤ◌}
use Rattle.std.specs.Int.Signed.{shr_z}
use Rattle.integers.specs.Clip.{clipped}

unfoldable pub stepped : (times : ℤ) (half down : ℕ) → ℤ → ℤ
stepped times half down level = clipped (shr_z (level *ℤ times +ℤ pos half) (2 ^ down))
