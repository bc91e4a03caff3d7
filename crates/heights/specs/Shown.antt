-- What a viewer shows of a sample: the guess with what is decoded added, clipped to 10 bits, which are what a camera's
-- sample has.
use Rattle.std.specs.Prelude.{cond, ℤ, pos, ◌+ℤ◌}
use Rattle.std.specs.Int.Signed.{lt_z}

-- the nearest of 0 to 1023
unfoldable pub clip10 : ℤ → ℤ
clip10 z = cond (lt_z z (pos 0)) (pos 0) (cond (lt_z (pos 1023) z) (pos 1023) z)

unfoldable pub shown : (guess decoded : ℤ) → ℤ
unfolding clip10
shown guess decoded = clip10 (guess +ℤ decoded)
