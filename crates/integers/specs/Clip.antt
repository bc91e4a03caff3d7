-- A number clipped to 16 bits: the nearest that a sample of 16 bits can hold.
use Rattle.std.specs.Prelude.{cond, ℤ, pos, negsuc}
use Rattle.std.specs.Int.Signed.{lt_z}

unfoldable pub clipped : ℤ → ℤ
clipped z = cond (lt_z z (negsuc 32767)) (negsuc 32767) (cond (lt_z (pos 32767) z) (pos 32767) z)
