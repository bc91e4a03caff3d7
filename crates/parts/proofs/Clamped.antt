-- The library's clamp to the numbers of 16 bits is the definition's clip.
use mathlib.Core.Path.{◌≡◌}
use Rattle.std.proofs.Common.{arith}
use Rattle.std.specs.Int.{int_max, int_min}
use lib.IntN.{ℤ, pos, negsuc}
use Rattle.integers.specs.Clip.{clipped}

pub clamped : (z : ℤ) → int_max (negsuc 32767) (int_min z (pos 32767)) ≡ clipped z
unfolding clipped
clamped z = grind arith
