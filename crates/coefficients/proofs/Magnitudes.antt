-- What `unsigned_abs` answers of a coefficient, as 16 bits hold it, is its magnitude.
use mathlib.Core.Path.{◌≡◌, ap, ◌∙◌}
use Prim.Native.Nat.{ℕ}
use lib.IntN.{ℤ, nat_abs}
use mir.Syntax.{w16}
use mir.Val.{SFits, to_z, of_z}
use mir.Facts.{to_z-of_z}

pub magnitude_is : (z : ℤ) (r : ℕ) → SFits w16 z → r ≡ nat_abs (to_z w16 (of_z w16 z)) → r ≡ nat_abs z
magnitude_is z r f e = e ∙ ap nat_abs (to_z-of_z {w = w16} {z = z} f)
