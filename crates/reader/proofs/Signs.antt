-- A symbol's level as the machine holds it in 16 bits: a magnitude of 15 bits, or its negation.
use mathlib.Core.Path.{◌≡◌, refl, ◌∙◌}
use Prim.Native.Nat.{ℕ, zero, suc, ◌<◌, ◌^◌}
use native.Mathlib.Omega.{arith}
use lib.IntN.{pos, neg_ℤ, ◌-ℤ◌, +ℤ_idl}
use mir.Syntax.{w16}
use mir.Val.{to_z, of_z, SFits}
use mir.Facts.{to_z-of_z}

module _ (a : ℕ) (h : a < 2 ^ 15) where
  up : SFits w16 (pos a)
  up = record { sfits = omega arith }

  down : (n : ℕ) → n < 2 ^ 15 → SFits w16 (neg_ℤ (pos n))
  down zero k = record { sfits = omega arith }
  down (suc n) k = record { sfits = omega arith }

  held : to_z w16 (of_z w16 (pos a)) ≡ pos a
  held = to_z-of_z {w = w16} {z = pos a} up

  pub negated_fits : SFits w16 (pos 0 -ℤ to_z w16 (of_z w16 (pos a)))
  negated_fits = rw (held, +ℤ_idl) (down a h)

  pub negated : to_z w16 (of_z w16 (pos 0 -ℤ to_z w16 (of_z w16 (pos a)))) ≡ neg_ℤ (pos a)
  negated = to_z-of_z negated_fits ∙ rw (held, +ℤ_idl) refl

  pub kept : to_z w16 (of_z w16 (pos a)) ≡ pos a
  kept = held
