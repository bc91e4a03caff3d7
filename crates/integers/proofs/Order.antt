-- The order of the naturals decides: of two numbers the first is below the second, or it is not.
-- Assumes nothing.
use mathlib.Core.Path.{◌≡◌, refl}
use mathlib.Core.Logic.{◌⊎◌, inl, inr}
use Prim.Native.Nat.{ℕ, zero, suc, ◌-◌, ◌<◌, ◌≤◌}
use native.Mathlib.Omega.{arith}

pub below_or_not : (a b : ℕ) → (a < b) ⊎ (b ≤ a)
below_or_not a b = go (b - a) refl
  where
    go : (d : ℕ) → b - a ≡ d → (a < b) ⊎ (b ≤ a)
    go zero e = inr (omega arith)
    go (suc d) e = inl (omega arith)
