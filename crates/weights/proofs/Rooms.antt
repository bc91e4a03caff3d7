-- Rooms that are lent: the front of a cleared array has the length asked for, and is 0 everywhere.
use mathlib.Core.Path.{◌≡◌, refl}
use Prim.Native.Nat.{ℕ, zero, suc, ◌≤◌}
use native.Mathlib.Omega.{arith}
use lib.ListN.{length, take, replicate, length-replicate}
use lib.Seq.{length-take-le}
use Rattle.weights.specs.Inner.Places.{Cleared}

pub lent : (most n : ℕ) → n ≤ most → length (take {A = ℕ} n (replicate most 0)) ≡ n
lent most n fits = length-take-le n (replicate most 0) (omega (arith, length-replicate {A = ℕ} most 0))

pub cleared : (most n : ℕ) → Cleared (take {A = ℕ} n (replicate most 0))
cleared most zero k = refl
cleared zero (suc n) k = refl
cleared (suc most) (suc n) zero = refl
cleared (suc most) (suc n) (suc k) = cleared most n k
