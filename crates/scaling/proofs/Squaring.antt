-- The square of a magnitude's error in unsigned numbers, as the walk works it out: downwards below L, and above L
-- rounded up in one division. Near L it is no larger than the square of the error of 0.
use mathlib.Core.Path.{◌≡◌, sym, ap, ◌∙◌}
use mathlib.Core.Logic.{◌⊎◌, inl, inr}
use Prim.Native.Nat.{ℕ, zero, suc, ◌+◌, ◌-◌, ◌*◌, ◌/◌, ◌≤◌, ◌<◌, ◌^◌}
use native.Mathlib.Omega.{arith}
use native.Mathlib.Nat.{mul-le-mul, mul-le-mul_left, mul-le-mul_right, le_refl, div-mul-le_self}
use Rattle.price.specs.Level.{nearest}
use Rattle.price.proofs.Level.{distortion_below, distortion_above}
use Rattle.scaling.specs.declared.scale.Scale.{Scale}
use Rattle.scaling.specs.Inner.Scale.{Near, Distortion}

up_to : (x : ℕ) → x ≤ 2 ^ 29 → x * x ≤ 2 ^ 58
up_to x h = omega (arith, mul-le-mul h h)

module _ (g : Scale) (L a : ℕ) (h : Near g L a) where
  pub whole : L ≤ 2 ^ 49
  whole = omega (arith, h.scaled, mul-le-mul_left L g.sound.some_error)

  pub near : (x : ℕ) → x ≤ L → x * g.error ≤ 2 ^ 49
  near x k = omega (arith, h.scaled, mul-le-mul k (le_refl g.error))

  pub below : a * g.unit ≤ L → (let x = (L - a * g.unit) * g.error / 1048576 in Distortion g L a (x * x))
  below k =
      let b : (L - a * g.unit) * g.error / 1048576 ≤ 2 ^ 29 = omega (arith, near (L - a * g.unit) (omega arith)) in
      record {
        is = rw g.sound.unit (sym (distortion_below g.shift g.error L a (rw g.sound.unit at k)));
        small = up_to _ b;
      }

  apart : L < a * g.unit → 1 ≤ (a * g.unit - L) * g.error
  apart k = let d : 1 ≤ a * g.unit - L = omega arith in omega (arith, mul-le-mul d g.sound.some_error)

  close : L < a * g.unit → a * g.unit - L ≤ L
  close k = omega (arith, h.twice)

  beyond : L < a * g.unit → (let y = ((a * g.unit - L) * g.error + 1048575) / 1048576 in Distortion g L a (y * y))
  beyond k =
      let q : ((a * g.unit - L) * g.error - 1) / 2 ^ 20 + 1 ≡ ((a * g.unit - L) * g.error + 1048575) / 1048576 =
      omega (arith, apart k) in
      let b : ((a * g.unit - L) * g.error + 1048575) / 1048576 ≤ 2 ^ 29 =
      omega (arith, near (a * g.unit - L) (close k)) in
      record {
        is =
            ap (λ (y : ℕ). y * y) (sym q)
            ∙ rw g.sound.unit (sym (distortion_above g.shift g.error L a (rw g.sound.unit at k) g.sound.some_error));
        small = up_to _ b;
      }

  -- the two ways by one division
  abbrev pub Gap : ℕ → ℕ → Type 0
  Gap d up =
      ((a * g.unit ≤ L) × (d ≡ L - a * g.unit) × (up ≡ 0))
      ⊎ ((L < a * g.unit) × (d ≡ a * g.unit - L) × (up ≡ 1048575))

  pub either : (d up : ℕ) → Gap d up
      → Distortion g L a ((d * g.error + up) / 1048576 * ((d * g.error + up) / 1048576))
  either d up (inl k) =
      let q : d * g.error + up ≡ (L - a * g.unit) * g.error = rw (k.1, k.2) (omega arith) in
      rw q (below k.0)
  either d up (inr k) = rw (k.1, k.2) (beyond k.0)

  pub gap_near : (d up : ℕ) → Gap d up → (d * g.error ≤ 2 ^ 49) × (up ≤ 1048575)
  gap_near d up (inl k) = (near d (omega (arith, k.1)), omega (arith, k.2))
  gap_near d up (inr k) = (near d (omega (arith, k.1, close k.0)), omega (arith, k.2))

-- ---- the magnitudes near L: m and those below it
module _ (g : Scale) (L : ℕ) where
  top_near : nearest g.shift L * g.unit ≤ L + g.half
  unfolding nearest
  top_near = rw (g.sound.unit, g.sound.half) (div-mul-le_self (L + 2 ^ (g.shift - 1)) (2 ^ g.shift))

  twice_top : (m : ℕ) → m * g.unit ≤ L + g.half → m * g.unit ≤ L + L
  twice_top zero h = omega arith
  twice_top (suc m) h = omega (arith, g.sound.twice)

  pub near_below : L * g.error ≤ 2 ^ 49 → (a : ℕ) → a ≤ nearest g.shift L → Near g L a
  near_below f a h =
      record {
        twice = omega (arith, twice_top (nearest g.shift L) top_near, mul-le-mul_right g.unit h);
        scaled = f;
      }

  less_top : (m : ℕ) → m * g.unit ≤ L + g.half → (m - 1) * g.unit ≤ L
  less_top zero h = let q : zero - 1 ≡ 0 = omega arith in rw q (omega arith)
  less_top (suc m) h = let q : suc m - 1 ≡ m = omega arith in rw q (omega (arith, g.sound.twice))

  pub within : (nearest g.shift L - 1) * g.unit ≤ L
  within = less_top (nearest g.shift L) top_near
