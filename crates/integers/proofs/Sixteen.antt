-- An integer that the machine holds in 16 bits, by a test of its sign: below 0 it is widened to 32 bits and negated,
-- since -32768 has no negation in 16; otherwise it is its own magnitude. Either way the magnitude fits. Assumes
-- nothing.
use mathlib.Core.Path.{◌≡◌, ap}
use mathlib.Core.Bool.{true, false, true≢false}
use Prim.Native.Nat.{suc, ◌≤◌, ◌<◌}
use native.Mathlib.Nat.{zero-add}
use native.Mathlib.Omega.{arith}
use borrow.Author.Tests.{ltb-true}
use lib.Dec.{T}
use lib.IntN.{ℤ, pos, negsuc, nat_abs, ◌-ℤ◌}
use lib.Signed.{non_neg, lt_z}
use mir.Syntax.{w16, w32}
use mir.Val.{to_z, of_z, SFits, Fits}
use mir.Facts.{to_z-of_z, sfits_widen}

pub record Below (z : ℤ) : Type 0 where
  pub wide : to_z w32 (of_z w32 z) ≡ z
  pub flips : pos 0 -ℤ z ≡ pos (nat_abs z)
  pub low : nat_abs z ≤ 32768
  pub fits : SFits w32 (pos (nat_abs z))

pub below : (z : ℤ) → SFits w16 z → lt_z (to_z w16 (of_z w16 z)) (pos 0) ≡ true → Below z
below (pos n) f t = absurd (let q = ltb-true n 0 (rw (to_z-of_z {w = w16} {z = pos n} f) at t) in omega arith)
below (negsuc n) f t =
    let b : n < 32768 = f.sfits in
    let g : SFits w32 (pos (suc n)) = omega arith in
    record {
      wide = to_z-of_z {w = w32} (sfits_widen tt f);
      flips = ap pos (zero-add (suc n));
      low = omega arith;
      fits =
          g;
    }

pub record Above (z : ℤ) : Type 0 where
  pub plain : T (non_neg z)
  pub low : nat_abs z ≤ 32768
  pub fits : Fits w32 (nat_abs z)

pub above : (z : ℤ) → SFits w16 z → lt_z (to_z w16 (of_z w16 z)) (pos 0) ≡ false → Above z
above (pos n) f t = let b : n < 32768 = f.sfits in record { plain = tt; low = omega arith; fits = omega arith }
above (negsuc n) f t = absurd (true≢false (rw (to_z-of_z {w = w16} {z = negsuc n} f) at t))
