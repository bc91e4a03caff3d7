-- Laws of one coefficient's numbers: a level has its magnitude and its coefficient's sign; a distortion without
-- integers, as code works it out; and how large the error of magnitude 0 can be.
use Rattle.std.proofs.Common.{◌≡◌, ℕ, zero, suc, ◌+◌, ◌-◌, ◌*◌, ◌/◌, ◌^◌, ◌<◌, ◌≤◌, ◌⊎◌, ℤ, pos, negsuc}
use Rattle.std.proofs.Common.{nat_abs, refl, ap, ◌∙◌, inl, inr, mul_assoc, mul-le-mul, mul-le-mul_left}
use Rattle.std.proofs.Common.{add-one, arith, pow-add, le-ltb, lt-ltb}
use native.Mathlib.Nat.{mul-div-le, div-le_of_le-mul}
use lib.Signed.{non_neg}
use Rattle.integers.proofs.Magnitude.{magnitude_neg}
use Rattle.price.specs.Level.{scaled, error, square, distortion, signed}

-- ---- a level
pub signed_magnitude : (c : ℤ) (a : ℕ) → nat_abs (signed c a) ≡ a
unfolding signed
signed_magnitude (pos n) a = refl
signed_magnitude (negsuc n) a = magnitude_neg (pos a)

pub signed_zero : (c : ℤ) → signed c 0 ≡ pos 0
unfolding signed
signed_zero (pos n) = refl
signed_zero (negsuc n) = refl

pub signed_sign : (c : ℤ) (a : ℕ) → (signed c a ≡ pos 0) ⊎ (non_neg (signed c a) ≡ non_neg c)
unfolding signed
signed_sign (pos n) a = inr refl
signed_sign (negsuc n) zero = inl refl
signed_sign (negsuc n) (suc a) = inr refl

-- ---- the distortion of magnitude a, which stands for s = a·2^b
module _ (b e L a : ℕ) where
  error_below : a * 2 ^ b ≤ L → nat_abs (error b e L a) ≡ (L - a * 2 ^ b) * e / 2 ^ 20
  unfolding error
  error_below h = rw (le-ltb L (a * 2 ^ b) h)

  pub distortion_below : a * 2 ^ b ≤ L → distortion b e L a ≡ square ((L - a * 2 ^ b) * e / 2 ^ 20)
  unfolding distortion
  distortion_below h = ap square (error_below h)

  error_negative : (n : ℕ) → L < a * 2 ^ b → suc (a * 2 ^ b - suc L) * e ≡ suc n
      → nat_abs (error b e L a) ≡ suc (n / 2 ^ 20)
  unfolding error
  error_negative n h q = rw (lt-ltb L (a * 2 ^ b) h, q)

  error_above : L < a * 2 ^ b → 0 < e → nat_abs (error b e L a) ≡ ((a * 2 ^ b - L) * e - 1) / 2 ^ 20 + 1
  error_above h p =
      let d : suc (a * 2 ^ b - suc L) ≡ a * 2 ^ b - L = omega arith in
      let some : 1 * 1 ≤ (a * 2 ^ b - L) * e = mul-le-mul (let k : 1 ≤ a * 2 ^ b - L = omega arith in k) p in
      rw add-one (error_negative ((a * 2 ^ b - L) * e - 1) h (ap (λ (x : ℕ). x * e) d ∙ omega (arith, some)))

  pub distortion_above : L < a * 2 ^ b → 0 < e → distortion b e L a ≡ square (((a * 2 ^ b - L) * e - 1) / 2 ^ 20 + 1)
  unfolding distortion
  distortion_above h p = ap square (error_above h p)

-- ---- magnitude 0
pub error_of_0 : (b e L : ℕ) → nat_abs (error b e L 0) ≡ L * e / 2 ^ 20
error_of_0 b e L =
    error_below b e L 0 (omega arith) ∙ ap (λ (x : ℕ). x * e / 2 ^ 20) (let n : L - 0 * 2 ^ b ≡ L = omega arith in n)

pub distortion_of_0 : (b e L : ℕ) → distortion b e L 0 ≡ square (L * e / 2 ^ 20)
unfolding distortion
distortion_of_0 b e L = ap square (error_of_0 b e L)

-- where scale and error scale together come to at most u units of 2^20, the error is at most |c|·u
pub error_within : (b e q u : ℕ) (c : ℤ) → q * e ≤ 2 ^ 20 * u → nat_abs (error b e (scaled q c) 0) ≤ nat_abs c * u
unfolding scaled
error_within b e q u c h =
    rw (error_of_0 b e (nat_abs c * q), mul_assoc)
    (div-le_of_le-mul (2 ^ 20) (omega (arith, mul-le-mul_left (nat_abs c) h)))

-- so it is for E = floor(2^(28+l)/q)
pub error_bound : (b l q : ℕ) (c : ℤ) → nat_abs (error b (2 ^ (28 + l) / q) (scaled q c) 0) ≤ nat_abs c * 2 ^ (8 + l)
error_bound b l q c =
    error_within b (2 ^ (28 + l) / q) q (2 ^ (8 + l)) c
    (omega (arith, mul-div-le (2 ^ (28 + l)) q, pow-add 2 28 l, pow-add 2 8 l))
