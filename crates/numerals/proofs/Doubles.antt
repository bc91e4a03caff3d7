-- Which patterns of 64 bits are a NaN's: those above an infinity's, with the sign's bit dropped. There is one NaN,
-- which 0 / 0 makes.
use mathlib.Core.Path.{◌≡◌, refl, sym, subst, ◌∙◌}
use mathlib.Core.Bool.{Bool, true, not, true≢false}
use Prim.Native.Nat.{ℕ, ◌%◌, ◌≤◌, ◌<◌}
use borrow.Author.Tests.{lt-ltb, le-ltb}
use lib.Dec.{T}
use lib.Ieee.{Float, nan, inf, fin, binary64, div, is_nan, nan_bits, of_bits}
use lib.Ieee.Bits.{nan_bits_is, nan_bits_above}

zero_by_zero : div binary64 (of_bits binary64 0) (of_bits binary64 0) ≡ nan
unfolding div of_bits
zero_by_zero = refl

one_nan : (v : Float) → is_nan v ≡ true → v ≡ nan
unfolding is_nan
one_nan nan e = refl
one_nan (inf s) e = absurd (true≢false (sym e))
one_nan (fin s m x) e = absurd (true≢false (sym e))

module _ (bits : ℕ) where
  pub a_nan : 9218868437227405312 < bits % 9223372036854775808 → div binary64 (of_bits binary64 0) (of_bits binary64 0)
      ≡ of_bits binary64 bits
  a_nan h = zero_by_zero ∙ sym (one_nan _ (sym (nan_bits_is binary64 bits) ∙ nan_bits_above binary64 bits ∙ lt-ltb _ _ h))

  pub no_nan : bits % 9223372036854775808 ≤ 9218868437227405312 → T (not (nan_bits binary64 bits))
  no_nan h = subst (λ (b : Bool). T (not b)) (sym (nan_bits_above binary64 bits ∙ le-ltb _ _ h)) tt
