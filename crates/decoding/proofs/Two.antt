-- A block of 2 by 2: T_2 has 64 and -64 only, so that each of its four double sums is 4096 times a sum of the four
-- numbers with their signs, on the way there as on the way back.
-- Assumes nothing.
use mathlib.Core.Path.{◌≡◌, ap}
use mathlib.Core.List.{List}
use Prim.Native.Nat.{ℕ, ◌+◌, ◌*◌}
use native.Mathlib.Omega.{arith}
use lib.IntN.{ℤ, pos, negsuc, neg_ℤ, ◌+ℤ◌, ◌-ℤ◌, ◌*ℤ◌}
use Rattle.integers.specs.Sum.{at}
use Rattle.integers.proofs.Parts.{above, below, +-parts, neg_above, neg_below, eq_of_parts}
use Rattle.integers.proofs.Ring.{neg-*}
use Rattle.integers.proofs.Split.{multiple_above, multiple_below}
use Rattle.decoding.specs.Inverse.{product_back}

-- z is p - n
abbrev pub Is : (z : ℤ) (p n : ℕ) → Type 0
Is z p n = above z + n ≡ below z + p

-- times 4096, and times -4096
abbrev pub plus : ℤ → ℤ
plus z = pos 4096 *ℤ z

abbrev pub minus : ℤ → ℤ
minus z = negsuc 4095 *ℤ z

plus_is : (z : ℤ) → Is (plus z) (4096 * above z) (4096 * below z)
plus_is z = omega (arith, multiple_above 4096 z, multiple_below 4096 z)

minus_is : (z : ℤ) → Is (minus z) (4096 * below z) (4096 * above z)
minus_is z =
    omega (
      arith,
      plus_is z,
      neg_above (plus z),
      neg_below (plus z),
      ap above (neg-* (pos 4096) z),
      ap below (neg-* (pos 4096) z),
    )

-- four products, added up as a double sum adds them
abbrev pub added : (a b c d : ℤ) → ℤ
added a b c d = (pos 0 +ℤ ((pos 0 +ℤ a) +ℤ b)) +ℤ ((pos 0 +ℤ c) +ℤ d)

added_is : (a b c d : ℤ)
    → Is (added a b c d) (above a + above b + above c + above d) (below a + below b + below c + below d)
unfolding above below
added_is a b c d =
    let e = (pos 0 +ℤ a) +ℤ b in
    let f = (pos 0 +ℤ c) +ℤ d in
    omega (
      arith,
      +-parts (pos 0 +ℤ e) f,
      +-parts (pos 0) e,
      +-parts (pos 0 +ℤ a) b,
      +-parts (pos 0) a,
      +-parts (pos 0 +ℤ c) d,
      +-parts (pos 0) c,
    )

-- the four sums of a block a b / c d, which are the same on the way there and on the way back
abbrev pub sum00 : (a b c d : ℤ) → ℤ
sum00 a b c d = added (plus a) (plus b) (plus c) (plus d)

abbrev pub sum01 : (a b c d : ℤ) → ℤ
sum01 a b c d = added (plus a) (minus b) (plus c) (minus d)

abbrev pub sum10 : (a b c d : ℤ) → ℤ
sum10 a b c d = added (plus a) (plus b) (minus c) (minus d)

abbrev pub sum11 : (a b c d : ℤ) → ℤ
sum11 a b c d = added (plus a) (minus b) (minus c) (plus d)

module _ (a b c d : ℤ) where
  pub sum00_is : Is (sum00 a b c d) (4096 * (above a + above b + above c + above d))
      (4096 * (below a + below b + below c + below d))
  sum00_is = omega (arith, added_is (plus a) (plus b) (plus c) (plus d), plus_is a, plus_is b, plus_is c, plus_is d)

  pub sum01_is : Is (sum01 a b c d) (4096 * (above a + below b + above c + below d))
      (4096 * (below a + above b + below c + above d))
  sum01_is = omega (arith, added_is (plus a) (minus b) (plus c) (minus d), plus_is a, minus_is b, plus_is c, minus_is d)

  pub sum10_is : Is (sum10 a b c d) (4096 * (above a + above b + below c + below d))
      (4096 * (below a + below b + above c + above d))
  sum10_is = omega (arith, added_is (plus a) (plus b) (minus c) (minus d), plus_is a, plus_is b, minus_is c, minus_is d)

  pub sum11_is : Is (sum11 a b c d) (4096 * (above a + below b + below c + above d))
      (4096 * (below a + above b + above c + below d))
  sum11_is = omega (arith, added_is (plus a) (minus b) (minus c) (plus d), plus_is a, minus_is b, minus_is c, plus_is d)

-- what two pairs come to
module _ (p q : ℤ) where
  pub plus_parts : above (p +ℤ q) + (below p + below q) ≡ below (p +ℤ q) + (above p + above q)
  plus_parts = +-parts p q

  pub minus_parts : above (p -ℤ q) + (below p + above q) ≡ below (p -ℤ q) + (above p + below q)
  minus_parts = omega (arith, +-parts p (neg_ℤ q), neg_above q, neg_below q)

-- a sum that is 4096 times p - n is 4096 times x, where x is p - n
four_thousand : (z x : ℤ) (p n : ℕ) → Is z (4096 * p) (4096 * n) → Is x p n → z ≡ pos 4096 *ℤ x
four_thousand z x p n e f = eq_of_parts z (pos 4096 *ℤ x) (omega (arith, multiple_above 4096 x, multiple_below 4096 x))

module _ (block : List ℤ) where
  abbrev a : ℤ
  a = at block 0

  abbrev b : ℤ
  b = at block 1

  abbrev c : ℤ
  c = at block 2

  abbrev d : ℤ
  d = at block 3

  pub product00 : product_back block 2 2 0 0 ≡ pos 4096 *ℤ ((a +ℤ b) +ℤ (c +ℤ d))
  unfolding product_back
  product00 =
      four_thousand (sum00 a b c d) ((a +ℤ b) +ℤ (c +ℤ d))
      (above a + above b + above c + above d) (below a + below b + below c + below d) (sum00_is a b c d)
      (omega (arith, plus_parts (a +ℤ b) (c +ℤ d), plus_parts a b, plus_parts c d))

  pub product01 : product_back block 2 2 0 1 ≡ pos 4096 *ℤ ((a -ℤ b) +ℤ (c -ℤ d))
  unfolding product_back
  product01 =
      four_thousand (sum01 a b c d) ((a -ℤ b) +ℤ (c -ℤ d))
      (above a + below b + above c + below d) (below a + above b + below c + above d) (sum01_is a b c d)
      (omega (arith, plus_parts (a -ℤ b) (c -ℤ d), minus_parts a b, minus_parts c d))

  pub product10 : product_back block 2 2 1 0 ≡ pos 4096 *ℤ ((a +ℤ b) -ℤ (c +ℤ d))
  unfolding product_back
  product10 =
      four_thousand (sum10 a b c d) ((a +ℤ b) -ℤ (c +ℤ d))
      (above a + above b + below c + below d) (below a + below b + above c + above d) (sum10_is a b c d)
      (omega (arith, minus_parts (a +ℤ b) (c +ℤ d), plus_parts a b, plus_parts c d))

  pub product11 : product_back block 2 2 1 1 ≡ pos 4096 *ℤ ((a -ℤ b) -ℤ (c -ℤ d))
  unfolding product_back
  product11 =
      four_thousand (sum11 a b c d) ((a -ℤ b) -ℤ (c -ℤ d))
      (above a + below b + below c + above d) (below a + above b + above c + below d) (sum11_is a b c d)
      (omega (arith, minus_parts (a -ℤ b) (c -ℤ d), minus_parts a b, minus_parts c d))
