-- Reading 16 hex digits: the worth of a byte by its order, and the digits left behind those that were read.
use Rattle.std.proofs.Common.{Option, Some, None}
use mathlib.Core.Path.{◌≡◌, refl}
use mathlib.Core.Bool.{cond}
use mathlib.Core.List.{List}
use Prim.Native.Nat.{ℕ, ◌+◌, ◌*◌, ◌≤◌, ◌<◌, ◌^◌}
use native.Mathlib.Nat.{pow-suc, pow-le-pow_right}
use native.Mathlib.Numerals.{add-one}
use native.Mathlib.Omega.{arith}
use borrow.Author.Tests.{lt-ltb, le-ltb, eq-eqb, ne_eqb}
use lib.ListN.{length, get_or, drop, drop_of_length-le}
use lib.Seq.{drop-cons}
use Rattle.numerals.specs.Number.{hex_digit, hex_digits, hex_from, bits_of}

-- ---- the digits left behind digits worth v
unfoldable pub hex_read : ℕ → List ℕ → Option ℕ
unfolding hex_digits hex_from
hex_read v w = cond (hex_digits w) (Some (hex_from v w)) None

pub other_length : (w : List ℕ) → (length w ≡ 16 → ⊥) → bits_of w ≡ None
unfolding bits_of
other_length w h = rw (ne_eqb (length w) 16 h) refl

pub begun : (w : List ℕ) → length w ≡ 16 → hex_read 0 w ≡ bits_of w
unfolding bits_of hex_read
begun w e = rw (eq-eqb (length w) 16 e) refl

module _ (v : ℕ) (w : List ℕ) (i : ℕ) where
  pub no_digit : i < length w → 15 < hex_digit (get_or w i 0) → hex_read v (drop i w) ≡ None
  unfolding hex_read hex_digits
  no_digit h k = rw (drop-cons w i 0 h, le-ltb (hex_digit (get_or w i 0)) 16 k) refl

  pub digit_next : i < length w → hex_digit (get_or w i 0) ≤ 15
      → hex_read v (drop i w) ≡ hex_read (16 * v + hex_digit (get_or w i 0)) (drop (i + 1) w)
  unfolding hex_read hex_digits hex_from
  digit_next h k = rw (drop-cons w i 0 h, lt-ltb (hex_digit (get_or w i 0)) 16 (omega arith), add-one) refl

  pub all_read : length w ≤ i → hex_read v (drop i w) ≡ Some v
  unfolding hex_read hex_digits hex_from
  all_read h = rw (drop_of_length-le w h) refl

-- as many digits as were read bound what they are worth
pub one_more : (v i d : ℕ) → v < 16 ^ i → d ≤ 15 → 16 * v + d < 16 ^ (i + 1)
one_more v i d h k = rw (add-one, pow-suc 16 i) (omega arith)

pub fits : (v i d : ℕ) → v < 16 ^ i → d ≤ 15 → i < 16 → 16 * v + d < 2 ^ 64
fits v i d h k l =
    let most : 16 ^ (i + 1) ≤ 16 ^ 16 = pow-le-pow_right {n = 16} (omega arith) {i = i + 1} {j = 16} (omega arith) in
    omega (arith, one_more v i d h k, most)
