-- Reading a number digit by digit: what the digits left mean, given what those before them are worth.
use Rattle.std.proofs.Common.{Option, Some, None}
use mathlib.Core.Path.{◌≡◌, refl}
use mathlib.Core.Bool.{Bool, true, false, ◌&&◌, cond}
use mathlib.Core.List.{List, [], ◌∷◌}
use Prim.Native.Nat.{ℕ, suc, ◌+◌, ◌-◌, ◌*◌, ◌≤◌, ◌<◌}
use native.Mathlib.Numerals.{add-one}
use native.Mathlib.Omega.{arith}
use borrow.Author.Tests.{leb-true, le-leb, lt-leb, eq-eqb, ne_eqb}
use lib.Dec.{leb}
use lib.ListN.{length, get_or, drop, drop_of_length-le}
use lib.Seq.{drop-cons}
use Rattle.numerals.specs.Number.{is_digit, digits, natural, value_from, value_of, natural_up_to}

-- ---- a byte by its order
pub a_digit : (b : ℕ) → 48 ≤ b → b ≤ 57 → is_digit b ≡ true
a_digit b h k = simp (le-leb 48 b h, le-leb b 57 k)

pub below_digits : (b : ℕ) → b < 48 → is_digit b ≡ false
below_digits b h = simp (lt-leb 48 b h)

and_false : (a : Bool) → (a && false) ≡ false
and_false true = refl
and_false false = refl

pub above_digits : (b : ℕ) → 57 < b → is_digit b ≡ false
above_digits b h = simp (lt-leb b 57 h) (and_false (leb 48 b))

-- ---- decimal
-- the number of the digits w behind digits worth v
unfoldable pub read_from : ℕ → ℕ → List ℕ → Option ℕ
unfolding digits value_from
read_from limit v w = cond (digits w && leb (value_from v w) limit) (Some (value_from v w)) None

pub at_least : (v : ℕ) (w : List ℕ) → v ≤ value_from v w
unfolding value_from
at_least v [] = omega arith
at_least v (b ∷ w) = let h = at_least (10 * v + (b - 48)) w in omega arith

module _ (limit : ℕ) where
  pub none_read : natural_up_to limit [] ≡ None
  unfolding natural_up_to natural
  none_read = refl

  pub zero_led : (w : List ℕ) → 1 < length w → get_or w 0 0 ≡ 48 → natural_up_to limit w ≡ None
  unfolding natural_up_to natural
  zero_led [] h e = absurd (let no : ⊥ = omega arith in no)
  zero_led (b ∷ []) h e = absurd (let no : ⊥ = omega arith in no)
  zero_led (b ∷ c ∷ w) h e = rw (eq-eqb b 48 e) refl

  pub begun : (w : List ℕ) → 0 < length w → (get_or w 0 0 ≡ 48 → length w ≤ 1)
      → read_from limit 0 w ≡ natural_up_to limit w
  unfolding natural_up_to natural value_of read_from
  begun [] h k = absurd (let no : ⊥ = omega arith in no)
  begun (b ∷ []) h k = refl
  begun (b ∷ c ∷ w) h k = rw (ne_eqb b 48 (λ e. let f : suc (suc (length w)) ≤ 1 = k e in omega arith)) refl

  module _ (v : ℕ) (w : List ℕ) (i : ℕ) (h : i < length w) where
    pub no_digit : is_digit (get_or w i 0) ≡ false → read_from limit v (drop i w) ≡ None
    unfolding read_from digits
    no_digit e = rw (drop-cons w i 0 h, e) refl

    pub digit_next : is_digit (get_or w i 0) ≡ true → read_from limit v (drop i w)
        ≡ read_from limit (10 * v + (get_or w i 0 - 48)) (drop (i + 1) w)
    unfolding read_from digits value_from
    digit_next e = rw (drop-cons w i 0 h, e, add-one) refl

    pub past_limit : limit < 10 * v + (get_or w i 0 - 48) → read_from limit v (drop i w) ≡ None
    unfolding read_from digits value_from
    past_limit k =
        let p = at_least (10 * v + (get_or w i 0 - 48)) (drop (suc i) w) in
        rw (
          drop-cons w i 0 h,
          lt-leb (value_from (10 * v + (get_or w i 0 - 48)) (drop (suc i) w)) limit (omega arith),
          and_false,
        ) refl

  pub all_read : (v : ℕ) (w : List ℕ) (i : ℕ) → length w ≤ i → v ≤ limit → read_from limit v (drop i w) ≡ Some v
  unfolding read_from digits value_from
  all_read v w i h k = rw (drop_of_length-le w h, le-leb v limit k) refl

  -- what is read is within the limit
  pub within : (w : List ℕ) (n : ℕ) → natural_up_to limit w ≡ Some n → n ≤ limit
  unfolding natural_up_to
  within w n e = go (natural w) (leb (value_of w) limit) refl e
    where
      go : (a b : Bool) → leb (value_of w) limit ≡ b → cond (a && b) (Some (value_of w)) None ≡ Some n → n ≤ limit
      go true true q p = let same : value_of w ≡ n = cc in omega (arith, leb-true (value_of w) limit q)
      go true false q p = let no : ◌≡◌ {A = ℕ} 0 1 = cc in omega arith
      go false b q p = let no : ◌≡◌ {A = ℕ} 0 1 = cc in omega arith
