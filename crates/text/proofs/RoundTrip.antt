-- A printed number is read back as itself, and a word that reads as a number is what printing that number gives: no
-- number has two texts.
use Rattle.std.proofs.Common.{Option, Some, None}
use mathlib.Core.Path.{◌≡◌, refl, sym, ap, subst, ◌∙◌}
use mathlib.Core.Bool.{Bool, true, false, not, ◌&&◌, ◌||◌, cond, true≢false}
use mathlib.Core.List.{List, [], ◌∷◌, ◌++◌, append-nil}
use Prim.Native.Nat.{ℕ, zero, suc, ◌+◌, ◌-◌, ◌*◌, ◌/◌, ◌%◌, ◌≤◌, ◌<◌}
use native.Mathlib.Nat.{not-suc-le-zero}
use native.Mathlib.Omega.{arith}
use borrow.Author.Tests.{ltb-true, ltb-false, leb-true, le-leb, eqb-true, eqb-false, not-true, ne_eqb}
use lib.Dec.{ltb, leb, eqb, eqb-suc-zero}
use lib.IntN.{ℤ, pos, negsuc}
use lib.ListN.{length, get_or}
use lib.Seq.{append_snoc}
use mir.Syntax.{w16}
use mir.Val.{SFits}
use Rattle.integers.proofs.Tests.{both}
use Rattle.numerals.specs.Number.{is_digit, digits, is_empty, natural, value_from, value_of, natural_up_to, negative_of}
use Rattle.numerals.specs.Number.{positive_of, sample_of}
use Rattle.numerals.proofs.Reading.{a_digit}
use Rattle.numerals.proofs.Signs.{plain}
use Rattle.text.specs.Text.{printed, printed_sample}
use Rattle.text.proofs.Printing.{printed_one, printed_more}

-- ---- by the last digit
-- what holds of the digits, and of each number from its tenth, holds of each number
by_tenths : (P : ℕ → Type 0) → ((n : ℕ) → n < 10 → P n) → ((n : ℕ) → 10 ≤ n → P (n / 10) → P n) → (n : ℕ) → P n
by_tenths P one more n = upto (suc n) n (omega arith)
  where
    upto : (f n : ℕ) → n < f → P n
    upto zero n h = absurd (not-suc-le-zero h)
    upto (suc f) n h = go (ltb n 10) refl (λ k. upto f (n / 10) (omega arith))
      where
        go : (b : Bool) → ltb n 10 ≡ b → (10 ≤ n → P (n / 10)) → P n
        go true e p = one n (ltb-true n 10 e)
        go false e p = more n (ltb-false n 10 e) (p (ltb-false n 10 e))

last_worth : (v : ℕ) (w : List ℕ) (b : ℕ) → value_from v (w ++ (b ∷ [])) ≡ 10 * value_from v w + (b - 48)
unfolding value_from
last_worth v [] b = refl
last_worth v (a ∷ w) b = last_worth (10 * v + (a - 48)) w b

value_of_one : (n : ℕ) → n < 10 → value_of (printed n) ≡ n
unfolding value_of value_from
value_of_one n h = let e : 10 * 0 + (48 + n - 48) ≡ n = omega arith in ap value_of (printed_one n h) ∙ e

value_of_more : (n : ℕ) → 10 ≤ n → value_of (printed (n / 10)) ≡ n / 10 → value_of (printed n) ≡ n
unfolding value_of
value_of_more n h e = ap value_of (printed_more n h) ∙ last_worth 0 (printed (n / 10)) (48 + n % 10) ∙ omega (arith, e)

pub printed_value : (n : ℕ) → value_of (printed n) ≡ n
printed_value = by_tenths (λ n. value_of (printed n) ≡ n) value_of_one value_of_more

-- ---- a printed number is a natural number's word
-- digits, of which the first is not 0
abbrev led : List ℕ → Bool
led [] = false
led (b ∷ w) = not (eqb b 48)

record Proper (w : List ℕ) : Type 0 where
  all : digits w ≡ true
  first : led w ≡ true

digits_and : (w : List ℕ) (b : ℕ) → digits w ≡ true → is_digit b ≡ true → digits (w ++ (b ∷ [])) ≡ true
unfolding digits
digits_and [] b h k = rw k refl
digits_and (a ∷ w) b h k = let p = both (is_digit a) (digits w) h in rw p.0 (digits_and w b p.1 k)

led_and : (w : List ℕ) (b : ℕ) → led w ≡ true → led (w ++ (b ∷ [])) ≡ true
led_and [] b h = absurd (true≢false (sym h))
led_and (a ∷ w) b h = h

proper_natural : (w : List ℕ) → Proper w → natural w ≡ true
unfolding natural
proper_natural [] p = absurd (true≢false (sym p.first))
proper_natural (b ∷ w) p = rw p.first (or_true (is_empty w) p.all)
  where
    or_true : (a : Bool) → digits (b ∷ w) ≡ true → ((a || true) && digits (b ∷ w)) ≡ true
    or_true true e = e
    or_true false e = e

proper_one : (n : ℕ) → n < 10 → 1 ≤ n → Proper (printed n)
unfolding digits
proper_one n h k =
    rw (printed_one n h) (
    record {
      all = rw (a_digit (48 + n) (omega arith) (omega arith)) refl;
      first = rw (ne_eqb (48 + n) 48 (λ e. let no : ⊥ = omega arith in no)) refl;
    }
    )

proper_printed : (n : ℕ) → 1 ≤ n → Proper (printed n)
proper_printed = by_tenths (λ n. 1 ≤ n → Proper (printed n)) proper_one more
  where
    more : (n : ℕ) → 10 ≤ n → (1 ≤ n / 10 → Proper (printed (n / 10))) → 1 ≤ n → Proper (printed n)
    more n h p k =
        let q = p (omega arith) in
        let d : is_digit (48 + n % 10) ≡ true = a_digit (48 + n % 10) (omega arith) (omega arith) in
        rw (printed_more n h) (
        record {
          all = digits_and (printed (n / 10)) (48 + n % 10) q.all d;
          first = led_and (printed (n / 10)) (48 + n % 10) q.first;
        }
        )

zero_natural : natural (printed 0) ≡ true
unfolding natural printed
zero_natural = refl

pub printed_natural : (n : ℕ) → natural (printed n) ≡ true
printed_natural zero = zero_natural
printed_natural (suc m) = proper_natural (printed (suc m)) (proper_printed (suc m) (omega arith))

pub read_back_lem : (limit n : ℕ) → n ≤ limit → natural_up_to limit (printed n) ≡ Some n
unfolding natural_up_to
read_back_lem limit n h = rw (printed_natural n, printed_value n, le-leb n limit h) refl

-- ---- no number has two texts
a_digit_is : (b : ℕ) → is_digit b ≡ true → (48 ≤ b) × (b ≤ 57)
a_digit_is b k = let p = both (leb 48 b) (leb b 57) k in (leb-true 48 b p.0, leb-true b 57 p.1)

first_digit : (b : ℕ) → is_digit b ≡ true → printed (10 * 0 + (b - 48)) ≡ b ∷ []
first_digit b k =
    let d = a_digit_is b k in
    let same : 48 + (10 * 0 + (b - 48)) ≡ b = omega arith in
    printed_one (10 * 0 + (b - 48)) (omega arith) ∙ ap (λ (c : ℕ). c ∷ []) same

next_digit : (v b : ℕ) → 1 ≤ v → is_digit b ≡ true → printed (10 * v + (b - 48)) ≡ printed v ++ (b ∷ [])
next_digit v b h k =
    let n : ℕ = 10 * v + (b - 48) in
    let d = a_digit_is b k in
    let tenth : n / 10 ≡ v = omega arith in
    let last : 48 + n % 10 ≡ b = omega arith in
    printed_more n (omega arith)
    ∙ ap (λ (m : ℕ). printed m ++ ((48 + n % 10) ∷ [])) tenth
    ∙ ap (λ (c : ℕ). printed v ++ (c ∷ [])) last

same_text : (v : ℕ) (w : List ℕ) → 1 ≤ v → digits w ≡ true → printed (value_from v w) ≡ printed v ++ w
unfolding value_from digits
same_text v [] h k = sym (append-nil (printed v))
same_text v (b ∷ w) h k =
    let p = both (is_digit b) (digits w) k in
    same_text (10 * v + (b - 48)) w (omega arith) p.1
    ∙ ap (λ (l : List ℕ). l ++ w) (next_digit v b h p.0)
    ∙ append_snoc (printed v) b w

pub one_text : (w : List ℕ) → natural w ≡ true → printed (value_of w) ≡ w
unfolding natural value_of digits
one_text [] h = absurd (true≢false (sym h))
one_text (b ∷ []) h = first_digit b (both (is_digit b) true h).0
one_text (b ∷ c ∷ w) h =
    let p = both (not (eqb b 48)) (digits (b ∷ c ∷ w)) h in
    let q = both (is_digit b) (digits (c ∷ w)) p.1 in
    let d = a_digit_is b q.0 in
    let more = eqb-false b 48 (not-true (eqb b 48) p.0) in
    same_text (10 * 0 + (b - 48)) (c ∷ w) (above_zero b d.0 more) q.1
    ∙ ap (λ (l : List ℕ). l ++ (c ∷ w)) (first_digit b q.0)
  where
    above_zero : (b : ℕ) → 48 ≤ b → (b ≡ 48 → ⊥) → 1 ≤ 10 * 0 + (b - 48)
    above_zero b h k = omega arith

pub read_text_lem : (limit n : ℕ) (w : List ℕ) → natural_up_to limit w ≡ Some n → w ≡ printed n
unfolding natural_up_to
read_text_lem limit n w e = go (natural w) (leb (value_of w) limit) refl e
  where
    go : (a b : Bool) → natural w ≡ a → cond (a && b) (Some (value_of w)) None ≡ Some n
        → w ≡ printed n
    go true true q p = let same : value_of w ≡ n = cc in sym (one_text w q) ∙ ap printed same
    go true false q p = absurd (let no : ◌≡◌ {A = ℕ} 0 1 = cc in let none : ⊥ = omega arith in none)
    go false b q p = absurd (let no : ◌≡◌ {A = ℕ} 0 1 = cc in let none : ⊥ = omega arith in none)

-- ---- samples
natural_led : (w : List ℕ) → natural w ≡ true → (length w ≡ 0 → ⊥) × (get_or w 0 0 ≡ 45 → ⊥)
unfolding natural digits
natural_led [] h = absurd (true≢false (sym h))
natural_led (b ∷ w) h =
    let p = both (is_empty w || not (eqb b 48)) (digits (b ∷ w)) h in
    let d = a_digit_is b (both (is_digit b) (digits w) p.1).0 in
    (λ e. let no : ⊥ = omega arith in no, λ e. let no : ⊥ = omega arith in no)

pub sample_read_back : (z : ℤ) → SFits w16 z → sample_of (printed_sample z) ≡ Some z
unfolding printed_sample sample_of positive_of negative_of
sample_read_back (pos n) f =
    let small : n < 32768 = f.sfits in
    let s = natural_led (printed n) (printed_natural n) in
    plain (printed n) (omega (arith, s.0)) s.1 ∙ ap positive_of (read_back_lem 32767 n (omega arith))
sample_read_back (negsuc n) f =
    let small : n < 32768 = f.sfits in
    ap negative_of (read_back_lem 32768 (suc n) (omega arith)) ∙ rw (eqb-suc-zero n) refl

minus_text : (w : List ℕ) (z : ℤ) (r : Option ℕ) → natural_up_to 32768 w ≡ r → negative_of r ≡ Some z
    → 45 ∷ w ≡ printed_sample z
unfolding printed_sample negative_of
minus_text w z (Some zero) e p = absurd (let no : ◌≡◌ {A = ℕ} 0 1 = cc in let none : ⊥ = omega arith in none)
minus_text w z (Some (suc m)) e p =
    let same : Some (negsuc m) ≡ Some z = rw (eqb-suc-zero m) at p in
    let number : negsuc m ≡ z = cc in
    subst (λ (y : ℤ). 45 ∷ w ≡ printed_sample y) number (ap (λ (l : List ℕ). 45 ∷ l) (read_text_lem 32768 (suc m) w e))
minus_text w z None e p = absurd (let no : ◌≡◌ {A = ℕ} 0 1 = cc in let none : ⊥ = omega arith in none)

plain_text : (w : List ℕ) (z : ℤ) (r : Option ℕ) → natural_up_to 32767 w ≡ r → positive_of r ≡ Some z
    → w ≡ printed_sample z
unfolding printed_sample positive_of
plain_text w z (Some n) e p =
    let number : pos n ≡ z = cc in subst (λ (y : ℤ). w ≡ printed_sample y) number (read_text_lem 32767 n w e)
plain_text w z None e p = absurd (let no : ◌≡◌ {A = ℕ} 0 1 = cc in let none : ⊥ = omega arith in none)

pub sample_text : (w : List ℕ) (z : ℤ) → sample_of w ≡ Some z → w ≡ printed_sample z
unfolding sample_of
sample_text [] z e = absurd (let no : ◌≡◌ {A = ℕ} 0 1 = cc in let none : ⊥ = omega arith in none)
sample_text (b ∷ w) z e = go (eqb b 45) refl e
  where
    go : (t : Bool) → eqb b 45 ≡ t
        → cond t (negative_of (natural_up_to 32768 w)) (positive_of (natural_up_to 32767 (b ∷ w)))
        ≡ Some z
        → b ∷ w ≡ printed_sample z
    go true q p = ap (λ (c : ℕ). c ∷ w) (eqb-true b 45 q) ∙ minus_text w z (natural_up_to 32768 w) refl p
    go false q p = plain_text (b ∷ w) z (natural_up_to 32767 (b ∷ w)) refl p
