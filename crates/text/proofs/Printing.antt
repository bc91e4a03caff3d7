-- A number as it is printed: its last digit behind those of a tenth of it, in the text and in the buffer; a sample is
-- its magnitude, behind a `-` if it is negative.
use mathlib.Core.Path.{◌≡◌, refl, ap, subst}
use mathlib.Core.Bool.{Bool, true, false, cond, true≢false}
use mathlib.Core.List.{List, [], ◌∷◌, ◌++◌}
use Prim.Native.Nat.{ℕ, zero, suc, ◌+◌, ◌/◌, ◌%◌, ◌^◌, ◌≤◌, ◌<◌}
use native.Mathlib.Nat.{not-suc-le-zero, pow-suc, div-lt_iff_lt-mul}
use native.Mathlib.Omega.{arith}
use borrow.Author.Tests.{lt-ltb, le-ltb, ltb-true, ltb-false}
use lib.Dec.{ltb}
use lib.IntN.{ℤ, pos, negsuc, nat_abs}
use lib.ListN.{length, set, length-append}
use lib.Signed.{lt_z}
use mir.Syntax.{w16}
use mir.Val.{to_z, of_z, SFits}
use mir.Facts.{to_z-of_z}
use Rattle.text.specs.Text.{printed_in, printed, printed_sample, Put}
use Rattle.text.proofs.Buffers.{put_byte, put_both, put_last}

-- ---- the digits
enough : (f g n : ℕ) → n < f → n < g → printed_in f n ≡ printed_in g n
unfolding printed_in
enough zero g n h k = absurd (not-suc-le-zero h)
enough (suc f) zero n h k = absurd (not-suc-le-zero k)
enough (suc f) (suc g) n h k = go (ltb n 10) refl (λ t. enough f g (n / 10) (omega arith) (omega arith))
  where
    go : (b : Bool) → ltb n 10 ≡ b → (10 ≤ n → printed_in f (n / 10) ≡ printed_in g (n / 10))
        → cond b ((48 + n) ∷ []) (printed_in f (n / 10) ++ ((48 + n % 10) ∷ []))
        ≡ cond b ((48 + n) ∷ []) (printed_in g (n / 10) ++ ((48 + n % 10) ∷ []))
    go true e t = refl
    go false e t = ap (λ (l : List ℕ). l ++ ((48 + n % 10) ∷ [])) (t (ltb-false n 10 e))

pub printed_one : (n : ℕ) → n < 10 → printed n ≡ (48 + n) ∷ []
unfolding printed printed_in
printed_one n h = rw (lt-ltb n 10 h) refl

pub printed_more : (n : ℕ) → 10 ≤ n → printed n ≡ printed (n / 10) ++ ((48 + n % 10) ∷ [])
unfolding printed printed_in
printed_more n h =
    rw (le-ltb n 10 h)
    (ap (λ (l : List ℕ). l ++ ((48 + n % 10) ∷ [])) (enough n (suc (n / 10)) (n / 10) (omega arith) (omega arith)))

pub few_digits : (k n : ℕ) → n < 10 ^ suc k → length (printed n) ≤ suc k
few_digits zero n h = rw (printed_one n h) (omega arith)
few_digits (suc k) n h =
    go (ltb n 10) refl (λ t. few_digits k (n / 10) ((div-lt_iff_lt-mul (omega arith)).1 (rw pow-suc at h)))
  where
    go : (b : Bool) → ltb n 10 ≡ b → (10 ≤ n → length (printed (n / 10)) ≤ suc k) → length (printed n) ≤ suc (suc k)
    go true e t = rw (printed_one n (ltb-true n 10 e)) (omega arith)
    go false e t = rw (printed_more n (ltb-false n 10 e), length-append) (omega (arith, t (ltb-false n 10 e)))

-- ---- the digits put into a buffer
module _ (before : List ℕ) (at n : ℕ) where
  pub put_one : at < length before → n < 10 → Put before at (printed n) 20 (set before at (48 + n)) (at + 1)
  put_one h k = rw printed_one (put_byte before at 20 (48 + n) h (omega arith))

  pub put_more : (mid : List ℕ) (end : ℕ) → at + 20 ≤ length before → 10 ≤ n → n < 2 ^ 64
      → Put before at (printed (n / 10)) 20 mid end → Put before at (printed n) 20 (set mid end (48 + n % 10)) (end + 1)
  put_more mid end h k l p =
      let small : length (printed (n / 10)) ≤ 19 = few_digits 18 (n / 10) (omega arith) in
      rw (printed_more n k) (put_last before (printed (n / 10)) mid at (48 + n % 10) 20 end 20 (omega arith)
      (omega arith) p)

-- ---- a sample put into a buffer
module _ (before : List ℕ) (at n : ℕ) (after : List ℕ) (r : ℕ) (small : n ≤ 32768) where
  few : length (printed n) ≤ 5
  few = few_digits 4 n (omega arith)

  plain_put : (z : ℤ) → lt_z z (pos 0) ≡ false → n ≡ nat_abs z → Put before at (printed n) 20 after r
      → Put before at (printed_sample z) 6 after r
  unfolding printed_sample
  plain_put (pos m) t e p =
      subst (λ (k : ℕ). Put before at (printed k) 6 after r) e
      (record { next = p.next; few = omega (arith, few); holds = p.holds })
  plain_put (negsuc m) t e p = absurd (true≢false t)

  minus_put : (z : ℤ) → lt_z z (pos 0) ≡ true → n ≡ nat_abs z → at < length before
      → Put (set before at 45) (at + 1) (printed n) 20 after r → Put before at (printed_sample z) 6 after r
  unfolding printed_sample
  minus_put (pos m) t e h p = absurd (let q = ltb-true m 0 t in let no : ⊥ = omega arith in no)
  minus_put (negsuc m) t e h p =
      subst (λ (k : ℕ). Put before at (45 ∷ printed k) 6 after r) e
      (put_both before (45 ∷ []) (printed n) (set before at 45) after at 1 (at + 1) 20 r 6 (omega arith)
      (omega (arith, few))
      (put_byte before at 1 45 h (omega arith)) p)

  -- the sample as the machine has it
  module _ (z : ℤ) (f : SFits w16 z) (e : n ≡ nat_abs (to_z w16 (of_z w16 z))) where
    size : n ≡ nat_abs z
    size = rw (to_z-of_z {w = w16} {z = z} f) at e

    pub put_plain : lt_z (to_z w16 (of_z w16 z)) (pos 0) ≡ false → Put before at (printed n) 20 after r
        → Put before at (printed_sample z) 6 after r
    put_plain t p = plain_put z (rw (to_z-of_z {w = w16} {z = z} f) at t) size p

    pub put_minus : lt_z (to_z w16 (of_z w16 z)) (pos 0) ≡ true → at < length before
        → Put (set before at 45) (at + 1) (printed n) 20 after r → Put before at (printed_sample z) 6 after r
    put_minus t h p = minus_put z (rw (to_z-of_z {w = w16} {z = z} f) at t) size h p
