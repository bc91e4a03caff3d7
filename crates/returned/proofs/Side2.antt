-- Side 2 is returned: the inverse of an accepted transform of a block of 2 by 2 gives back the residuals, and the
-- surplus behind them, exactly. The matrix of side 2 has 64 and -64 only, so that a coefficient is 8 times a sum of the
-- four residuals with their signs, with nothing to round, and the way back adds up 2^17 times a residual.
-- Assumes nothing.
use mathlib.Core.Path.{◌≡◌, sym, ◌∙◌, ap, subst}
use mathlib.Core.List.{List, [], ◌∷◌, ◌++◌}
use Prim.Native.Nat.{ℕ, ◌+◌, ◌*◌, ◌≤◌, ◌<◌}
use native.Mathlib.Omega.{arith}
use borrow.Author.Tests.{ltb-false, le-ltb}
use lib.Dec.{lit<}
use lib.ListN.{length, length-take, take, drop}
use lib.Seq.{get_or-take}
use lib.IntN.{ℤ, pos, nat_abs}
use Rattle.integers.specs.Floor.{rounded}
use Rattle.integers.specs.Clip.{clipped}
use Rattle.integers.proofs.Parts.{above, below, eq_of_parts}
use Rattle.integers.proofs.Clip.{clip_within}
use Rattle.integers.proofs.Split.{floor_exact}
use Rattle.integers.specs.Sum.{at}
use Rattle.integers.proofs.Some.{none_above}
use Rattle.refusals.specs.Faults.{Outcome, passed, if_accepted}
use Rattle.refusals.proofs.First.{None, no_fault_if_accepted, head_fails, rest_fails}
use Rattle.transform.specs.Call.{called, trans_faults, trans_verdict}
use Rattle.transform.proofs.Verdict.{changed}
use Rattle.transform.specs.Coefficients.{coefficients}
use Rattle.decoding.specs.Inverse.{residuals}
use Rattle.decoding.proofs.Two.{Is, sum00, sum01, sum10, sum11, sum00_is, sum01_is, sum10_is, sum11_is}
use Rattle.decoding.specs.Call.{coefficients_lent, inverse_verdict, restored, inverse_buffer}
use Rattle.returned.specs.Returned.{Leaves, Returned}

-- a coefficient is 8 times a sum of the residuals with their signs
eighth : (z : ℤ) (p n : ℕ) → Is z (4096 * p) (4096 * n) → Is (rounded z 9) (8 * p) (8 * n)
eighth z p n e = floor_exact z 256 512 (8 * p) (8 * n) (lit< tt) (omega arith)

-- and of a sum of 2^17 times a residual the residual is left
same : (z r : ℤ) → nat_abs r ≤ 1023 → Is z (131072 * above r) (131072 * below r) → clipped (rounded z 17) ≡ r
same z r h e =
    let f = floor_exact z 65536 131072 (above r) (below r) (lit< tt) (omega arith) in
    ap clipped (eq_of_parts (rounded z 17) r (omega arith)) ∙ clip_within r (omega arith)

module _ (a b c d : ℤ) where
  abbrev c00 : ℤ
  c00 = rounded (sum00 a b c d) 9

  abbrev c01 : ℤ
  c01 = rounded (sum01 a b c d) 9

  abbrev c10 : ℤ
  c10 = rounded (sum10 a b c d) 9

  abbrev c11 : ℤ
  c11 = rounded (sum11 a b c d) 9

  record Eights : Type 0 where
    e00 : Is c00 (8 * (above a + above b + above c + above d)) (8 * (below a + below b + below c + below d))
    e01 : Is c01 (8 * (above a + below b + above c + below d)) (8 * (below a + above b + below c + above d))
    e10 : Is c10 (8 * (above a + above b + below c + below d)) (8 * (below a + below b + above c + above d))
    e11 : Is c11 (8 * (above a + below b + below c + above d)) (8 * (below a + above b + above c + below d))

  eights : Eights
  eights =
      record {
        e00 = eighth (sum00 a b c d) _ _ (sum00_is a b c d);
        e01 = eighth (sum01 a b c d) _ _ (sum01_is a b c d);
        e10 = eighth (sum10 a b c d) _ _ (sum10_is a b c d);
        e11 = eighth (sum11 a b c d) _ _ (sum11_is a b c d);
      }

  -- the sums of the coefficients are the residuals again
  abbrev back : (ℤ → ℤ → ℤ → ℤ → ℤ) → ℤ
  back sum = clipped (rounded (sum c00 c01 c10 c11) 17)

  module _ (ha : nat_abs a ≤ 1023) (hb : nat_abs b ≤ 1023) (hc : nat_abs c ≤ 1023) (hd : nat_abs d ≤ 1023) where
    back00 : back sum00 ≡ a
    back00 = let e = eights in same (sum00 c00 c01 c10 c11) a ha (omega (arith, sum00_is c00 c01 c10 c11))

    back01 : back sum01 ≡ b
    back01 = let e = eights in same (sum01 c00 c01 c10 c11) b hb (omega (arith, sum01_is c00 c01 c10 c11))

    back10 : back sum10 ≡ c
    back10 = let e = eights in same (sum10 c00 c01 c10 c11) c hc (omega (arith, sum10_is c00 c01 c10 c11))

    back11 : back sum11 ≡ d
    back11 = let e = eights in same (sum11 c00 c01 c10 c11) d hd (omega (arith, sum11_is c00 c01 c10 c11))

    block_returns : (rest : List ℤ) → residuals (c00 ∷ c01 ∷ c10 ∷ c11 ∷ rest) 1 1 ++ rest ≡ a ∷ b ∷ c ∷ d ∷ rest
    unfolding residuals
    block_returns rest = four (back sum00) (back sum01) (back sum10) (back sum11) back00 back01 back10 back11
      where
        four : (p q r s : ℤ) → p ≡ a → q ≡ b → r ≡ c → s ≡ d → p ∷ q ∷ r ∷ s ∷ rest ≡ a ∷ b ∷ c ∷ d ∷ rest
        four p q r s e f g h = cc

-- ---- the two calls
long : (l : List ℤ) → 4 ≤ length l → inverse_verdict (coefficients_lent l 1 1) ≡ passed
unfolding inverse_verdict
long l h = rw (le-ltb (length l) 4 h)

left : (l : List ℤ) → 4 ≤ length l → inverse_buffer (coefficients_lent l 1 1) ≡ residuals l 1 1 ++ drop 4 l
unfolding inverse_buffer
left l h = ap (λ (v : Outcome Unit). if_accepted v (restored (coefficients_lent l 1 1)) l) (long l h)

-- what is known of the buffer of an accepted transform
module _ (buffer : List ℤ) (e : trans_verdict (called buffer 1 1) ≡ passed) where
  faultless : None (called buffer 1 1) trans_faults
  unfolding trans_verdict
  faultless = no_fault_if_accepted (called buffer 1 1) trans_faults e

  room : 4 ≤ length buffer
  unfolding trans_faults
  room = ltb-false (length buffer) 4 (head_fails (called buffer 1 1) (rest_fails (called buffer 1 1) faultless))

  tame : (k : ℕ) → k < 4 → nat_abs (at buffer k) ≤ 1023
  unfolding trans_faults
  tame k h =
      let t = called buffer 1 1 in
      subst (λ (z : ℤ). nat_abs z ≤ 1023) (get_or-take 4 buffer k (pos 0) h)
      (none_above 1023 (take 4 buffer) (head_fails t (rest_fails t (rest_fails t faultless))) k
      (simp length-take (omega (arith, room))))

pub side_2_returns : Returned 1 1
unfolding coefficients
side_2_returns [] e = absurd (let no : ⊥ = omega (arith, room [] e) in no)
side_2_returns (a ∷ []) e = absurd (let no : ⊥ = omega (arith, room (a ∷ []) e) in no)
side_2_returns (a ∷ b ∷ []) e = absurd (let no : ⊥ = omega (arith, room (a ∷ b ∷ []) e) in no)
side_2_returns (a ∷ b ∷ c ∷ []) e = absurd (let no : ⊥ = omega (arith, room (a ∷ b ∷ c ∷ []) e) in no)
side_2_returns (a ∷ b ∷ c ∷ d ∷ rest) e =
    let buffer = a ∷ b ∷ c ∷ d ∷ rest in
    let l = c00 a b c d ∷ c01 a b c d ∷ c10 a b c d ∷ c11 a b c d ∷ rest in
    let small = tame buffer e in
    subst (λ (k : List ℤ). Leaves k 1 1 buffer) (changed buffer 1 1 (sym e)) (
      long l (omega arith),
      left l (omega arith)
          ∙ block_returns a b c d (small 0 (lit< tt)) (small 1 (lit< tt)) (small 2 (lit< tt)) (small 3 (lit< tt)) rest,
    )
