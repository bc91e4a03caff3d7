-- Signs put back to magnitudes, by rows: the loop, and that the block it leaves is the definition's, whose levels are
-- laid along the scan. The count does not depend on the order.
use mathlib.Core.Path.{◌≡◌, refl, sym, ap, subst, ◌∙◌}
use mathlib.Core.Logic.{⊎_elim}
use mathlib.Core.List.{List}
use Prim.Native.Nat.{ℕ, ◌+◌, ◌*◌, ◌≤◌, ◌<◌}
use native.Mathlib.Nat.{not-suc-le-zero, le_of_suc-le-suc, eq-or-lt_of_le}
use native.Mathlib.Numerals.{add-one}
use native.Mathlib.Omega.{arith}
use lib.ListN.{length, get_or, set, length-set, length-map}
use lib.Seq.{get_or-set_same, get_or-set_other, ext_get_or}
use lib.IntN.{ℤ, pos}
use Rattle.integers.specs.Sum.{at}
use Rattle.integers.proofs.Lists.{map_at}
use Rattle.scan.specs.Scan.{scan, scan_at}
use Rattle.scan.proofs.OneToOne.{scan_inside}
use Rattle.scan.proofs.Order.{scan_hit}
use Rattle.scan.specs.Order.{laid, in_order}
use Rattle.scan.proofs.Laid.{laid_length, laid_on_scan}
use Rattle.price.specs.Level.{signed}
use Rattle.coding.specs.Block.{signs}
use Rattle.scan.specs.Scanned.{Scanned}
use Rattle.weights.specs.Inner.Places.{Standing}
use Rattle.coding.proofs.Signed.{signs_length, signs_at}

-- ---- the levels by rows
-- the loop before place i: levels in front, coefficients behind
pub record Signing (before : List ℤ) (levels : List ℕ) (block : List ℤ) (i : ℕ) : Type 0 where
  pub room : length block ≡ length before
  pub done : (k : ℕ) → k < i → at block k ≡ signed (at before k) (get_or levels k 0)
  pub left : (k : ℕ) → i ≤ k → at block k ≡ at before k

pub signing_none : (before : List ℤ) (levels : List ℕ) → Signing before levels before 0
signing_none before levels = record { room = refl; done = λ k h. absurd (not-suc-le-zero h); left = λ k h. refl }

pub signing_more : (before : List ℤ) (levels : List ℕ) (block : List ℤ) (i : ℕ) (v : ℤ) → i < length before
    → v ≡ signed (at before i) (get_or levels i 0) → Signing before levels block i
    → Signing before levels (set block i v) (i + 1)
signing_more before levels block i v h e s =
    record {
      room = length-set block i v ∙ s.room;
      done =
          λ k l.
          ⊎_elim
          (λ (q : k ≡ i).
          ap (at (set block i v)) q
          ∙ get_or-set_same block i v (pos 0) (omega (arith, s.room))
          ∙ e
          ∙ ap (λ (j : ℕ). signed (at before j) (get_or levels j 0)) (sym q))
          (λ (q : k < i). get_or-set_other block i k v (pos 0) (λ r. let z : ⊥ = omega arith in z) ∙ s.done k q)
          (eq-or-lt_of_le (le_of_suc-le-suc (subst (λ (m : ℕ). k < m) (add-one i) l)));
      left = λ k l. get_or-set_other block i k v (pos 0) (λ r. let z : ⊥ = omega arith in z) ∙ s.left k (omega arith);
    }

pub signing_all : (before : List ℤ) (levels : List ℕ) (block : List ℤ) (i : ℕ) → length levels ≡ length before
    → length levels ≤ i
    → Signing before levels block i → block ≡ signs before levels
signing_all before levels block i e h s =
    ext_get_or (pos 0) block (signs before levels) (s.room ∙ sym (signs_length before levels e))
    (λ k l. s.done k (omega (arith, s.room)) ∙ sym (signs_at before levels k e (omega (arith, s.room))))

-- ---- the levels along the scan
module _ (width height : ℕ) (held : List ℕ) (sc : Scanned width height held) (ls : List ℕ)
    (long : length ls ≡ width * height)
    (levels : List ℕ)
    (room : length levels ≡ width * height) (s : Standing width height levels ls) where
  pub same_block : (block : List ℤ) → length block ≡ width * height
      → signs block levels ≡ laid (scan width height) (signs (in_order width height block) ls) block
  unfolding scan_at
  same_block block e =
      ext_get_or (pos 0) (signs block levels) (laid (scan width height) vs block)
      (signs_length block levels (omega arith) ∙ sym (laid_length (scan width height) vs block))
      (λ b l.
      let h : b < width * height = omega (arith, signs_length block levels (omega arith)) in
      let q = scan_hit width height sc.wide sc.high sc.full b h in
      subst (λ (j : ℕ). at (signs block levels) j ≡ at (laid (scan width height) vs block) j) q.2
      (here q.0 q.1))
    where
      vs : List ℤ
      vs = signs (in_order width height block) ls

      coefficients : length (in_order width height block) ≡ width * height
      coefficients = length-map (scan width height) (λ p. at block p) ∙ sc.full

      here : (k : ℕ) → k < width * height
          → at (signs block levels) (scan_at width height k) ≡ at (laid (scan width height) vs block)
          (scan_at width height k)
      here k h =
          let i = scan_inside width height sc.wide sc.high k
          (omega (arith, sc.full)) in
          signs_at block levels (scan_at width height k) (omega arith) (omega arith)
          ∙ ap (λ (a : ℕ). signed (at block (scan_at width height k)) a) (s k h)
          ∙ ap (λ (z : ℤ). signed z (get_or ls k 0))
          (sym (map_at 0 (pos 0) (λ p. at block p) (scan width height) k (omega (arith, sc.full))))
          ∙ sym
          (signs_at (in_order width height block) ls k (omega (arith, coefficients)) (omega (arith, coefficients)))
          ∙ sym
          (laid_on_scan width height sc.wide sc.high vs block k
          (signs_length (in_order width height block) ls (omega (arith, coefficients))
          ∙ length-map (scan width height) (λ p. at block p))
          (omega arith) (omega (arith, sc.full)))
