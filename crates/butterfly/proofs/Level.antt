-- One level of a butterfly, as a law over the half side 2^l and over any family of matrices that is symmetric there:
-- what the sums and the differences of a line of side 2^(l+1) give, and how a row of that side comes from a row of half
-- the side and the odd half.
use mathlib.Core.Path.{◌≡◌, refl, sym, ◌∙◌, ap, subst}
use mathlib.Core.Bool.{cond}
use mathlib.Core.List.{List}
use Prim.Native.Nat.{ℕ, zero, suc, ◌+◌, ◌-◌, ◌*◌, ◌/◌, ◌%◌, ◌^◌, ◌<◌, ◌≤◌}
use native.Mathlib.Nat.{two-pow-succ, mul-le-mul_right, add-mul, mul-add, mul_assoc, mul_comm}
use native.Mathlib.Omega.{arith}
use lib.Dec.{eqb}
use lib.ListN.{length}
use lib.IntN.{ℤ, nat_abs, ◌+ℤ◌, ◌-ℤ◌, ◌*ℤ◌}
use Rattle.integers.specs.Sum.{on_ℤ, on_ℕ, sum_ℤ, sum_ℕ, at}
use Rattle.integers.proofs.Sums.{sum_ext}
use Rattle.integers.proofs.Fold.{fold_symmetric, fold_antisymmetric}
use Rattle.integers.proofs.Dot.{weighted_within}
use Rattle.tables.specs.Matrix.{Matrices}
use Rattle.tables.specs.Inner.Symmetry.{Symmetric, Light}
use Rattle.tables.specs.Inner.OddRows.{odd_rows_of}
use Rattle.tables.proofs.OddRows.{odd_row_at, odd_rows_length}
use Rattle.butterfly.specs.Inner.Lines.{line_at, Folded, gained, spent, place, Behind, Row, Room}
use Rattle.butterfly.proofs.Room.{differences_within}

-- a row of even coefficients in front of the odd ones is the row of both: old is what stood there, and mid what is
-- there once the odd ones are
module _ (M : Matrices) (l : ℕ) (x e old mid new : List ℤ)
    (evens : (k : ℕ) → k < 2 ^ l → line_at M (2 ^ l) e k ≡ line_at M (2 ^ l + 2 ^ l) x (2 * k))
    (odds : (k : ℕ) → k < 2 ^ l → at mid (2 ^ l + k) ≡ line_at M (2 ^ l + 2 ^ l) x (2 * k + 1))
    (kept : (p : ℕ) → 2 ^ l + 2 ^ l ≤ p → at mid p ≡ at old p) (row : Row M l e mid new) where
  by_parity : (k r : ℕ) → k % 2 ≡ r → k < 2 ^ l + 2 ^ l → at new (place (suc l) k) ≡ line_at M (2 ^ l + 2 ^ l) x k
  unfolding place
  by_parity k zero q hk =
      ap (λ (m : ℕ). at new (cond (eqb m 0) (place l (k / 2)) (2 ^ l + k / 2))) q
      ∙ row.holds (k / 2) (omega arith)
      ∙ evens (k / 2) (omega arith)
      ∙ ap (λ (m : ℕ). line_at M (2 ^ l + 2 ^ l) x m) (omega arith)
  by_parity k (suc zero) q hk =
      ap (λ (m : ℕ). at new (cond (eqb m 0) (place l (k / 2)) (2 ^ l + k / 2))) q
      ∙ row.kept (2 ^ l + k / 2) (omega arith)
      ∙ odds (k / 2) (omega arith)
      ∙ ap (λ (m : ℕ). line_at M (2 ^ l + 2 ^ l) x m) (omega arith)
  by_parity k (suc (suc r)) q hk = absurd (let no : ⊥ = omega arith in no)

  pub parity_joins : Row M (suc l) x old new
  parity_joins =
      record {
        holds = λ k hk.
            subst (λ (N : ℕ). at new (place (suc l) k) ≡ line_at M N x k) (sym (two-pow-succ l))
            (by_parity k (k % 2) refl (omega (arith, two-pow-succ l)));
        kept = λ p hp. row.kept p (omega (arith, two-pow-succ l)) ∙ kept p (omega (arith, two-pow-succ l));
      }

module _ (M : Matrices) (l : ℕ) (mirrored : Symmetric M (2 ^ l)) (x : List ℤ) (lx : length x ≡ 2 ^ l + 2 ^ l)
    (e o : List ℤ) (le : length e ≡ 2 ^ l) (f : Folded x e o) where
  -- the even coefficients are those of the sums
  pub even_coefficient : (k : ℕ) → k < 2 ^ l → line_at M (2 ^ l) e k ≡ line_at M (2 ^ l + 2 ^ l) x (2 * k)
  unfolding line_at
  even_coefficient k hk =
      sum_ext on_ℤ (2 ^ l) (λ n. M (2 ^ l) k n *ℤ at e n)
      (λ n. M (2 ^ l + 2 ^ l) (2 * k) n *ℤ (at x n +ℤ at x (2 ^ l + 2 ^ l - 1 - n)))
      (λ n hn.
      ap (λ (z : ℤ). z *ℤ at e n) (sym (mirrored.nested k n hk hn))
      ∙ ap (λ (z : ℤ). M (2 ^ l + 2 ^ l) (2 * k) n *ℤ z)
      (f.sums n (omega arith) ∙ ap (λ (m : ℕ). at x n +ℤ at x (m - 1 - n)) lx))
      ∙ sym (fold_symmetric (2 ^ l) (M (2 ^ l + 2 ^ l) (2 * k)) (at x) (λ n hn. mirrored.even k n hk hn))

  module _ (lo : length o ≡ 2 ^ l) (t : List ℤ) (et : t ≡ odd_rows_of M (2 ^ l)) where
    entry : (n k : ℕ) → n < 2 ^ l → k < 2 ^ l → at t (n * 2 ^ l + k) ≡ M (2 ^ l + 2 ^ l) (2 * k + 1) n
    entry n k hn hk = ap (λ (s : List ℤ). at s (n * 2 ^ l + k)) et ∙ odd_row_at M (2 ^ l) n k hn hk

    pub table_long : length o * length o ≤ length t
    table_long =
        subst (λ (m : ℕ). m * m ≤ length t) (sym lo)
        (omega (arith, ap (λ (s : List ℤ). length s) et, odd_rows_length M (2 ^ l)))

    -- the odd coefficients are what the differences gain
    pub odd_coefficient : (k : ℕ) → k < 2 ^ l → gained t o (length o) k ≡ line_at M (2 ^ l + 2 ^ l) x (2 * k + 1)
    unfolding line_at
    odd_coefficient k hk =
        ap (λ (m : ℕ). sum_ℤ m (λ n. at t (n * m + k) *ℤ at o n)) lo
        ∙ sum_ext on_ℤ (2 ^ l) (λ n. at t (n * 2 ^ l + k) *ℤ at o n)
        (λ n. M (2 ^ l + 2 ^ l) (2 * k + 1) n *ℤ (at x n -ℤ at x (2 ^ l + 2 ^ l - 1 - n)))
        (λ n hn.
        ap (λ (z : ℤ). z *ℤ at o n) (entry n k hn hk)
        ∙ ap (λ (z : ℤ). M (2 ^ l + 2 ^ l) (2 * k + 1) n *ℤ z)
        (f.differences n (omega arith) ∙ ap (λ (m : ℕ). at x n -ℤ at x (m - 1 - n)) lx))
        ∙ sym (fold_antisymmetric (2 ^ l) (M (2 ^ l + 2 ^ l) (2 * k + 1)) (at x)
        (λ n hn. mirrored.odd k n hk hn))

    -- and where the odd rows are light, no part of it reaches 2^31
    pub odd_half_fits : Light M (2 ^ l) → Room (suc l) x → (k : ℕ) → k < 2 ^ l → spent t o (length o) k < 2 ^ 31
    odd_half_fits light r k hk =
        let most = r.most in
        let w = sum_ℕ (2 ^ l) (λ n. nat_abs (M (2 ^ l + 2 ^ l) (2 * k + 1) n)) in
        let weights : sum_ℕ (2 ^ l) (λ n. nat_abs (at t (n * 2 ^ l + k))) ≡ w =
        sum_ext on_ℕ (2 ^ l) (λ n. nat_abs (at t (n * 2 ^ l + k))) (λ n. nat_abs (M (2 ^ l + 2 ^ l) (2 * k + 1) n))
        (λ n hn. ap nat_abs (entry n k hn hk)) in
        let within : sum_ℕ (2 ^ l) (λ n. nat_abs (at t (n * 2 ^ l + k)) * nat_abs (at o n)) ≤ w * (most + most) =
        subst
        (λ (v : ℕ). sum_ℕ (2 ^ l) (λ n. nat_abs (at t (n * 2 ^ l + k)) * nat_abs (at o n)) ≤ v * (most + most))
        weights
        (weighted_within (2 ^ l) (most + most) (λ n. nat_abs (at t (n * 2 ^ l + k))) (λ n. nat_abs (at o n))
        (differences_within l x lx r e o le f)) in
        let bound : w * (most + most) ≤ 64 * 2 ^ l * (most + most) = mul-le-mul_right (most + most) (light k hk) in
        let total : 64 * 2 ^ l * (most + most) ≡ 64 * (most * 2 ^ suc l) =
        mul_assoc 64 (2 ^ l) (most + most)
        ∙ ap (λ (v : ℕ). 64 * v)
        (mul_comm (2 ^ l) (most + most) ∙ add-mul most most (2 ^ l) ∙ sym (mul-add most (2 ^ l) (2 ^ l))
        ∙ ap (λ (v : ℕ). most * v) (sym (two-pow-succ l))) in
        subst (λ (m : ℕ). sum_ℕ m (λ n. nat_abs (at t (n * m + k)) * nat_abs (at o n)) < 2 ^ 31) (sym lo)
        (omega (arith, r.room))

  -- `old` with the odd half b put into it is `mid`; the row of the sums in front of that is `new`
  module _ (b old mid new : List ℤ) (lb : length b ≡ 2 ^ l)
      (odds : (k : ℕ) → k < 2 ^ l → at b k ≡ line_at M (2 ^ l + 2 ^ l) x (2 * k + 1)) (put : Behind b old mid)
      (row : Row M l e mid new) where
    pub row_joins : Row M (suc l) x old new
    row_joins =
        parity_joins M l x e old mid new even_coefficient
        (λ k hk.
        subst (λ (m : ℕ). at mid (m + k) ≡ at b k) lb (put.holds k (omega (arith, lb)))
        ∙ odds k hk)
        (λ p hp. put.kept p (omega (arith, lb))) row
