-- The scan meets each place of the block: a block place lies inside the block, no two scan places have one block place,
-- and there are as many of the one as of the other. The first two hold for every width and height; the count is
-- computed.
use mathlib.Core.Path.{◌≡◌, refl, sym, ap, subst, ◌∙◌}
use mathlib.Core.Logic.{⊎_elim}
use mathlib.Core.Bool.{Bool, true, false, cond}
use mathlib.Core.List.{List, ◌++◌}
use Prim.Native.Nat.{ℕ, zero, suc, ◌+◌, ◌-◌, ◌*◌, ◌/◌, ◌%◌, ◌≤◌, ◌<◌, ◌^◌}
use native.Mathlib.Nat.{not-suc-le-zero, mul-add-mod_self_right, mul-add-div_right, mod-eq_of_lt, div-eq_of_lt}
use native.Mathlib.Nat.{mul-le-mul_right, suc-mul, mul_comm}
use native.Mathlib.Omega.{arith}
use lib.Dec.{eqb, eqb→eq}
use lib.ListN.{length, get_or, length-append, get_or-append}
use lib.Seq.{get_or-append-add}
use Rattle.integers.specs.Tests.{all}
use Rattle.integers.proofs.Order.{below_or_not}
use Rattle.integers.proofs.Tests.{all_at, listed_at, listed_length}
use Rattle.refusals.specs.Sides.{most_log2}
use Rattle.scan.specs.Scan.{low, high, count, upwards, x_at, on_diagonal, diagonal, diagonals, scan, scan_at}
use Rattle.scan.specs.Scan.{square_scan}

-- the i-th of the numbers from lo to hi, upwards or downwards, stands i after the first
back : (up : Bool) (lo hi i : ℕ) → i < hi + 1 - lo
    → cond up (cond up (lo + i) (hi - i) - lo) (hi - cond up (lo + i) (hi - i)) ≡ i
back true lo hi i h = omega arith
back false lo hi i h = omega arith

module _ (w h : ℕ) where
  -- how many places lie on the diagonals before d
  before : ℕ → ℕ
  before zero = 0
  before (suc d) = before d + count w h d

  -- v stands at scan place k: it is the i-th of the diagonal d
  record On (v k : ℕ) : Type 0 where
    pub d : ℕ
    pub i : ℕ
    pub inside : i < count w h d
    pub is : v ≡ on_diagonal w d (x_at w h d i)
    pub counted : k ≡ before d + i

  diagonal_length : (d : ℕ) → length (diagonal w h d) ≡ count w h d
  unfolding diagonal
  diagonal_length d = listed_length (λ i. on_diagonal w d (x_at w h d i)) 0 (count w h d)

  on_diagonals : (d n k : ℕ) → k < length (diagonals w h d n) → On (get_or (diagonals w h d n) k 0) (before d + k)
  unfolding diagonals diagonal before
  on_diagonals d zero k p = absurd (not-suc-le-zero p)
  on_diagonals d (suc n) k p =
      ⊎_elim here (λ q. later q (λ j l. on_diagonals (suc d) n j l)) (below_or_not k (count w h d))
    where
      rest : List ℕ
      rest = diagonals w h (suc d) n

      here : k < count w h d → On (get_or (diagonal w h d ++ rest) k 0) (before d + k)
      here q =
          record {
            d = d;
            i = k;
            inside = q;
            is =
                get_or-append (diagonal w h d) rest 0 k (omega (arith, diagonal_length d))
                ∙ listed_at 0 (λ i. on_diagonal w d (x_at w h d i)) (count w h d) k q;
            counted = refl;
          }

      later : count w h d ≤ k → ((j : ℕ) → j < length rest → On (get_or rest j 0) (before (suc d) + j))
          → On (get_or (diagonal w h d ++ rest) k 0) (before d + k)
      later q next =
          let j = k - count w h d in
          let e : length (diagonal w h d) + j ≡ k = omega (arith, diagonal_length d) in
          let f : before (suc d) + j ≡ before d + k = omega arith in
          subst (λ (m : ℕ). On (get_or (diagonal w h d ++ rest) m 0) (before d + k)) e
          (subst (λ (v : ℕ). On v (before d + k)) (sym (get_or-append-add (diagonal w h d) rest j 0))
          (subst (λ (m : ℕ). On (get_or rest j 0) m) f
          (next j (omega (arith, p, length-append (diagonal w h d) rest, diagonal_length d)))))

  on_scan : (p : ℕ) → p < length (scan w h) → On (scan_at w h p) p
  unfolding scan scan_at before
  on_scan p q =
      subst (λ (k : ℕ). On (scan_at w h p) k) (let e : 0 + p ≡ p = omega arith in e) (on_diagonals 0 (w + h - 1) p q)

  -- ---- a block place, taken apart
  -- the x that a diagonal meets
  record Met (d x : ℕ) : Type 0 where
    pub from : low h d ≤ x
    pub upto : x ≤ high w d

  x_met : (d i : ℕ) → i < count w h d → Met d (x_at w h d i)
  unfolding count x_at
  x_met d i q = by (upwards d)
    where
      by : (even : Bool) → Met d (cond even (low h d + i) (high w d - i))
      by true = record { from = omega arith; upto = omega arith }
      by false = record { from = omega arith; upto = omega arith }

  module _ (hw : 1 ≤ w) (hh : 1 ≤ h) where
    pub scan_inside : (p : ℕ) → p < length (scan w h) → scan_at w h p < w * h
    unfolding on_diagonal low high
    scan_inside p q =
        let o = on_scan p q in
        let x = x_at w h o.d o.i in
        let m = x_met o.d o.i o.inside in
        let y = o.d - x in
        let b : y * w ≤ (h - 1) * w = mul-le-mul_right w (omega (arith, m.from)) in
        let e : suc (h - 1) ≡ h = omega arith in
        omega (arith, o.is, b, m.upto, suc-mul (h - 1) w, ap (λ (k : ℕ). k * w) e, mul_comm w h)

    -- the scan place of a block place
    rank_at : ℕ → ℕ → ℕ
    rank_at d x = before d + cond (upwards d) (x - low h d) (high w d - x)

    rank : ℕ → ℕ
    rank b = rank_at (b % w + b / w) (b % w)

    rank_on : (d i : ℕ) → i < count w h d → rank (on_diagonal w d (x_at w h d i)) ≡ before d + i
    unfolding rank rank_at on_diagonal x_at count low high
    rank_on d i q =
        let x = x_at w h d i in
        let b = (d - x) * w + x in
        let m = x_met d i q in
        let l : x < w = omega (arith, m.upto) in
        let ex : b % w ≡ x = mul-add-mod_self_right (d - x) w x ∙ mod-eq_of_lt l in
        let ey : b / w ≡ d - x + 0 =
        mul-add-div_right {m = w} hw (d - x) x ∙ ap (λ (k : ℕ). d - x + k) (div-eq_of_lt l) in
        let ed : b % w + b / w ≡ d = omega (arith, m.upto) in
        ap (λ (k : ℕ). rank_at (b % w + b / w) k) ex
        ∙ ap (λ (k : ℕ). rank_at k x) ed
        ∙ ap (λ (k : ℕ). before d + k) (back (upwards d) (low h d) (high w d) i q)

    pub scan_apart : (p q : ℕ) → p < length (scan w h) → q < length (scan w h) → scan_at w h p ≡ scan_at w h q → p ≡ q
    scan_apart p q hp hq e =
        let o = on_scan p hp in
        let n = on_scan q hq in
        o.counted
        ∙ sym (rank_on o.d o.i o.inside)
        ∙ ap rank (sym o.is ∙ e ∙ n.is)
        ∙ rank_on n.d n.i n.inside
        ∙ sym n.counted

-- as many scan places as block places, by one computed test over all sides
pub scan_length : (a b : ℕ) → a ≤ most_log2 → b ≤ most_log2 → length (scan (2 ^ a) (2 ^ b)) ≡ 2 ^ a * 2 ^ b
unfolding scan all
scan_length a b ha hb =
    eqb→eq (length (scan (2 ^ a) (2 ^ b))) (2 ^ a * 2 ^ b)
    (all_at (suc most_log2) (λ b. eqb (length (scan (2 ^ a) (2 ^ b))) (2 ^ a * 2 ^ b))
    (all_at (suc most_log2) (λ a. all (suc most_log2) (λ b. eqb (length (scan (2 ^ a) (2 ^ b))) (2 ^ a * 2 ^ b))) tt a
    (omega arith))
    b (omega arith))

pub square_scan_length : (l : ℕ) → l ≤ most_log2 → length (square_scan l) ≡ 4 ^ l
unfolding square_scan all
square_scan_length l h =
    eqb→eq (length (square_scan l)) (4 ^ l)
    (all_at (suc most_log2) (λ l. eqb (length (square_scan l)) (4 ^ l)) tt l (omega arith))
