-- The two stages, the second on either part of what the first left, are the double sum; how large the sums of each are;
-- and when each place holds its residual, the block is the list that the definition says.
use mathlib.Core.Path.{◌≡◌, refl, sym, ◌∙◌, ap, subst}
use mathlib.Core.List.{List}
use Prim.Native.Nat.{ℕ, ◌+◌, ◌*◌, ◌/◌, ◌%◌, ◌^◌, ◌<◌, ◌≤◌}
use native.Mathlib.Nat.{mul_comm}
use native.Mathlib.Omega.{arith}
use lib.Pow.{pow_pos}
use lib.ListN.{length}
use lib.IntN.{ℤ, pos, nat_abs, ◌*ℤ◌, *ℤ_comm}
use Rattle.integers.specs.Sum.{on_ℤ, sum_ℤ, at}
use Rattle.integers.specs.Floor.{rounded}
use Rattle.integers.specs.Clip.{clipped}
use Rattle.integers.proofs.Ring.{*-assoc}
use Rattle.integers.proofs.Sums.{ints, sum_ext, sum_swap}
use Rattle.integers.proofs.Fold.{sum_times}
use Rattle.integers.proofs.Grid.{inside, row_inside, column_inside, place_is}
use Rattle.integers.proofs.Tests.{listed_at, listed_length}
use Rattle.integers.proofs.Fill.{filled_all}
use Rattle.refusals.specs.Sides.{most_log2}
use Rattle.tables.specs.Matrix.{matrix}
use Rattle.tables.specs.Inner.Turned.{turned}
use Rattle.stages.specs.Inner.Stages.{stage_at}
use Rattle.stages.proofs.Product.{two_stages}
use Rattle.unfold.specs.Inner.Back.{value_at, most_value}
use Rattle.unfold.proofs.Level.{value_of_sum, value_bound}
use Rattle.unstage.specs.Inner.Rows.{line_value, Values}
use Rattle.parts.specs.Inner.Parts.{high_of, low_of, whole}
use Rattle.parts.proofs.Steps.{parts_whole, low_bound, high_bound}
use Rattle.decoding.specs.Inverse.{product_back, residual, residuals}

-- a value of a line is one of the stage with the transposed matrix
line_is_stage : (N : ℕ) (src : List ℤ) (j n : ℕ) → line_value N src j n ≡ stage_at (turned matrix) N src j n
unfolding value_at stage_at
line_is_stage N src j n = refl

-- a block whose places hold the definition's residuals is the definition's list
pub listed_is : (lw lh : ℕ) (c out : List ℤ) → length out ≡ 2 ^ lw * 2 ^ lh
    → ((i : ℕ) → i < 2 ^ lw * 2 ^ lh
    → at out i ≡ clipped (rounded (product_back c (2 ^ lw) (2 ^ lh) (i / 2 ^ lw) (i % 2 ^ lw)) 17))
    → out ≡ residuals c lw lh
unfolding residuals residual
listed_is lw lh c out lo e =
    filled_all (pos 0) out (residuals c lw lh) (2 ^ lw * 2 ^ lh)
    (lo ∙ sym (listed_length (λ i. residual c lw lh (i / 2 ^ lw) (i % 2 ^ lw)) 0 (2 ^ lw * 2 ^ lh)))
    (omega arith)
    (λ i h.
    e i h ∙ sym (listed_at (pos 0) (λ i. residual c lw lh (i / 2 ^ lw) (i % 2 ^ lw)) (2 ^ lw * 2 ^ lh) i h))

-- the same by rows and columns
by_places : (lw lh : ℕ) (c out : List ℤ) → length out ≡ 2 ^ lw * 2 ^ lh
    → ((u y : ℕ) → u < 2 ^ lw → y < 2 ^ lh
    → at out (y * 2 ^ lw + u) ≡ clipped (rounded (product_back c (2 ^ lw) (2 ^ lh) y u) 17))
    → out ≡ residuals c lw lh
by_places lw lh c out lo e =
    listed_is lw lh c out lo
    (λ i h.
    let h' : i < 2 ^ lh * 2 ^ lw = omega (arith, mul_comm (2 ^ lw) (2 ^ lh)) in
    ap (at out) (sym (place_is (2 ^ lw) (2 ^ lh) i (pow_pos lw) h'))
    ∙ e (i % 2 ^ lw) (i / 2 ^ lw) (column_inside (2 ^ lw) (2 ^ lh) i (pow_pos lw) h')
    (row_inside (2 ^ lw) (2 ^ lh) i (pow_pos lw) h'))

module _ (lw lh : ℕ) (hw : lw ≤ most_log2) (hh : lh ≤ most_log2) where
  -- every number of a stage, where the numbers of its lines are at most b
  values_at : (lines : ℕ) (src dst : List ℤ) → lines ≡ 2 ^ lw → Values lh lines src dst → (i : ℕ) → i < 2 ^ lw * 2 ^ lh
      → at dst i ≡ line_value (2 ^ lh) src (i % 2 ^ lw) (i / 2 ^ lw)
  values_at lines src dst e v i hi =
      let hi' : i < 2 ^ lh * 2 ^ lw = omega (arith, mul_comm (2 ^ lw) (2 ^ lh)) in
      let hy : i / 2 ^ lw < 2 ^ lh = row_inside (2 ^ lw) (2 ^ lh) i (pow_pos lw) hi' in
      let hx : i % 2 ^ lw < 2 ^ lw = column_inside (2 ^ lw) (2 ^ lh) i (pow_pos lw) hi' in
      ap (at dst) (sym (place_is (2 ^ lw) (2 ^ lh) i (pow_pos lw) hi'))
      ∙ subst (λ (m : ℕ). at dst (i / 2 ^ lw * m + i % 2 ^ lw) ≡ line_value (2 ^ lh) src (i % 2 ^ lw) (i / 2 ^ lw)) e
      (v.holds (i % 2 ^ lw) (i / 2 ^ lw) (omega arith) hy)

  values_within : (b lines : ℕ) (src dst : List ℤ) → lines ≡ 2 ^ lw → Values lh lines src dst
      → length src ≡ 2 ^ lw * 2 ^ lh → ((i : ℕ) → i < length src → nat_abs (at src i) ≤ b)
      → (i : ℕ) → i < 2 ^ lw * 2 ^ lh → nat_abs (at dst i) ≤ 1864 * b
  values_within b lines src dst e v ls each i hi =
      let hi' : i < 2 ^ lh * 2 ^ lw = omega (arith, mul_comm (2 ^ lw) (2 ^ lh)) in
      let hx : i % 2 ^ lw < 2 ^ lw = column_inside (2 ^ lw) (2 ^ lh) i (pow_pos lw) hi' in
      omega (
        arith,
        ap nat_abs (values_at lines src dst e v i hi),
        value_bound lh hh (λ k. at src (i % 2 ^ lw * 2 ^ lh + k)) b
            (λ k hk. each (i % 2 ^ lw * 2 ^ lh + k) (omega (arith, inside (2 ^ lh) (i % 2 ^ lw) k hk (2 ^ lw) hx)))
            (i / 2 ^ lw) (row_inside (2 ^ lw) (2 ^ lh) i (pow_pos lw) hi'),
      )

-- a block of coefficients, and x what the first stage left of it
module _ (lw lh : ℕ) (hw : lw ≤ most_log2) (hh : lh ≤ most_log2) (c x : List ℤ) (lines : ℕ) (el : lines ≡ 2 ^ lh)
    (first : Values lw lines c x) (lx : length x ≡ 2 ^ lw * 2 ^ lh) where
  first_is : (u v : ℕ) → u < 2 ^ lw → v < 2 ^ lh → at x (u * 2 ^ lh + v) ≡ stage_at (turned matrix) (2 ^ lw) c v u
  first_is u v hu hv =
      subst (λ (m : ℕ). at x (u * m + v) ≡ line_value (2 ^ lw) c v u) el (first.holds v u (omega arith) hu)
      ∙ line_is_stage (2 ^ lw) c v u

  pub first_within : (i : ℕ) → i < length x → nat_abs (at x i) ≤ most_value
  first_within i hi =
      let u = i / 2 ^ lh in
      let v = i % 2 ^ lh in
      let hi' : i < 2 ^ lw * 2 ^ lh = omega arith in
      let hu : u < 2 ^ lw = row_inside (2 ^ lh) (2 ^ lw) i (pow_pos lh) hi' in
      let hv : v < 2 ^ lh = column_inside (2 ^ lh) (2 ^ lw) i (pow_pos lh) hi' in
      subst (λ (k : ℕ). nat_abs (at x k) ≤ most_value) (place_is (2 ^ lh) (2 ^ lw) i (pow_pos lh) hi')
      (subst (λ (z : ℤ). nat_abs z ≤ most_value) (sym (first_is u v hu hv ∙ sym (line_is_stage (2 ^ lw) c v u)))
      (first.within v u (omega arith) hu))

  -- the second stage of what the first left is the double sum
  second_is : (u y : ℕ) → u < 2 ^ lw → line_value (2 ^ lh) x u y ≡ product_back c (2 ^ lw) (2 ^ lh) y u
  unfolding product_back
  second_is u y hu =
      line_is_stage (2 ^ lh) x u y
      ∙ two_stages (turned matrix) (2 ^ lw) (2 ^ lh) c x u y (λ v hv. first_is u v hu hv)

  -- where the last stage works on its sums as they are, column u at a time
  pub settled_columns : (out : List ℤ) → length out ≡ 2 ^ lw * 2 ^ lh
      → ((u y : ℕ) → u < 2 ^ lw → y < 2 ^ lh
      → at out (y * 2 ^ lw + u) ≡ clipped (rounded (line_value (2 ^ lh) x u y) 17))
      → out ≡ residuals c lw lh
  settled_columns out lo e =
      by_places lw lh c out lo
      (λ u y hu hy. e u y hu hy ∙ ap (λ (z : ℤ). clipped (rounded z 17)) (second_is u y hu))

  -- its two parts, and what the second stage left of each
  module _ (hi lo p q : List ℤ) (m : ℕ) (em : m ≡ 2 ^ lw)
      (lhi : length hi ≡ length x) (ehi : (i : ℕ) → i < length x → at hi i ≡ high_of (at x i))
      (llo : length lo ≡ length x) (elo : (i : ℕ) → i < length x → at lo i ≡ low_of (at x i))
      (sp : Values lh m hi p) (sq : Values lh m lo q) where
    pub high_within : (i : ℕ) → i < 2 ^ lw * 2 ^ lh → nat_abs (at p i) ≤ 27795968
    high_within i h =
        omega (
          arith,
          values_within lw lh hw hh 14912 m hi p em sp (lhi ∙ lx)
              (λ k hk. omega (arith, ap nat_abs (ehi k (omega arith)), high_bound (at x k) (first_within k (omega arith)))) i h,
        )

    pub low_within : (i : ℕ) → i < 2 ^ lw * 2 ^ lh → nat_abs (at q i) ≤ 7633080
    low_within i h =
        omega (
          arith,
          values_within lw lh hw hh 4095 m lo q em sq (llo ∙ lx)
              (λ k hk. omega (arith, ap nat_abs (elo k (omega arith)), low_bound (at x k))) i h,
        )

    -- the values of the two parts together are those of what was split
    parts_together : (u : ℕ) → u < 2 ^ lw → (y : ℕ)
        → value_at matrix (2 ^ lh) (λ k. whole (at hi (u * 2 ^ lh + k)) (at lo (u * 2 ^ lh + k))) y
        ≡ line_value (2 ^ lh) x u y
    unfolding value_at
    parts_together u hu y =
        sum_ext on_ℤ (2 ^ lh)
        (λ k. matrix (2 ^ lh) k y *ℤ whole (at hi (u * 2 ^ lh + k)) (at lo (u * 2 ^ lh + k)))
        (λ k. matrix (2 ^ lh) k y *ℤ at x (u * 2 ^ lh + k))
        (λ k hk.
        let inx : u * 2 ^ lh + k < length x = omega (arith, inside (2 ^ lh) u k hk (2 ^ lw) hu) in
        ap (λ (z : ℤ). matrix (2 ^ lh) k y *ℤ z)
        (ap (λ (z : ℤ). whole z (at lo (u * 2 ^ lh + k))) (ehi (u * 2 ^ lh + k) inx)
        ∙ ap (λ (z : ℤ). whole (high_of (at x (u * 2 ^ lh + k))) z) (elo (u * 2 ^ lh + k) inx)
        ∙ parts_whole (at x (u * 2 ^ lh + k))))

    joined : (i : ℕ) → i < 2 ^ lw * 2 ^ lh
        → whole (at p i) (at q i) ≡ product_back c (2 ^ lw) (2 ^ lh) (i / 2 ^ lw) (i % 2 ^ lw)
    joined i h =
        let w = 2 ^ lw in
        let y = i / w in
        let u = i % w in
        let h' : i < 2 ^ lh * w = omega (arith, mul_comm w (2 ^ lh)) in
        let hu : u < w = column_inside w (2 ^ lh) i (pow_pos lw) h' in
        ap (λ (z : ℤ). whole z (at q i)) (values_at lw lh hw hh m hi p em sp i h)
        ∙ ap (λ (z : ℤ). whole (line_value (2 ^ lh) hi u y) z) (values_at lw lh hw hh m lo q em sq i h)
        ∙ value_of_sum matrix (2 ^ lh) (pos 4096) (λ k. at hi (u * 2 ^ lh + k)) (λ k. at lo (u * 2 ^ lh + k)) y
        ∙ parts_together u hu y
        ∙ second_is u y hu

    pub settled : (out : List ℤ) → length out ≡ 2 ^ lw * 2 ^ lh
        → ((i : ℕ) → i < 2 ^ lw * 2 ^ lh → at out i ≡ clipped (rounded (whole (at p i) (at q i)) 17))
        → out ≡ residuals c lw lh
    settled out lo' e =
        listed_is lw lh c out lo' (λ i h. e i h ∙ ap (λ (z : ℤ). clipped (rounded z 17)) (joined i h))

-- ---- a block whose first stage went over the columns: t has them one after the other
module _ (lw lh : ℕ) (c t x : List ℤ)
    (turn : (u v : ℕ) → u < 2 ^ lw → v < 2 ^ lh → at t (u * 2 ^ lh + v) ≡ at c (v * 2 ^ lw + u))
    (first : (u y : ℕ) → u < 2 ^ lw → y < 2 ^ lh → at x (y * 2 ^ lw + u) ≡ line_value (2 ^ lh) t u y) where
  rows_are_product : (y k : ℕ) → y < 2 ^ lh → line_value (2 ^ lw) x y k ≡ product_back c (2 ^ lw) (2 ^ lh) y k
  unfolding product_back value_at
  rows_are_product y k hy =
      let w = 2 ^ lw in
      let h = 2 ^ lh in
      sum_ext on_ℤ w (λ u. matrix w u k *ℤ at x (y * w + u))
      (λ u. sum_ℤ h (λ v. (matrix h v y *ℤ matrix w u k) *ℤ at c (v * w + u)))
      (λ u hu.
      ap (λ (z : ℤ). matrix w u k *ℤ z) (first u y hu hy)
      ∙ sym (sum_times h (matrix w u k) (λ v. matrix h v y *ℤ at t (u * h + v)))
      ∙ sum_ext on_ℤ h (λ v. matrix w u k *ℤ (matrix h v y *ℤ at t (u * h + v)))
      (λ v. (matrix h v y *ℤ matrix w u k) *ℤ at c (v * w + u))
      (λ v hv.
      ap (λ (z : ℤ). matrix w u k *ℤ (matrix h v y *ℤ z)) (turn u v hu hv)
      ∙ sym (*-assoc (matrix w u k) (matrix h v y) (at c (v * w + u)))
      ∙ ap (λ (z : ℤ). z *ℤ at c (v * w + u)) (*ℤ_comm (matrix w u k) (matrix h v y))))
      ∙ sum_swap ints w h (λ u v. (matrix h v y *ℤ matrix w u k) *ℤ at c (v * w + u))

  pub settled_rows : (out : List ℤ) → length out ≡ 2 ^ lw * 2 ^ lh
      → ((y k : ℕ) → y < 2 ^ lh → k < 2 ^ lw
      → at out (y * 2 ^ lw + k) ≡ clipped (rounded (line_value (2 ^ lw) x y k) 17))
      → out ≡ residuals c lw lh
  settled_rows out lo e =
      by_places lw lh c out lo
      (λ k y hk hy. e y k hy hk ∙ ap (λ (z : ℤ). clipped (rounded z 17)) (rows_are_product y k hy))
