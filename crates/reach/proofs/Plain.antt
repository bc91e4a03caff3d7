-- Plain rounding's reach: where every level is m, no sample that a viewer decodes is farther from its residual than
-- the bound. Of residuals that fill a square block and are at most 1023, whatever the QP.
use mathlib.Core.Path.{◌≡◌, refl, sym, ap, ◌∙◌}
use mathlib.Core.List.{List, map}
use Prim.Native.Nat.{ℕ, ◌+◌, ◌-◌, ◌*◌, ◌/◌, ◌%◌, ◌^◌, ◌≤◌, ◌<◌}
use native.Mathlib.Nat.{mul_comm, mul_assoc, mul-add, mul_left_comm}
use native.Mathlib.Omega.{arith}
use lib.Pow.{pow-add, pow_pos}
use lib.ListN.{length, length-map, take}
use lib.Seq.{get_or-take, length-take-le}
use lib.IntN.{ℤ, pos, nat_abs, ◌*ℤ◌}
use Rattle.integers.specs.Sum.{at}
use Rattle.integers.specs.Floor.{rounded}
use Rattle.integers.proofs.Ring.{*-assoc}
use Rattle.integers.proofs.Lists.{map_at}
use Rattle.integers.proofs.Tests.{listed_at}
use Rattle.integers.proofs.Grid.{inside, row_of, column_of_lem, row_inside, column_inside, place_is}
use Rattle.refusals.specs.Sides.{most_log2}
use Rattle.tables.specs.Matrix.{matrix}
use Rattle.tables.specs.Scales.{back}
use Rattle.transform.specs.Coefficients.{product, coefficient, coefficients}
use Rattle.transform.proofs.Whole.{coefficient_bound}
use Rattle.transform.proofs.Bounds.{coefficients_long}
use Rattle.decoding.specs.Scaling.{scaled_back, coefficients_back}
use Rattle.decoding.specs.Inverse.{product_back, residual, residuals}
use Rattle.heights.specs.Extremes.{decoded, darker, lighter, extremes}
use Rattle.heights.specs.Extremes as heights
use Rattle.heights.proofs.Exact.{largest_within}
use Rattle.reach.specs.Bound.{plain_level, plain_levels, strayed, gain, skew, missed, bound}
use Rattle.reach.proofs.Near.{Near, near_is, near_within, near_through, near_times, near_cancel}
use Rattle.reach.proofs.Near.{near_rounded, near_clipped, near_above}
use Rattle.reach.proofs.There.{dot, gram, dot_same, dot_times_both, dot_of_products, there_and_back, near_dot}
use Rattle.reach.proofs.There.{near_both}
use Rattle.reach.proofs.Matrices.{column_gain, column_skew}
use Rattle.reach.proofs.Coefficient.{near_back}

-- ---- the bound's numbers
skewed : (off w : ℕ) → off * ((w + off) * 1023) + w * (off * 1023) ≡ 1023 * off * (2 * w + off)
skewed off w =
    omega (
      arith,
      mul_assoc off (w + off) 1023,
      mul-add off w off,
      mul_assoc w off 1023,
      mul_comm w off,
      mul_assoc 1023 off (2 * w + off),
      mul-add off (2 * w) off,
      mul_left_comm off 2 w,
    )

module _ (l : ℕ) where
  unit_whole : 2 ^ (7 + l + l) * 2 ^ 17 ≡ 2 ^ (24 + l + l)
  unit_whole =
      sym (pow-add 2 (7 + l + l) 17) ∙ ap (λ (k : ℕ). 2 ^ k) (let e : 7 + l + l + 17 ≡ 24 + l + l = omega arith in e)

  whole_whole : 2 ^ (12 + l) * 2 ^ (12 + l) ≡ 2 ^ (24 + l + l)
  whole_whole =
      sym (pow-add 2 (12 + l) (12 + l))
      ∙ ap (λ (k : ℕ). 2 ^ k) (let e : 12 + l + (12 + l) ≡ 24 + l + l = omega arith in e)

  half_unit : 2 ^ (7 + l + l - 1) ≡ 2 ^ (6 + l + l)
  half_unit = ap (λ (k : ℕ). 2 ^ k) (let e : 7 + l + l - 1 ≡ 6 + l + l = omega arith in e)

module _ (l qp : ℕ) (hl : l ≤ most_log2) (r : List ℤ) (lr : length r ≡ 2 ^ l * 2 ^ l)
    (small : (i : ℕ) → i < length r → nat_abs (at r i) ≤ 1023) (levels : List ℤ)
    (long : 2 ^ l * 2 ^ l ≤ length levels)
    (plainly : (i : ℕ) → i < 2 ^ l * 2 ^ l → at levels i ≡ plain_level l qp (at (coefficients r l l) i)) where
  abbrev n : ℕ
  n = 2 ^ l

  abbrev T : ℕ → ℕ → ℤ
  T = matrix (2 ^ l)

  abbrev unit : ℕ
  unit = 2 ^ (7 + l + l)

  abbrev whole : ℕ
  whole = 2 ^ (12 + l)

  -- the residuals by row and column, and the coefficients that a viewer scales back
  abbrev R : ℕ → ℕ → ℤ
  R j i = at r (j * 2 ^ l + i)

  abbrev scaled : List ℤ
  scaled = coefficients_back back l qp levels

  abbrev C : ℕ → ℕ → ℤ
  C v u = at (coefficients_back back l qp levels) (v * 2 ^ l + u)

  -- ---- a coefficient
  coefficient_at : (v u : ℕ) → v < n → u < n → at (coefficients r l l) (v * n + u) ≡ coefficient r l l v u
  unfolding coefficients
  coefficient_at v u hv hu =
      listed_at (pos 0) (λ i. coefficient r l l (i / n) (i % n)) (n * n) (v * n + u) (inside n v u hu n hv)
      ∙ ap (λ (k : ℕ). coefficient r l l k ((v * n + u) % n)) (row_of n v u hu)
      ∙ ap (λ (k : ℕ). coefficient r l l v k) (column_of_lem n v u hu)

  scaled_at : (v u : ℕ) → v < n → u < n → C v u ≡ scaled_back back l qp (plain_level l qp (coefficient r l l v u))
  unfolding coefficients_back
  scaled_at v u hv hu =
      let i = v * n + u in
      let h : i < n * n = inside n v u hu n hv in
      map_at (pos 0) (pos 0) (scaled_back back l qp) (take (n * n) levels) i
      (omega (arith, length-take-le (n * n) levels long))
      ∙ ap (scaled_back back l qp)
      (get_or-take (n * n) levels i (pos 0) h ∙ plainly i h ∙ ap (plain_level l qp) (coefficient_at v u hv hu))

  near_coefficient : (v u : ℕ) → v < n → u < n
      → Near (pos unit *ℤ C v u) (product r n n v u) (unit * (strayed l qp / 2 ^ 20) + 2 ^ (6 + l + l))
  unfolding coefficient
  near_coefficient v u hv hu =
      near_through
      (near_times unit
      (near_is (sym (scaled_at v u hv hu)) refl
      (near_back l qp hl (coefficient r l l v u) (coefficient_bound l l hl hl r lr small v u hv hu))))
      (near_within (near_rounded (product r n n v u) (7 + l + l) (omega arith)) (omega (arith, half_unit l)))

  -- ---- there and back
  product_is : (v u : ℕ) → product r n n v u ≡ dot n (T v) (λ j. dot n (T u) (R j))
  unfolding product
  product_is v u = dot_of_products n (T v) (λ j. T u) R

  product_back_is : (y x : ℕ) → product_back scaled n n y x ≡ dot n (λ v. T v y) (λ v. dot n (λ u. T u x) (λ u. C v u))
  unfolding product_back
  product_back_is y x = dot_of_products n (λ v. T v y) (λ v u. T u x) C

  residual_small : (j i : ℕ) → j < n → i < n → nat_abs (R j i) ≤ 1023
  residual_small j i hj hi = small (j * n + i) (omega (arith, inside n j i hi n hj))

  near_residual : (y x : ℕ) → y < n → x < n
      → Near (dot n (λ v. T v y) (λ v. dot n (λ u. T u x) (λ u. product r n n v u))) (pos whole *ℤ (pos whole *ℤ R y x))
      (skew l * ((whole + skew l) * 1023) + whole * (skew l * 1023))
  near_residual y x hy hx =
      near_is
      (sym
      (dot_same n (λ v. T v y) (λ v. dot n (λ u. T u x) (λ u. product r n n v u))
      (λ v. dot n (λ u. T u x) (λ u. dot n (T v) (λ j. dot n (T u) (R j))))
      (λ v hv.
      dot_same n (λ u. T u x) (λ u. product r n n v u) (λ u. dot n (T v) (λ j. dot n (T u) (R j)))
      (λ u hu. product_is v u))
      ∙ there_and_back n T R y x))
      refl
      (near_both n whole (skew l) (gram n T) (column_skew l hl) 1023 R residual_small y x hy hx)

  near_product : (y x : ℕ) → y < n → x < n
      → Near (pos unit *ℤ product_back scaled n n y x) (pos whole *ℤ (pos whole *ℤ R y x))
      (gain l * (gain l * (unit * (strayed l qp / 2 ^ 20) + 2 ^ (6 + l + l)))
      + (skew l * ((whole + skew l) * 1023) + whole * (skew l * 1023)))
  near_product y x hy hx =
      let e = unit * (strayed l qp / 2 ^ 20) + 2 ^ (6 + l + l) in
      near_through
      (near_is
      (dot_times_both n (λ v. T v y) (λ u. T u x) C (pos unit)
      ∙ ap (λ (z : ℤ). pos unit *ℤ z) (sym (product_back_is y x)))
      refl
      (near_dot n (gain l) (gain l * e) (λ v. T v y) (λ v. dot n (λ u. T u x) (λ u. pos unit *ℤ C v u))
      (λ v. dot n (λ u. T u x) (λ u. product r n n v u)) (column_gain l hl y hy)
      (λ v hv.
      near_dot n (gain l) e (λ u. T u x) (λ u. pos unit *ℤ C v u) (λ u. product r n n v u) (column_gain l hl x hx)
      (λ u hu. near_coefficient v u hv hu))))
      (near_residual y x hy hx)

  -- ---- a sample
  near_sample : (y x : ℕ) → y < n → x < n → Near (residual scaled l l y x) (R y x) (bound l qp)
  unfolding residual bound missed
  near_sample y x hy hx =
      let P = product_back scaled n n y x in
      let z = rounded P 17 in
      let U = 2 ^ (24 + l + l) in
      near_clipped z (R y x) (omega (arith, residual_small y x hy hx))
      (near_cancel U z (R y x) (missed l qp) (pow_pos (24 + l + l))
      (near_within
      (near_is
      (sym (*-assoc (pos unit) (pos (2 ^ 17)) z) ∙ ap (λ (k : ℕ). pos k *ℤ z) (unit_whole l))
      (sym (*-assoc (pos whole) (pos whole) (R y x)) ∙ ap (λ (k : ℕ). pos k *ℤ R y x) (whole_whole l))
      (near_through (near_times unit (near_rounded P 17 (omega arith))) (near_product y x hy hx)))
      (omega (arith, skewed (skew l) whole))))

  near_place : (i : ℕ) → i < n * n → Near (at (decoded back l qp levels) i) (at r i) (bound l qp)
  unfolding decoded residuals
  near_place i h =
      near_is
      (sym (listed_at (pos 0) (λ i. residual scaled l l (i / n) (i % n)) (n * n) i h))
      (ap (at r) (place_is n n i (pow_pos l) h))
      (near_sample (i / n) (i % n) (row_inside n n i (pow_pos l) h) (column_inside n n i (pow_pos l) h))

  pub levels_within_bound : ((extremes back l qp r levels).darker ≤ bound l qp)
      × ((extremes back l qp r levels).lighter ≤ bound l qp)
  unfolding extremes darker lighter
  levels_within_bound =
      let d = decoded back l qp levels in
      let b = bound l qp in (
        largest_within (n * n) b (λ i. heights.above (at r i) (at d i)) (λ i h. (near_above (near_place i h)).1),
        largest_within (n * n) b (λ i. heights.above (at d i) (at r i)) (λ i h. (near_above (near_place i h)).0),
      )

-- the levels m of the coefficients that the transform makes
pub plain_within_bound : (l qp : ℕ) → l ≤ most_log2 → (r : List ℤ) → length r ≡ 2 ^ l * 2 ^ l
    → ((i : ℕ) → i < length r → nat_abs (at r i) ≤ 1023)
    → ((extremes back l qp r (plain_levels l qp (coefficients r l l))).darker ≤ bound l qp)
    × ((extremes back l qp r (plain_levels l qp (coefficients r l l))).lighter ≤ bound l qp)
unfolding plain_levels
plain_within_bound l qp hl r lr small =
    let c = coefficients r l l in
    levels_within_bound l qp hl r lr small (map (plain_level l qp) c)
    (omega (arith, length-map c (plain_level l qp), coefficients_long r l l))
    (λ i h. map_at (pos 0) (pos 0) (plain_level l qp) c i (omega (arith, coefficients_long r l l)))
