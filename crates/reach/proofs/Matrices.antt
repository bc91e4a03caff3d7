-- What the bound takes of the matrices, by one computed test each over the sides: the magnitudes of a column add up to
-- at most its gain, and the products of a column with all columns are together at most its skew off.
use mathlib.Core.Bool.{Bool}
use Prim.Native.Nat.{ℕ, suc, ◌+◌, ◌^◌, ◌≤◌, ◌<◌}
use native.Mathlib.Omega.{arith}
use lib.Dec.{T, leb, leb→le}
use lib.IntN.{nat_abs, ◌-ℤ◌}
use Rattle.integers.specs.Sum.{sum, sum_ℕ}
use Rattle.integers.specs.Tests.{all}
use Rattle.integers.proofs.Tests.{all_at}
use Rattle.refusals.specs.Sides.{most_log2}
use Rattle.tables.specs.Matrix.{matrix}
use Rattle.reach.specs.Bound.{gain, skew}
use Rattle.reach.proofs.There.{gram, unit}

column_weight : ℕ → ℕ → ℕ
column_weight l x = sum_ℕ (2 ^ l) (λ v. nat_abs (matrix (2 ^ l) v x))

columns_test : ℕ → Bool
columns_test l = all (2 ^ l) (λ x. leb (column_weight l x) (gain l))

columns_computed : T (all (suc most_log2) columns_test)
unfolding all columns_test column_weight sum matrix gain
columns_computed = tt

pub column_gain : (l : ℕ) → l ≤ most_log2 → (x : ℕ) → x < 2 ^ l
    → sum_ℕ (2 ^ l) (λ v. nat_abs (matrix (2 ^ l) v x)) ≤ gain l
unfolding columns_test column_weight
column_gain l hl x hx =
    leb→le (column_weight l x) (gain l)
    (all_at (2 ^ l) (λ x. leb (column_weight l x) (gain l))
    (all_at (suc most_log2) columns_test columns_computed l (omega arith)) x hx)

column_skewed : ℕ → ℕ → ℕ
column_skewed l y =
    sum_ℕ (2 ^ l) (λ i. nat_abs (gram (2 ^ l) (matrix (2 ^ l)) y i -ℤ unit (2 ^ (12 + l)) y i))

skew_test : ℕ → Bool
skew_test l = all (2 ^ l) (λ y. leb (column_skewed l y) (skew l))

skew_computed : T (all (suc most_log2) skew_test)
unfolding all skew_test column_skewed sum unit matrix skew
skew_computed = tt

pub column_skew : (l : ℕ) → l ≤ most_log2 → (y : ℕ) → y < 2 ^ l
    → sum_ℕ (2 ^ l) (λ i. nat_abs (gram (2 ^ l) (matrix (2 ^ l)) y i -ℤ unit (2 ^ (12 + l)) y i)) ≤ skew l
unfolding skew_test column_skewed
column_skew l hl y hy =
    leb→le (column_skewed l y) (skew l)
    (all_at (2 ^ l) (λ y. leb (column_skewed l y) (skew l))
    (all_at (suc most_log2) skew_test skew_computed l (omega arith)) y hy)
