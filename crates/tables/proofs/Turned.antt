-- What the inverse needs of the matrices: the first halves of the odd rows read the same by rows and by columns, so
-- that one table serves both directions; an entry is at most 90; and the magnitudes of a column add up to at most 1864,
-- which bounds every sum of the inverse. One computed test each over the sides.
use mathlib.Core.Path.{◌≡◌}
use mathlib.Core.Bool.{Bool}
use Prim.Native.Nat.{ℕ, suc, ◌+◌, ◌*◌, ◌^◌, ◌<◌, ◌≤◌}
use native.Mathlib.Omega.{arith}
use lib.Dec.{T, leb, leb→le}
use lib.IntN.{nat_abs}
use Rattle.integers.specs.Sum.{sum, sum_ℕ}
use Rattle.integers.specs.Tests.{all, eq_ℤ}
use Rattle.integers.proofs.Tests.{all_at, eq_ℤ→eq}
use Rattle.refusals.specs.Sides.{most_log2}
use Rattle.tables.specs.Matrix.{matrix}

crossed_test : ℕ → ℕ → ℕ → Bool
crossed_test h k n = eq_ℤ (matrix (h + h) (2 * k + 1) n) (matrix (h + h) (2 * n + 1) k)

crossed_computed : T (all most_log2 (λ l. all (2 ^ l) (λ k. all (2 ^ l) (λ n. crossed_test (2 ^ l) k n))))
unfolding all crossed_test matrix
crossed_computed = tt

pub odd_rows_crossed : (l : ℕ) → l < most_log2 → (k n : ℕ) → k < 2 ^ l → n < 2 ^ l
    → matrix (2 ^ l + 2 ^ l) (2 * k + 1) n ≡ matrix (2 ^ l + 2 ^ l) (2 * n + 1) k
unfolding crossed_test
odd_rows_crossed l hl k n hk hn =
    eq_ℤ→eq _ _
    (all_at (2 ^ l) (λ n. crossed_test (2 ^ l) k n)
    (all_at (2 ^ l) (λ k. all (2 ^ l) (λ n. crossed_test (2 ^ l) k n))
    (all_at most_log2 (λ l. all (2 ^ l) (λ k. all (2 ^ l) (λ n. crossed_test (2 ^ l) k n))) crossed_computed l hl) k hk)
    n hn)

entry_test : ℕ → ℕ → ℕ → Bool
entry_test N k n = leb (nat_abs (matrix N k n)) 90

entries_computed : T (all (suc most_log2) (λ l. all (2 ^ l) (λ k. all (2 ^ l) (λ n. entry_test (2 ^ l) k n))))
unfolding all entry_test matrix
entries_computed = tt

pub entry_at_most : (l : ℕ) → l ≤ most_log2 → (k n : ℕ) → k < 2 ^ l → n < 2 ^ l → nat_abs (matrix (2 ^ l) k n) ≤ 90
unfolding entry_test
entry_at_most l hl k n hk hn =
    leb→le (nat_abs (matrix (2 ^ l) k n)) 90
    (all_at (2 ^ l) (λ n. entry_test (2 ^ l) k n)
    (all_at (2 ^ l) (λ k. all (2 ^ l) (λ n. entry_test (2 ^ l) k n))
    (all_at (suc most_log2) (λ l. all (2 ^ l) (λ k. all (2 ^ l) (λ n. entry_test (2 ^ l) k n))) entries_computed l
    (omega arith)) k hk)
    n hn)

column_weight : ℕ → ℕ → ℕ
column_weight N n = sum_ℕ N (λ k. nat_abs (matrix N k n))

column_test : ℕ → Bool
column_test l = all (2 ^ l) (λ n. leb (column_weight (2 ^ l) n) 1864)

columns_computed : T (all (suc most_log2) column_test)
unfolding all column_test column_weight sum matrix
columns_computed = tt

pub column_sum : (l : ℕ) → l ≤ most_log2 → (n : ℕ) → n < 2 ^ l
    → sum_ℕ (2 ^ l) (λ k. nat_abs (matrix (2 ^ l) k n)) ≤ 1864
unfolding column_test column_weight
column_sum l hl n hn =
    leb→le (column_weight (2 ^ l) n) 1864
    (all_at (2 ^ l) (λ n. leb (column_weight (2 ^ l) n) 1864)
    (all_at (suc most_log2) column_test columns_computed l (omega arith)) n hn)
