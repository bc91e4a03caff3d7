-- How large a coefficient can be, of a line whose values are at most b.
use mathlib.Core.List.{List}
use Prim.Native.Nat.{ℕ, ◌*◌, ◌^◌, ◌<◌, ◌≤◌}
use native.Mathlib.Nat.{mul-le-mul_right}
use native.Mathlib.Omega.{arith}
use lib.IntN.{ℤ, nat_abs, ◌*ℤ◌}
use Rattle.integers.specs.Sum.{sum_ℤ, at}
use Rattle.integers.proofs.Dot.{magnitude_dot}
use Rattle.refusals.specs.Sides.{most_log2}
use Rattle.tables.specs.Matrix.{matrix}
use Rattle.tables.proofs.RowSums.{row_sum}
use Rattle.butterfly.specs.Inner.Lines.{line_at}

pub row_bound : (l : ℕ) → l ≤ most_log2 → (x : ℕ → ℤ) (b : ℕ) → ((n : ℕ) → n < 2 ^ l → nat_abs (x n) ≤ b) → (k : ℕ)
    → k < 2 ^ l → nat_abs (sum_ℤ (2 ^ l) (λ n. matrix (2 ^ l) k n *ℤ x n)) ≤ 64 * 2 ^ l * b
row_bound l hl x b h k hk =
    omega (arith, magnitude_dot (2 ^ l) b (matrix (2 ^ l) k) x h, mul-le-mul_right b (row_sum l hl k hk))

pub line_bound : (l : ℕ) → l ≤ most_log2 → (x : List ℤ) (b : ℕ) → ((n : ℕ) → n < 2 ^ l → nat_abs (at x n) ≤ b)
    → (k : ℕ) → k < 2 ^ l → nat_abs (line_at matrix (2 ^ l) x k) ≤ 64 * 2 ^ l * b
unfolding line_at
line_bound l hl x b h k hk = row_bound l hl (at x) b h k hk
