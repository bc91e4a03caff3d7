-- Places of a picture of at most 256 by 256 samples, by rows and by blocks, are below 65536: products, of which the
-- search knows nothing by itself.
use Prim.Native.Nat.{ℕ, ◌+◌, ◌*◌, ◌/◌, ◌%◌, ◌≤◌, ◌<◌}
use native.Mathlib.Nat.{mul-le-mul}
use native.Mathlib.Omega.{arith}

pub by_rows_lem : (y x w : ℕ) → y ≤ 255 → x ≤ 255 → w ≤ 256 → y * w + x < 65536
by_rows_lem y x w hy hx hw = omega (arith, mul-le-mul hy hw)

-- a row and a column by blocks
pub record ByBlocks (y x a : ℕ) : Type 0 where
  pub row : y / 8 * a ≤ 992
  pub block : y / 8 * a + x / 8 ≤ 1023
  pub place : (y / 8 * a + x / 8) * 64 + y % 8 * 8 + x % 8 < 65536

pub by_blocks : (y x a : ℕ) → y ≤ 255 → x ≤ 255 → a ≤ 32 → ByBlocks y x a
by_blocks y x a hy hx ha =
    let h : y / 8 ≤ 31 = omega arith in
    let r : y / 8 * a ≤ 31 * 32 = mul-le-mul h ha in
    record { row = omega arith; block = omega arith; place = omega arith }
