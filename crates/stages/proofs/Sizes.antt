-- How many numbers a block has, as its two stages count them, and that no block has more than 1,024.
use mathlib.Core.Path.{◌≡◌, sym, ◌∙◌, ap}
use Prim.Native.Nat.{ℕ, ◌+◌, ◌*◌, ◌^◌, ◌≤◌}
use native.Mathlib.Nat.{mul_comm}
use native.Mathlib.Omega.{arith}
use lib.Pow.{pow-add, pow_mono}
use Rattle.refusals.specs.Sides.{most_log2}

-- the lengths that a stage asks for
pub lines_by_side : (n lines lw lh : ℕ) → n ≡ 2 ^ lw * 2 ^ lh → lines ≡ 2 ^ lh → n ≡ lines * 2 ^ lw
lines_by_side n lines lw lh e l = e ∙ mul_comm (2 ^ lw) (2 ^ lh) ∙ ap (λ (m : ℕ). m * 2 ^ lw) (sym l)

pub side_by_lines : (n lines lw lh : ℕ) → n ≡ 2 ^ lw * 2 ^ lh → lines ≡ 2 ^ lh → n ≡ 2 ^ lw * lines
side_by_lines n lines lw lh e l = e ∙ ap (λ (m : ℕ). 2 ^ lw * m) (sym l)

pub at_most_1024 : (n lw lh : ℕ) → n ≡ 2 ^ lw * 2 ^ lh → lw ≤ most_log2 → lh ≤ most_log2 → n ≤ 1024
at_most_1024 n lw lh e hw hh = omega (arith, pow-add 2 lw lh, pow_mono {i = lw + lh} {j = 10} (omega arith))
