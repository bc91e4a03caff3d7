-- `price::all_bits` meets its contract: bits put together are at least either number, as what both have is at most
-- either.
use Rattle.std.proofs.Common.{ℕ, ◌≤◌, get_or, below_more, arith}
use lib.Bits.{bit_or, or_add_and, and_le_l, and_le_r}
use Rattle.price.proofs.all_bits.Goals as goal

above_left : (a b : ℕ) → a ≤ bit_or a b
above_left a b = omega (arith, or_add_and a b, and_le_r a b)

above_right : (a b : ℕ) → b ≤ bit_or a b
above_right a b = omega (arith, or_add_and a b, and_le_l a b)

pub loop-cost-preserved : goal.loop-cost-preserved
loop-cost-preserved c =
    let l = c.loop-cost in
    let x = get_or c.args.table.now l.cost-index 0 in
    below_more _ _ (λ k lt. omega (arith, l.invariant k lt, above_left l.bits x)) (above_right l.bits x)
