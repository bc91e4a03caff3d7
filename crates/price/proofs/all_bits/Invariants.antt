-- `price::all_bits` meets its contract. The loop's invariant: no entry that was passed is above the bits so far.
use Rattle.std.proofs.Common.{ℕ, ◌<◌, ◌≤◌, get_or}
use Rattle.price.proofs.all_bits.Given as goal

abbrev pub invariant-loop-cost : goal.invariant-loop-cost
invariant-loop-cost l = (k : ℕ) → k < l.cost-index → get_or l.table k 0 ≤ l.bits
