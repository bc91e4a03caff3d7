-- What both modes promise of the block that they write: a magnitude for each place, each 0, m or m - 1, and a price no
-- higher than the empty block's.
use mathlib.Core.Path.{◌≡◌}
use mathlib.Core.List.{List}
use Prim.Native.Nat.{ℕ, ◌+◌, ◌≤◌, ◌<◌}
use native.Mathlib.Omega.{arith}
use lib.ListN.{length, get_or}
use Rattle.price.specs.Rule.{Rule, Allowed}
use Rattle.price.specs.Price.{uncoded, price}
use Rattle.price.proofs.Bounds.{written_price_at_most_empty}
use Rattle.price.proofs.Promises.{written_length, written_zero_or_m_or_m-1}
use Rattle.price.proofs.Cheapest.{cheapest_length, cheapest_zero_or_m_or_m-1, never_dearer_than_the_walk}
use Rattle.coding.specs.declared.Mode.{Mode}
use Rattle.coding.specs.declared.Mode.TheVariants.{Walk, Least}
use Rattle.coding.specs.Block.{written_in}

pub length_written : (mode : Mode) (r : Rule) (ps : List ℕ) → length (written_in mode r ps) ≡ length ps
length_written Walk r ps = written_length r ps
length_written Least r ps = cheapest_length r ps

pub zero_or_m_or_m-1 : (mode : Mode) (r : Rule) (ps : List ℕ) (k : ℕ) → k < length ps
    → Allowed (r.top (get_or ps k 0)) (get_or (written_in mode r ps) k 0)
zero_or_m_or_m-1 Walk r ps = written_zero_or_m_or_m-1 r ps
zero_or_m_or_m-1 Least r ps = cheapest_zero_or_m_or_m-1 r ps

pub price_at_most_empty : (mode : Mode) (r : Rule) (ps : List ℕ)
    → price r (written_in mode r ps) ps ≤ uncoded r ps + r.empty
price_at_most_empty Walk r ps = written_price_at_most_empty r ps
price_at_most_empty Least r ps = omega (arith, never_dearer_than_the_walk r ps, written_price_at_most_empty r ps)
