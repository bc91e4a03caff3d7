-- The prices of a block as they are read off the cost tables, once a block, with lambda multiplied in.
use Rattle.std.specs.Prelude.{◌≡◌, List, ℕ, ◌+◌, ◌*◌, ◌^◌, ◌≤◌}
use Rattle.price.specs.declared.Costs.{Costs}
use Rattle.price.specs.Costs.{Rows, entry}
use Rattle.weights.specs.declared.prices.Prices.{Prices}
use Rattle.contexts.specs.declared.Pair.{Pair}

pub record PairOf (lambda : ℕ) (table : List ℕ) (row : ℕ) (r : Pair) : Type 0 where
  pub first : r.first ≡ lambda * entry table row 0
  pub second : r.second ≡ lambda * entry table row 1
  pub first_small : r.first ≤ 2 ^ 48
  pub second_small : r.second ≤ 2 ^ 48

-- of an empty block's flag alone
pub record EmptyPrice (lambda : ℕ) (t : Costs) (rows : Rows) (r : ℕ) : Type 0 where
  pub is : r ≡ lambda * entry t.cbf rows.cbf 0
  pub small : r ≤ 2 ^ 48

-- of a 0 and of the run of a level, after a nonzero level and after a 0; of a level itself: 1, 2, and each one more; of
-- the flags
pub record PricesOf (sign lambda : ℕ) (t : Costs) (rows : Rows) (p : Prices) : Type 0 where
  pub zero : p.zero ≡ lambda * entry t.run rows.run 1
  pub zeros : p.zeros ≡ lambda * entry t.run (rows.run + 1) 1
  pub head : p.head ≡ lambda * sign + lambda * entry t.run rows.run 0
  pub heads : p.heads ≡ lambda * sign + lambda * entry t.run (rows.run + 1) 0
  pub one : p.one ≡ lambda * entry t.level rows.level 0
  pub two : p.two ≡ lambda * entry t.level rows.level 1 + lambda * entry t.level (rows.level + 1) 0
  pub each : p.each ≡ lambda * entry t.level (rows.level + 1) 1
  pub more : p.more ≡ lambda * entry t.last rows.last 0
  pub last : p.last ≡ lambda * entry t.last rows.last 1
  pub empty : p.empty ≡ lambda * entry t.cbf rows.cbf 0
  pub coded : p.coded ≡ lambda * entry t.cbf rows.cbf 1
