-- Prices with lambda multiplied in are the rule's: a rate by the prices is lambda times the rate of the tables, and so
-- the rule that a scale and prices make is the call's. Prices are modest, by which running totals fit.
use mathlib.Core.Path.{◌≡◌, refl, sym, ap, ◌∙◌}
use mathlib.Core.Bool.{Bool, true, false, cond}
use mathlib.Core.List.{List}
use Prim.Native.Nat.{ℕ, zero, suc, ◌+◌, ◌*◌, ◌^◌, ◌≤◌}
use native.Mathlib.Nat.{mul-add, mul_left_comm, mul-le-mul}
use native.Mathlib.Omega.{arith}
use lib.ListN.{get_or}
use Rattle.price.specs.declared.Costs.{Costs}
use Rattle.price.specs.Costs.{Rows, entry, run_row, rate}
use Rattle.weights.specs.declared.prices.Prices.{Prices}
use Rattle.weights.specs.Inner.Prices.{zero_price, head_price, level_price, rate_by}
use Rattle.contexts.specs.declared.Pair.{Pair}
use Rattle.contexts.specs.Inner.Reading.{PairOf, PricesOf}

pub weighed : (lambda x : ℕ) → lambda ≤ 2 ^ 28 → x ≤ 1048576 → lambda * x ≤ 2 ^ 48
weighed lambda x h k = omega (arith, mul-le-mul h k)

-- ---- the rates
module _ (sign lambda : ℕ) (t : Costs) (rows : Rows) where
  after : (z : Bool) (i : ℕ) → entry t.run (run_row rows z) i
      ≡ cond z (entry t.run (rows.run + 1) i) (entry t.run rows.run i)
  unfolding run_row
  after true i = refl
  after false i = ap (λ (k : ℕ). entry t.run k i) (omega arith)

  level_weighed : (n x y v : ℕ) → lambda * x + lambda * y + n * (lambda * v) ≡ lambda * (x + n * v + y)
  level_weighed n x y v =
      omega (arith, mul-add lambda (x + n * v) y, mul-add lambda x (n * v), mul_left_comm n lambda v)

  module _ (p : Prices) (are : PricesOf sign lambda t rows p) where
    zero_price_lem : (z : Bool) → zero_price p z ≡ lambda * entry t.run (run_row rows z) 1
    zero_price_lem true = are.zeros ∙ ap (λ (x : ℕ). lambda * x) (sym (after true 1))
    zero_price_lem false = are.zero ∙ ap (λ (x : ℕ). lambda * x) (sym (after false 1))

    head_price_lem : (z : Bool) → head_price p z ≡ lambda * (sign + entry t.run (run_row rows z) 0)
    head_price_lem true = are.heads ∙ rw (after true 0) (sym (mul-add lambda sign (entry t.run (rows.run + 1) 0)))
    head_price_lem false = are.head ∙ rw (after false 0) (sym (mul-add lambda sign (entry t.run rows.run 0)))

    pub rate_weighed : (z : Bool) (a : ℕ) → rate_by p z a ≡ lambda * rate sign t rows z a
    unfolding rate_by rate level_price
    rate_weighed z zero = zero_price_lem z
    rate_weighed z (suc zero) =
        let first = entry t.level rows.level 0 in
        omega (arith, head_price_lem z, are.one, mul-add lambda (sign + entry t.run (run_row rows z) 0) first)
    rate_weighed z (suc (suc n)) =
        let j = rows.level in
        let x = entry t.level j 1 in
        let y = entry t.level (j + 1) 0 in
        let v = entry t.level (j + 1) 1 in
        omega (
          arith,
          are.two,
          ap (λ (k : ℕ). n * k) are.each,
          head_price_lem z,
          level_weighed n x y v,
          mul-add lambda (sign + entry t.run (run_row rows z) 0) (x + n * v + y),
        )

-- ---- what code works out
pub pair_of : (lambda : ℕ) (table : List ℕ) (row : ℕ) (r : Pair) → lambda ≤ 2 ^ 28
    → ((k : ℕ) → get_or table k 0 ≤ 1048576)
    → r.first ≡ lambda * get_or table (2 * row) 0 → r.second ≡ lambda * get_or table (2 * row + 1) 0
    → PairOf lambda table row r
unfolding entry
pair_of lambda table row r hl h e f =
    record {
      first = e ∙ ap (λ (k : ℕ). lambda * get_or table k 0) (omega arith);
      second = f;
      first_small = omega (arith, weighed lambda (get_or table (2 * row) 0) hl (h (2 * row)));
      second_small = omega (arith, weighed lambda (get_or table (2 * row + 1) 0) hl (h (2 * row + 1)));
    }
