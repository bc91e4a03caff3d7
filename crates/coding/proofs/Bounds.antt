-- How large the numbers of an accepted call become: the running totals of its walk and its price stay below 2^62, with
-- room for a block of side 64, and its count is at most the block's places. Code holds them in 64 bits.
use mathlib.Core.Path.{◌≡◌, refl}
use mathlib.Core.Bool.{Bool, true, false}
use Prim.Native.Nat.{ℕ, ◌+◌, ◌*◌, ◌^◌, ◌≤◌, ◌<◌}
use native.Mathlib.Nat.{mul-le-mul}
use native.Mathlib.Omega.{arith}
use lib.ListN.{take}
use Rattle.refusals.specs.Faults.{passed}
use Rattle.price.specs.Costs.{InRange, entry, run_row, rate}
use Rattle.price.specs.Price.{uncoded, price}
use Rattle.price.specs.Inner.OnePass.{start, walk}
use Rattle.price.proofs.Lambda.{lambda_below}
use Rattle.price.proofs.Rates.{costs_in_range}
use Rattle.price.proofs.Bounds.{walk_within}
use Rattle.price.proofs.Promises.{nonzeros_at_most}
use Rattle.coding.specs.Block.{Quant, area, scale_here, lambda_here, rows_here, rule_of, places, is_skipped}
use Rattle.coding.specs.Block.{magnitudes, count_of, price_of}
use Rattle.coding.specs.Call.{quant_verdict, uncoded_here}
use Rattle.coding.proofs.Modes.{price_at_most_empty}
use Rattle.coding.proofs.Accepted.{Accepted, no_fault}
use Rattle.coding.proofs.Promises.{magnitudes_count, written_magnitudes, skipped_price}
use Rattle.coding.proofs.Skipped.{skipped_d_below}

module _ (c : Quant) (ok : quant_verdict c ≡ passed) where
  facts : Accepted c
  facts = no_fault c ok

  weight : lambda_here c ≤ 2 ^ 28
  unfolding lambda_here
  weight = lambda_below c.settings.lambda facts.lambda

  range : InRange c.costs
  range = costs_in_range facts.costs

  -- lambda × a cost
  weighed : {x : ℕ} → x ≤ 1048576 → lambda_here c * x ≤ 2 ^ 48
  weighed h = omega (arith, mul-le-mul weight h)

  pub empty_bound : (rule_of c).empty ≤ 2 ^ 48
  unfolding rule_of entry
  empty_bound = weighed (range.cbf (2 * (rows_here c).cbf + 0))

  pub coded_bound : (rule_of c).coded ≤ 2 ^ 48
  unfolding rule_of entry
  coded_bound = weighed (range.cbf (2 * (rows_here c).cbf + 1))

  pub more_bound : (rule_of c).more ≤ 2 ^ 48
  unfolding rule_of entry
  more_bound = weighed (range.last (2 * (rows_here c).last + 0))

  pub last_bound : (rule_of c).last ≤ 2 ^ 48
  unfolding rule_of entry
  last_bound = weighed (range.last (2 * (rows_here c).last + 1))

  pub zero_bound : (z : Bool) → (rule_of c).rate z 0 ≤ 2 ^ 48
  unfolding rule_of entry rate
  zero_bound z = weighed (range.run (2 * run_row (rows_here c) z + 1))

  -- ---- a walked block
  module _ (walks : is_skipped c ≡ false) where
    D-bound : uncoded (rule_of c) (places c) ≤ 2 ^ 60
    unfolding uncoded_here
    D-bound = facts.distortion walks

    -- the walk's running total after any number of steps up to 4,096; a call that is accepted has 1,024 at most
    pub totals_below : (i : ℕ) → i ≤ 4096
        → (walk (rule_of c) 0 (start (rule_of c) (places c)) (take i (places c))).base < 2 ^ 62
    unfolding start
    totals_below i h =
        let w = walk_within (rule_of c) (2 ^ 48) zero_bound 0 (start (rule_of c) (places c)) (places c) i (omega arith) in
        let b = mul-le-mul h (let s : 2 ^ 48 + (rule_of c).more ≤ 2 ^ 49 = omega (arith, more_bound) in s) in
        omega (arith, w.1, b, D-bound, coded_bound)

  -- the price reported, where q is no smaller than the least scale of document 01
  pub price_below : 14564 ≤ scale_here c → price_of c < 2 ^ 62
  unfolding price_of uncoded_here
  price_below some = by (is_skipped c) refl
    where
      by : (t : Bool) → is_skipped c ≡ t → price (rule_of c) (magnitudes c) (places c) < 2 ^ 62
      by true e = omega (arith, skipped_price c ok e, skipped_d_below c ok some e, empty_bound)
      by false e =
          rw (written_magnitudes c ok e)
          (omega (arith, price_at_most_empty c.mode (rule_of c) (places c), D-bound e, empty_bound))

  pub count_below : count_of c ≤ area c
  unfolding count_of
  count_below = omega (arith, nonzeros_at_most (magnitudes c), magnitudes_count c ok)
