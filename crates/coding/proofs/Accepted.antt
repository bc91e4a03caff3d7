-- What an accepted call says of its inputs: none of its faults holds.
use mathlib.Core.Path.{◌≡◌}
use mathlib.Core.Bool.{true, false, not}
use Prim.Native.Nat.{suc, ◌*◌, ◌^◌, ◌≤◌}
use borrow.Author.Tests.{ltb-false}
use lib.Dec.{ltb}
use lib.ListN.{length}
use Rattle.integers.proofs.Tests.{neither, not_both}
use Rattle.refusals.specs.Sides.{most_log2}
use Rattle.refusals.specs.Faults.{outside, passed}
use Rattle.refusals.proofs.First.{head_fails, rest_fails, no_fault_if_accepted, inside}
use Rattle.price.specs.Lambda.{lambda_refused}
use Rattle.price.specs.Costs.{cost_refused}
use Rattle.coding.specs.Block.{Quant, area, lambda_here, is_skipped}
use Rattle.coding.specs.Call.{quant_faults, quant_verdict, side_fault, qp_fault, lambda_fault, cost_fault}
use Rattle.coding.specs.Call.{length_fault, level_fault, price_fault, distortion_fault, largest_here, uncoded_here}

-- the last three are of a walked block
pub record Accepted (c : Quant) : Type 0 where
  pub wide : (1 ≤ c.lw) × (c.lw ≤ most_log2)
  pub high : (1 ≤ c.lh) × (c.lh ≤ most_log2)
  pub qp : c.settings.qp ≤ 63
  pub lambda : lambda_refused c.settings.lambda ≡ false
  pub costs : cost_refused c.costs ≡ false
  pub long : area c ≤ length c.buffer
  pub level : is_skipped c ≡ false → largest_here c ≤ 32767
  pub price : is_skipped c ≡ false → lambda_here c * suc (largest_here c) ≤ 2 ^ 41
  pub distortion : is_skipped c ≡ false → uncoded_here c ≤ 2 ^ 60

walked : (c : Quant) → is_skipped c ≡ false → not (is_skipped c) ≡ true
walked c e = rw e

pub no_fault : (c : Quant) → quant_verdict c ≡ passed → Accepted c
unfolding quant_verdict quant_faults side_fault qp_fault lambda_fault cost_fault length_fault level_fault price_fault
    distortion_fault
no_fault c e =
    let f1 = no_fault_if_accepted c quant_faults e in
    let f2 = rest_fails c f1 in
    let f3 = rest_fails c f2 in
    let f4 = rest_fails c f3 in
    let f5 = rest_fails c f4 in
    let f6 = rest_fails c f5 in
    let f7 = rest_fails c f6 in
    let f8 = rest_fails c f7 in
    let f9 = rest_fails c f8 in
    let s = neither (outside 1 most_log2 c.lw) (outside 1 most_log2 c.lh) (head_fails c f1) in
    record {
      wide = inside 1 most_log2 c.lw s.0;
      high = inside 1 most_log2 c.lh s.1;
      qp = ltb-false 63 c.settings.qp (head_fails c f2);
      lambda = head_fails c f3;
      costs = head_fails c f4;
      long = ltb-false (length c.buffer) (area c) (head_fails c f5);
      level = λ w. ltb-false 32767 (largest_here c) (not_both (not (is_skipped c)) (ltb 32767 (largest_here c))
          (head_fails c f7) (walked c w));
      price =
          λ w.
          ltb-false (2 ^ 41) (lambda_here c * suc (largest_here c))
          (not_both (not (is_skipped c)) (ltb (2 ^ 41) (lambda_here c * suc (largest_here c))) (head_fails c f8)
          (walked c w));
      distortion =
          λ w.
          ltb-false (2 ^ 60) (uncoded_here c)
          (not_both (not (is_skipped c)) (ltb (2 ^ 60) (uncoded_here c)) (head_fails c f9) (walked c w));
    }
