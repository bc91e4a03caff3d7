-- `price::lambda_whole` meets its contract: std's function drops the fraction of the sum, which lies in the range that
-- it asks.
use Rattle.std.proofs.Common.{◌≡◌, ℕ, ◌≤◌, sym, ap, ◌∙◌, subst}
use lib.Ieee.{to_unsigned}
use Rattle.price.specs.Lambda.{lambda_sum, lambda_of, Greatest}
use Rattle.price.proofs.Lambda.{sum_in_range, lambda_below, lambda_greatest}
use Rattle.price.proofs.lambda_whole.Goals as goal

pub truncating_f64_to_u64-requires-clause-lower_bound : goal.truncating_f64_to_u64-requires-clause-lower_bound
truncating_f64_to_u64-requires-clause-lower_bound c = rw c.lambda_sum.ensures (sum_in_range c.args.d c.requires).0

pub truncating_f64_to_u64-requires-clause-upper_bound : goal.truncating_f64_to_u64-requires-clause-upper_bound
truncating_f64_to_u64-requires-clause-upper_bound c = rw c.lambda_sum.ensures (sum_in_range c.args.d c.requires).1

pub invariant_of-result : goal.invariant_of-result
unfolding lambda_of
invariant_of-result c =
    let is : c.truncating_f64_to_u64.result ≡ lambda_of c.args.d = c.truncating_f64_to_u64.ensures
    ∙ ap (to_unsigned 64) c.lambda_sum.ensures in
    record { within = subst (λ (r : ℕ). r ≤ 268435456) (sym is) (lambda_below c.args.d c.requires) }

pub returns : goal.returns
unfolding lambda_of
returns c =
    let d = c.args.d in
    let is : c.truncating_f64_to_u64.result ≡ lambda_of d = c.truncating_f64_to_u64.ensures
    ∙ ap (to_unsigned 64) c.lambda_sum.ensures in
    record {
      is = is;
      greatest = subst (λ (r : ℕ). Greatest (lambda_sum d) r) (sym is)
          (lambda_greatest d c.requires);
    }
