-- `price::lambda_sum` meets its contract: the code's two literals are the definition's scale and half.
use Rattle.std.proofs.Common.{refl}
use lib.Ieee.{of_bits}
use Rattle.price.specs.Lambda.{lambda_sum}
use Rattle.price.proofs.lambda_sum.Goals as goal

pub returns : goal.returns
unfolding of_bits lambda_sum
returns c = refl
