-- `numerals::number::double_of` meets its contract: every pattern above an infinity's is the one NaN.
use native.Mathlib.Omega.{arith}
use Rattle.numerals.proofs.Doubles.{a_nan, no_nan}
use Rattle.numerals.proofs.number.double_of.Goals as goal

pub returns-then-bits-gt-INFINITY : goal.returns-then-bits-gt-INFINITY
returns-then-bits-gt-INFINITY c = a_nan _ (omega arith)

pub float_from_bits-result : goal.float_from_bits-result
float_from_bits-result c = no_nan _ (omega arith)
