-- It calls itself with a tenth of the number, and puts the last digit behind those of the tenth.
use Prim.Native.Nat.{◌/◌}
use native.Mathlib.Omega.{arith}
use Rattle.text.proofs.Printing.{few_digits, put_one, put_more}
use Rattle.text.proofs.+put_natural.Goals as goal

pub returns-then-value-lt10 : goal.returns-then-value-lt10
returns-then-value-lt10 t c = put_one _ _ _ (omega arith) c.if-value-lt10.true

pub bounds-out-end : goal.bounds-out-end
bounds-out-end t c = omega (arith, c.put_natural-end.ensures.next, few_digits 18 (c.args.value / 10) (omega arith))

pub returns : goal.returns
returns t c =
    put_more _ _ _ _ _ c.requires c.if-value-lt10.false c.ranges.value.fits c.put_natural-end.ensures
