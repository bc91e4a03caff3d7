-- A `-` if the sample is negative, and its magnitude.
use Rattle.std.proofs.Common.{◌∙◌, arith}
use lib.ListN.{length-set}
use Rattle.text.proofs.Printing.{put_minus, put_plain}
use Rattle.text.proofs.put_sample.Goals as goal

pub put_natural-requires : goal.put_natural-requires
put_natural-requires c = rw length-set (omega arith)

pub returns-then-value-lt0 : goal.returns-then-value-lt0
returns-then-value-lt0 c =
    put_minus _ c.args.at _ _ _ (omega arith) c.args.value c.ranges.value
    (c.from-size.ensures ∙ c.unsigned_abs.ensures.value) c.if-value-lt0.true (omega arith) c.put_natural.ensures

pub returns : goal.returns
returns c =
    put_plain _ _ _ _ _ (omega arith) c.args.value c.ranges.value
    (c.from-size.ensures ∙ c.unsigned_abs.ensures.value) c.if-value-lt0.false c.put_natural-2.ensures
