-- Where all stand, the two are one.
use Rattle.std.proofs.Common.{arith, sym, ◌∙◌}
use lib.IntN.{pos}
use Rattle.integers.proofs.Fill.{filled_all}
use Rattle.measure.proofs.copy.Goals as goal

pub returns : goal.returns
returns c =
    let l = c.loop-i in
    filled_all (pos 0) l.to c.args.from.now l.i (l.auto.to ∙ sym c.requires) (omega arith) l.invariant
