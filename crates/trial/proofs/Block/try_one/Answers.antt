-- `trial::Block::try_one` meets its contract: the price, the levels, and what the viewer makes of them, one test after
-- the other.
use Rattle.std.proofs.Common.{arith}
use Rattle.trial.proofs.Fitting.{too_dear, too_dark, too_light, all_fits}
use Rattle.trial.proofs.Block.try_one.Goals as goal
use Rattle.trial.proofs.Block.try_one.Goals.{then-most-off-via-then-most-off, then-most-off-via-else-most-off+then-most-off-2}

pub returns-then-price-ge-DEAR : goal.returns-then-price-ge-DEAR
returns-then-price-ge-DEAR c =
    let b = c.args.self in
    too_dear b.terms _ _ _ _ _ c.price_of-price.ensures _ (omega arith)

pub returns-then-most-off : goal.returns-then-most-off
returns-then-most-off c =
    let b = c.args.self in
    let at = c.write_levels-count.ensures.0 in
    elim c.then-most-off.branch [
      | then-most-off-via-then-most-off w ↦
          too_dark b.terms _ _ _ _ _ c.price_of-price.ensures (omega arith) _ at _ c.look-off.ensures w.if-most-off.true
      | then-most-off-via-else-most-off+then-most-off-2 w ↦
          too_light b.terms _ _ _ _ _ c.price_of-price.ensures (omega arith) _ at _ c.look-off.ensures
          w.if-most-off-2.true
    ]

pub returns : goal.returns
returns c =
    all_fits c.args.self.terms _ _ _ _ _ c.price_of-price.ensures (omega arith) _ c.write_levels-count.ensures.0 _
    c.look-off.ensures c.if-most-off.false c.if-most-off-2.false _ c.write_levels-count.ensures.1
