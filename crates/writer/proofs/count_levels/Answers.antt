-- `writer::count_levels` meets its contract: a count in 16 bits has room for the places of a block.
use Rattle.std.proofs.Common.{arith, sym, ◌∙◌}
use borrow.Author.Rules.{sfits_of}
use Rattle.integers.proofs.Sums.{nats}
use Rattle.integers.proofs.Over.{over_end}
use Rattle.runs.specs.Runs.{nonzeros}
use Rattle.writer.proofs.Counted.{ones, level_counted, zero_counted}
use Rattle.writer.proofs.count_levels.Goals as goal

pub loop-level-preserved : goal.loop-level-preserved
loop-level-preserved c = grind (arith, level_counted, zero_counted, sfits_of)

pub returns : goal.returns
unfolding nonzeros
returns c =
    c.from.ensures ∙ sym (over_end nats ones c.args.block.now c.loop-level.level-index c.loop-level.count c.loop-level-test.false)
    ∙ c.loop-level.invariant.0
