-- `fours::last_columns` meets its contract: before the turn j the residuals of the first j lines stand in their
-- columns.
use mathlib.Core.Path.{◌∙◌}
use native.Mathlib.Omega.{arith}
use lib.IntN.{pos}
use Rattle.fours.specs.Inner.Last.{last_at}
use Rattle.fours.proofs.Lines.{line_last, line_asks, columns_of_four_more}
use Rattle.fours.proofs.last_columns.Goals as goal

pub last-residuals-requires : goal.last-residuals-requires
last-residuals-requires c = line_asks c.args.x.now c.loop-j.j (omega arith) c.requires.3

pub loop-j-preserved : goal.loop-j-preserved
loop-j-preserved c =
    let x = c.args.x.now in
    let l = c.loop-j in
    let row = c.last-residuals in
    columns_of_four_more (last_at x) c.args.n l.block c.store.new.dst row.result l.j (omega arith) (omega arith)
    (λ k h. row.ensures k h ∙ line_last x l.j k) (c.store.ensures (pos 0)) l.invariant
