-- `fours::last_rows` meets its contract: before the turn j the first j rows hold their residuals.
use mathlib.Core.Path.{ap, ◌∙◌}
use mathlib.Core.List.{List}
use native.Mathlib.Omega.{arith}
use lib.IntN.{ℤ}
use Rattle.integers.specs.Sum.{at}
use Rattle.fours.proofs.Lines.{line_last, line_asks}
use Rattle.fours.proofs.LastRows.{rows_more}
use Rattle.fours.proofs.last_rows.Goals as goal

pub last-residuals-requires : goal.last-residuals-requires
last-residuals-requires c = line_asks c.args.x.now c.loop-j.j (omega arith) c.requires.3

pub loop-j-preserved : goal.loop-j-preserved
loop-j-preserved c =
    let x = c.args.x.now in
    let l = c.loop-j in
    let copied = c.copy_from_slice.ensures.after in
    rows_more c.args.n x l.block _ l.j (omega arith) (omega arith) (omega arith)
    (λ k h. ap (λ (r : List ℤ). at r k) copied ∙ c.last-residuals.ensures k h ∙ line_last x l.j k) l.invariant
