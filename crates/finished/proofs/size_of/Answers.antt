-- `finished::size_of` meets its contract: the size of what is passed, joined with the size of what is left.
use mathlib.Core.Path.{sym, ◌∙◌}
use native.Mathlib.Omega.{arith}
use Rattle.finished.proofs.Places.{end_size, size_zero, size_level}
use Rattle.finished.proofs.size_of.Goals.{then-level-ne0, else-level-ne0}
use Rattle.finished.proofs.size_of.Goals as goal

pub loop-i-preserved : goal.loop-i-preserved
loop-i-preserved c =
    let l = c.loop-i in
    let ls = c.args.levels.now in
    let h = c.loop-i-test.true in
    elim c.if-level-ne0.branch [
      | then-level-ne0 w ↦ (
        omega (arith, w.end-is),
        size_level ls l.i l.end h _ w.end-is w.if-level-ne0.true ∙ l.invariant.1,
      )
      | else-level-ne0 w ↦ (
        omega (arith, w.end-is),
        size_zero ls l.i l.end h _ w.end-is w.if-level-ne0.false ∙ l.invariant.1,
      )
    ]

pub returns : goal.returns
returns c =
    let l = c.loop-i in
    (sym (end_size c.args.levels.now l.i l.end c.loop-i-test.false) ∙ l.invariant.1, omega arith)
