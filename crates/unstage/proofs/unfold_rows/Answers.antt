-- `unstage::unfold_rows` meets its contract: before the turn n the first n rows and the last n are unfolded.
use mathlib.Core.Path.{◌≡◌, sym, subst}
use Prim.Native.Nat.{ℕ, ◌+◌, ◌*◌, ◌-◌}
use native.Mathlib.Omega.{arith}
use Rattle.unstage.specs.Inner.Rows.{RowsUnfolded}
use Rattle.unstage.proofs.Unfolding.{unfolded_more}
use Rattle.unstage.proofs.unfold_rows.Goals as goal

pub loop-n-preserved : goal.loop-n-preserved
loop-n-preserved c =
    let a = c.args in
    let l = c.loop-n in
    let new = c.unfold_row.new.dst in
    -- the row from the end as the code counts it
    let mirrored : a.h + a.h - 1 - l.n ≡ 2 * a.h - 1 - l.n = omega arith in
    unfolded_more a.h a.lines l.n (omega arith) a.dst.now l.dst l.invariant new
    (subst (λ (m : ℕ). RowsUnfolded (l.n * a.lines) (m * a.lines) a.lines l.dst new) (sym mirrored)
    c.unfold_row.ensures)
