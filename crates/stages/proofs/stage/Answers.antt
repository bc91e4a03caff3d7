-- `stages::stage` meets its contract: the even and the odd rows of lines of 16 are all rows.
use mathlib.Core.Path.{◌≡◌, sym, ◌∙◌, subst}
use Prim.Native.Nat.{ℕ}
use native.Mathlib.Omega.{arith}
use Rattle.tables.specs.Matrix.{matrix}
use Rattle.stages.specs.Inner.Stages.{stage_at, Staged}
use Rattle.stages.proofs.Columns.{all_rows}
use Rattle.stages.proofs.stage.Goals as goal

pub returns-in-4-2 : goal.returns-in-4-2
returns-in-4-2 c =
    let a = c.args in
    let e = c.evens16 in
    let sixteen : a.side.log2 ≡ 4 = omega arith in
    subst (λ (m : ℕ). Staged matrix (λ z. z) m a.lines a.src.now e.new.dst a.lines) (sym sixteen)
    (all_rows (stage_at matrix 16 a.src.now) 8 a.lines e.new.dst a.lines e.ensures.columns
    (λ j k h g. e.ensures.columns_2 j k h g ∙ c.odds16.ensures j k h g))
