-- `unstage::evens16` meets its contract: before the turn j the even halves of the first j lines stand in their columns.
use mathlib.Core.Path.{◌≡◌, ◌∙◌, subst}
use mathlib.Core.List.{List}
use Prim.Native.Nat.{ℕ, ◌+◌, ◌*◌}
use native.Mathlib.Omega.{arith}
use lib.ListN.{length}
use lib.IntN.{pos, ℤ}
use Rattle.integers.specs.Sum.{at}
use Rattle.tables.specs.Matrix.{matrix}
use Rattle.columns.specs.Inner.Placed.{Placed}
use Rattle.unfold.specs.Inner.Back.{value_at, most_value}
use Rattle.unstage.proofs.Lines.{lines_more, lines_all}
use Rattle.unstage.proofs.Loop.{even_line}
use Rattle.unstage.proofs.evens16.Goals as goal

-- what the even coefficients of line j give
abbrev given : List ℤ → (j n : ℕ) → ℤ
given src j n = value_at matrix 8 (λ k. at src (j * 16 + 2 * k)) n

pub loop-j-preserved : goal.loop-j-preserved
loop-j-preserved c =
    let a = c.args in
    let l = c.loop-j in
    let row = c.back8.new.row in
    let lr : length row ≡ 8 = omega arith in
    lines_more (given a.src.now) most_value 8 a.lines l.dst c.store.new.dst (at row) l.j (omega arith)
    (λ k hk.
    c.back8.ensures.holds k hk
    ∙ even_line 8 a.src.now l.j c.part.new.e c.part.new.o (omega arith) c.part.ensures k)
    c.back8.ensures.within
    (subst (λ (m : ℕ). Placed a.lines l.j m (at row) l.dst c.store.new.dst) lr (c.store.ensures (pos 0))) l.invariant

pub returns : goal.returns
returns c =
    let l = c.loop-j in
    lines_all (given c.args.src.now) most_value 8 c.args.lines l.dst l.j (omega arith) (omega arith) l.invariant
