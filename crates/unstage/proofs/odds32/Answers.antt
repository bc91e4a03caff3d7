-- `unstage::odds32` meets its contract: before the turn j the first j lines stand in their columns.
use mathlib.Core.List.{List}
use Prim.Native.Nat.{ℕ, ◌+◌, ◌*◌, ◌-◌}
use native.Mathlib.Omega.{arith}
use lib.IntN.{ℤ}
use Rattle.integers.specs.Sum.{at}
use Rattle.tables.specs.Matrix.{matrix}
use Rattle.unfold.specs.Inner.Back.{odd_at, most_odd}
use Rattle.stages.proofs.Columns.{line, line_at_lem, line_within}
use Rattle.unstage.proofs.Lines.{lines_more, lines_all}
use Rattle.unfold.proofs.Line.{odd_bound}
use Rattle.unstage.proofs.Odd.{odd_same}
use Rattle.unstage.proofs.odds32.Goals as goal

-- what the odd coefficients of line j give, the last first
abbrev given : List ℤ → (j n : ℕ) → ℤ
given os j n = odd_at matrix 16 (λ k. at os (j * 16 + k)) (16 - 1 - n)

pub loop-j-preserved : goal.loop-j-preserved
loop-j-preserved c =
    let a = c.args in
    let os = a.os.now in
    let l = c.loop-j in
    let here = line 16 os l.j in
    lines_more (given os) most_odd 16 a.lines l.dst c.dots.new.dst
    (λ k. odd_at matrix 16 (at here) (15 - k)) l.j (omega arith)
    (λ k h. odd_same matrix 16 (at here) (λ k. at os (l.j * 16 + k)) (line_at_lem 16 os l.j) (15 - k))
    (λ k h. odd_bound 4 (omega arith) (at here) (line_within 16 os l.j (omega arith) 32768 c.requires.3) (15 - k)
    (omega arith))
    c.dots.ensures l.invariant

pub returns : goal.returns
returns c =
    let l = c.loop-j in
    lines_all (given c.args.os.now) most_odd 16 c.args.lines l.dst l.j (omega arith) (omega arith) l.invariant
