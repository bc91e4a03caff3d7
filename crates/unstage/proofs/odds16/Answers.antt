-- `unstage::odds16` meets its contract: before the turn j the odd halves of the first j lines stand in their columns.
use mathlib.Core.Path.{◌≡◌, ◌∙◌, subst}
use mathlib.Core.List.{List}
use Prim.Native.Nat.{ℕ, ◌+◌, ◌*◌, ◌-◌}
use native.Mathlib.Omega.{arith}
use lib.ListN.{length}
use lib.IntN.{ℤ}
use Rattle.integers.specs.Sum.{at}
use Rattle.tables.specs.Matrix.{matrix}
use Rattle.columns.specs.Inner.Placed.{Placed}
use Rattle.unfold.specs.Inner.Back.{odd_at, most_odd}
use Rattle.unstage.proofs.Lines.{lines_more, lines_all}
use Rattle.unstage.proofs.Loop.{odd_line, small_more}
use Rattle.unstage.proofs.odds16.Goals as goal

-- what the odd coefficients of line j give, the last first
abbrev given : List ℤ → (j n : ℕ) → ℤ
given src j n = odd_at matrix 8 (λ k. at src (j * 16 + (2 * k + 1))) (7 - n)

pub loop-j-preserved : goal.loop-j-preserved
loop-j-preserved c =
    let a = c.args in
    let l = c.loop-j in
    let k = c.halves.ensures in
    let b = c.halves.result.1 in
    let lb : length b ≡ 8 = omega arith in (
      lines_more (given a.src.now) most_odd 8 a.lines l.dst c.store_up.new.dst (λ i. at b (7 - i)) l.j (omega arith)
          (λ i hi. k.odds (7 - i) (omega arith) ∙ odd_line 8 a.src.now l.j (7 - i))
          (λ i hi. k.within (7 - i) (omega arith))
          (subst (λ (m : ℕ). Placed a.lines l.j m (λ i. at b (m - 1 - i)) l.dst c.store_up.new.dst) lb
          c.store_up.ensures)
          l.invariant.0,
      small_more 8 a.src.now l.j k.small l.invariant.1,
    )

pub returns-clause-odds : goal.returns-clause-odds
returns-clause-odds c =
    let l = c.loop-j in
    lines_all (given c.args.src.now) most_odd 8 c.args.lines l.dst l.j (omega arith) (omega arith) l.invariant.0
