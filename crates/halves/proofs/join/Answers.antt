-- `halves::join` meets its contract: the first i sums are stored.
use native.Mathlib.Omega.{arith}
use borrow.Author.Rules.{rules}
use lib.IntN.{pos, ◌+ℤ◌}
use mir.Syntax.{w32}
use mir.Val.{SFits}
use Rattle.integers.specs.Sum.{at}
use Rattle.integers.proofs.Fill.{filled_more}
use Rattle.halves.specs.Inner.Halves.{half}
use Rattle.halves.proofs.Halves.{join_is}
use Rattle.halves.proofs.join.Goals as goal

pub loop-i-preserved : goal.loop-i-preserved
loop-i-preserved c =
    let l = c.loop-i in
    let i = l.i in
    let p = at c.args.p.now i in
    let q = at c.args.q.now i in
    let fp : SFits w32 p = search rules in
    let fq : SFits w32 q = search rules in
    filled_more (pos 0) l.row (λ j. at c.args.p.now j +ℤ half (at c.args.q.now j)) i _ (omega arith)
    (join_is p q fp fq (c.requires.by_index i (omega arith))) l.invariant
