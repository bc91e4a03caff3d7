-- `halves::large` meets its contract: it has been looked for among the first i values.
use mathlib.Core.Path.{◌≡◌, sym, ◌∙◌}
use native.Mathlib.Omega.{arith}
use borrow.Author.Rules.{rules}
use lib.IntN.{pos}
use Rattle.std.proofs.Math.Bool.{or_assoc}
use mir.Syntax.{w32}
use mir.Val.{to_z, of_z}
use Rattle.integers.specs.Sum.{at}
use Rattle.integers.proofs.Some.{some_none, search_more}
use Rattle.halves.specs.Inner.Halves.{beyond}
use Rattle.halves.proofs.large.Goals as goal

pub loop-v-init : goal.loop-v-init
loop-v-init c = sym (some_none (pos 0) (beyond 1047552) c.args.line.now)

pub loop-v-preserved : goal.loop-v-preserved
loop-v-preserved c =
    let l = c.loop-v in
    let v = at c.args.line.now l.v-index in
    let read : to_z w32 (of_z w32 v) ≡ v = search rules in
    sym (or_assoc l.found _ _) ∙ search_more 1047551 c.args.line.now l.v-index (omega arith) l.found l.invariant _ read
