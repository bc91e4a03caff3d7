-- `transform::has_wild` meets its contract: it has been looked for among the first samples.
use mathlib.Core.Path.{◌≡◌, sym, ◌∙◌}
use native.Mathlib.Omega.{arith}
use borrow.Author.Rules.{rules}
use lib.IntN.{pos}
use mir.Syntax.{w16}
use mir.Val.{to_z, of_z}
use Rattle.std.proofs.Math.Bool.{or_assoc}
use Rattle.integers.specs.Sum.{at}
use Rattle.integers.proofs.Some.{some_none, search_more}
use Rattle.transform.specs.Call.{wild}
use Rattle.transform.proofs.has_wild.Goals as goal

pub loop-v-init : goal.loop-v-init
loop-v-init c = sym (some_none (pos 0) wild c.args.block.now)

pub loop-v-preserved : goal.loop-v-preserved
loop-v-preserved c =
    let l = c.loop-v in
    let v = at c.args.block.now l.v-index in
    let read : to_z w16 (of_z w16 v) ≡ v = search rules in
    sym (or_assoc l.found _ _) ∙ search_more 1022 c.args.block.now l.v-index (omega arith) l.found l.invariant _ read
