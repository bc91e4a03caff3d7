-- `signs::put_signs` meets its contract: each level takes its coefficient's place.
use mathlib.Core.Path.{◌≡◌, sym, ap, ◌∙◌}
use Prim.Native.Nat.{◌+◌}
use native.Mathlib.Omega.{arith}
use lib.ListN.{get_or}
use lib.IntN.{ℤ}
use mir.Syntax.{w16}
use mir.Val.{SFits, to_z}
use borrow.Author.Rules.{rules}
use Rattle.integers.specs.Sum.{at}
use Rattle.integers.proofs.Sums.{nats}
use Rattle.integers.proofs.Over.{over_next, over_end}
use Rattle.price.specs.Level.{signed}
use Rattle.signs.proofs.Samples.{put_minus, put_plus}
use Rattle.price.proofs.Counting.{ones, one_more, none_more, ones_few, nonzeros_over}
use Rattle.signs.proofs.Signing.{signing_more, signing_all}
use Rattle.signs.proofs.put_signs.Goals.{then-block-i-lt0, else-block-i-lt0, then-a-ne0, else-a-ne0}
use Rattle.signs.proofs.put_signs.Goals as goal

pub loop-i-preserved : goal.loop-i-preserved
loop-i-preserved c =
    let levels = c.args.levels.now in
    let l = c.loop-i in
    let z = at l.block l.i in
    let a = get_or levels l.i 0 in
    let f : SFits w16 z = search rules in
    let h = c.requires.2 l.i in
    -- the level that is put, of the coefficient that is read
    let put : to_z w16 c.if-block-i-lt0.block-bits ≡ signed z a = elim c.if-block-i-lt0.branch [
      | then-block-i-lt0 w ↦ w.block-is ∙ put_minus z a f h w.if-block-i-lt0.true
      | else-block-i-lt0 w ↦ w.block-is ∙ put_plus z a f h w.if-block-i-lt0.false
    ] in
    let value = put ∙ ap (λ (y : ℤ). signed y a) (l.invariant.0.left l.i (omega arith)) in
    let n : c.if-a-ne0.count ≡ l.count + ones a = elim c.if-a-ne0.branch [
      | then-a-ne0 w ↦ omega (arith, w.count-is, one_more a w.if-a-ne0.true)
      | else-a-ne0 w ↦ omega (arith, w.count-is, none_more a w.if-a-ne0.false)
    ] in (
      signing_more _ _ l.block l.i _ (omega (arith, c.requires.0)) value l.invariant.0,
      rw n (over_next nats ones levels l.i 0 l.count c.loop-i-test.true ∙ l.invariant.1),
      omega (arith, n, ones_few a, l.invariant.2),
    )

pub returns : goal.returns
returns c =
    let levels = c.args.levels.now in
    let l = c.loop-i in (
      signing_all c.args.block.now levels l.block l.i c.requires.0 c.loop-i-test.false l.invariant.0,
      c.from.ensures
          ∙ sym (over_end nats ones levels l.i l.count c.loop-i-test.false)
          ∙ l.invariant.1
          ∙ sym (nonzeros_over levels),
    )
