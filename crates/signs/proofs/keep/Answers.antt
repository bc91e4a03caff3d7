-- `signs::keep` meets its contract: the list is filled from the front, and counted as it is filled.
use mathlib.Core.Path.{◌≡◌, refl, sym, ap, ◌∙◌}
use Prim.Native.Nat.{ℕ, ◌+◌}
use native.Mathlib.Omega.{arith}
use lib.ListN.{length-set, get_or}
use lib.IntN.{pos}
use mir.Syntax.{w16}
use mir.Val.{SFits}
use borrow.Author.Rules.{rules}
use Rattle.integers.specs.Sum.{at}
use Rattle.integers.proofs.Fill.{filled_more}
use Rattle.price.specs.Price.{nonzeros}
use Rattle.signs.specs.Inner.Signs.{kept_of}
use Rattle.price.proofs.Counting.{ones, one_more, none_more, ones_few, nonzeros_filled}
use Rattle.coefficients.proofs.Magnitudes.{magnitude_is}
use Rattle.signs.proofs.Keeping.{kept_yes, kept_no}
use Rattle.signs.proofs.keep.Goals.{then-scale-a, else-scale-a, then-v-ne0, else-v-ne0}
use Rattle.signs.proofs.keep.Goals as goal

pub loop-i-init : goal.loop-i-init
unfolding nonzeros
loop-i-init c = (c.requires.0, λ j h. absurd (omega arith), refl, omega arith)

pub loop-i-preserved : goal.loop-i-preserved
loop-i-preserved c =
    let g = c.args.scale in
    let block = c.args.block.now in
    let l = c.loop-i in
    let z = get_or block l.i (pos 0) in
    let f : SFits w16 z = search rules in
    let m = magnitude_is z _ f c.unsigned_abs-a.ensures.value in
    let v = c.if-scale-a.v in
    let is : v ≡ kept_of g z = elim c.if-scale-a.branch [
      | then-scale-a w ↦ kept_yes g z _ _ m w.if-scale-a.true w.v-is
      | else-scale-a w ↦ kept_no g z _ _ m w.if-scale-a.false w.v-is
    ] in
    let n : c.if-v-ne0.count ≡ l.count + ones v = elim c.if-v-ne0.branch [
      | then-v-ne0 w ↦ omega (arith, w.count-is, one_more v w.if-v-ne0.true)
      | else-v-ne0 w ↦ omega (arith, w.count-is, none_more v w.if-v-ne0.false)
    ] in (
      simp length-set l.invariant.0,
      filled_more 0 l.kept (λ j. kept_of g (at block j)) l.i v (omega (arith, l.invariant.0)) is l.invariant.1,
      n ∙ ap (λ (k : ℕ). k + ones v) l.invariant.2
          ∙ sym (nonzeros_filled l.kept l.i v (omega (arith, l.invariant.0))),
      omega (arith, n, ones_few v, l.invariant.3),
    )
