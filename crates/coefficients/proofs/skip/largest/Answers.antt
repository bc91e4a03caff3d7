-- `coefficients::skip::largest` meets its contract: the largest of what is passed, and of what is left, is the block's.
use mathlib.Core.Path.{◌≡◌, sym, ap, ◌∙◌}
use Prim.Native.Nat.{ℕ}
use native.Mathlib.Omega.{arith}
use lib.ListN.{length, get_or}
use lib.Dec.{eqb}
use lib.IntN.{pos, nat_abs}
use Rattle.std.proofs.Common.{below_more}
use mir.Syntax.{w16}
use mir.Val.{SFits}
use borrow.Author.Rules.{rules}
use Rattle.integers.specs.Sum.{over, on_max}
use Rattle.integers.proofs.Over.{maxima, over_next, over_end}
use Rattle.coefficients.proofs.Magnitudes.{magnitude_is}
use Rattle.coefficients.proofs.Lowest.{Fitting, at_most_lowest, lowest_is}
use Rattle.coefficients.proofs.skip.largest.Goals as goal

pub loop-c-preserved : goal.loop-c-preserved
loop-c-preserved c =
    let l = c.loop-c in
    let B = c.args.part.now in
    let z = get_or B l.c-index (pos 0) in
    let f : SFits w16 z = search rules in
    let a = magnitude_is z _ f c.unsigned_abs.ensures.value in
    let more = over_next maxima nat_abs B l.c-index (pos 0) l.top c.loop-c-test.true ∙ l.invariant.0 in
    (rw (c.max-top.ensures, a) more, below_more _ _ l.invariant.1 f)

pub returns : goal.returns
returns c =
    let l = c.loop-c in
    let B = c.args.part.now in
    let is : c.from.result ≡ over on_max nat_abs B =
    c.from.ensures ∙ sym (over_end maxima nat_abs B l.c-index l.top c.loop-c-test.false) ∙ l.invariant.0 in
    let fits : Fitting B (length B) = λ k lt. l.invariant.1 k (omega (arith, c.loop-c-test.false)) in
    record {
      is = is;
      small = omega (arith, is, at_most_lowest B fits);
      lowest = lowest_is B fits ∙ ap (λ (n : ℕ). eqb n 32768) (sym is);
    }
