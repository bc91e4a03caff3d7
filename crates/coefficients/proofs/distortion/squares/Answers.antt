-- `coefficients::distortion::squares` meets its contract: an error by two 32-bit products, and its square.
use mathlib.Core.Path.{◌≡◌, sym, ap, ◌∙◌}
use Prim.Native.Nat.{◌*◌, ◌+◌, ◌≤◌}
use native.Mathlib.Omega.{arith}
use lib.ListN.{length}
use lib.IntN.{pos, nat_abs}
use mir.Syntax.{w16}
use mir.Val.{SFits}
use borrow.Author.Rules.{rules}
use Rattle.integers.specs.Sum.{at}
use Rattle.integers.proofs.Sums.{nats}
use Rattle.integers.proofs.Over.{over_next, over_end}
use Rattle.price.specs.Level.{square}
use Rattle.coefficients.specs.Inner.Coefficients.{zero_distortion}
use Rattle.coefficients.proofs.Magnitudes.{magnitude_is}
use Rattle.coefficients.proofs.Uncoding.{zero_error, most_square, parts, squares_next, squares_fit}
use Rattle.coefficients.proofs.Uncoding.{zero_distortion_lem}
use Rattle.coefficients.proofs.distortion.squares.Goals.{After-from-x}
use Rattle.coefficients.proofs.distortion.squares.Goals as goal

-- the error of the coefficient, and its square
error_is : (c : After-from-x)
    → c.from-x.result ≡ zero_error c.args.scale (nat_abs (at c.args.part.now c.loop-c.c-index))
error_is c =
    let z = at c.args.part.now c.loop-c.c-index in
    let f : SFits w16 z = search rules in
    let a = magnitude_is z _ f c.unsigned_abs.ensures.value in
    c.from-x.ensures ∙ ap (zero_error c.args.scale) (c.from-a.ensures ∙ a)

square_at_most : (c : After-from-x) → c.from-x.result * c.from-x.result ≤ most_square c.args.scale
square_at_most c =
    let l = c.loop-c in
    let b = parts c.args.scale (nat_abs (at c.args.part.now l.c-index)) (c.requires.1 l.c-index) in
    rw (error_is c) b.square

pub overflow_add-sum : goal.overflow_add-sum
overflow_add-sum c =
    let g = c.args.scale in
    let l = c.loop-c in
    record {
      fits = omega (
        arith,
        squares_next l.c-index (most_square g) l.sum _ l.invariant.1 (square_at_most c),
        squares_fit g (length c.args.part.now) (l.c-index + 1) (omega arith) c.requires.0,
      );
    }

pub loop-c-preserved : goal.loop-c-preserved
loop-c-preserved c =
    let g = c.args.scale in
    let l = c.loop-c in
    let part = c.args.part.now in
    let x = c.from-x.result in
    let e : x * x ≡ zero_distortion g (at part l.c-index) =
    ap square (error_is c) ∙ zero_distortion_lem g (at part l.c-index) in (
      rw e (over_next nats (zero_distortion g) part l.c-index (pos 0) l.sum c.loop-c-test.true ∙ l.invariant.0),
      squares_next l.c-index (most_square g) l.sum _ l.invariant.1 (square_at_most c),
    )

pub returns : goal.returns
returns c =
    let g = c.args.scale in
    let part = c.args.part.now in
    let l = c.loop-c in (
      sym (over_end nats (zero_distortion g) part l.c-index l.sum c.loop-c-test.false) ∙ l.invariant.0,
      omega (arith, l.invariant.1, squares_fit g (length part) l.c-index l.auto.c-index-end c.requires.0),
    )
