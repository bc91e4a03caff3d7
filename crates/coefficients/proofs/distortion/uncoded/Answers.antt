-- `coefficients::distortion::uncoded` meets its contract: the sum of the parts, held once it is past 2^60.
use mathlib.Core.Path.{◌≡◌, sym, subst, ap, ◌∙◌}
use Prim.Native.Nat.{ℕ, ◌+◌, ◌*◌, ◌≤◌}
use native.Mathlib.Nat.{mul-le-mul_right}
use native.Mathlib.Omega.{arith}
use lib.ListN.{length}
use Rattle.integers.specs.Sum.{over, on_ℕ}
use Rattle.integers.proofs.Sums.{nats}
use Rattle.integers.proofs.Over.{over_behind}
use Rattle.coefficients.specs.Inner.Coefficients.{Within, zero_distortion}
use Rattle.coefficients.proofs.Uncoding.{Adding, adding_next, adding_done}
use Rattle.coefficients.proofs.Parts.{over_both, within_front, within_back}
use Rattle.coefficients.proofs.distortion.uncoded.Goals as goal

pub squares-requires : goal.squares-requires
squares-requires c =
    let g = c.args.scale in
    let l = c.loop-part in
    let taken = c.in-Some.ensures.steps.1 in
    let short : length c.in-Some.part.now ≤ l.part-iterator.size = omega (arith, taken.1) in (
      omega (arith, mul-le-mul_right (g.front * g.front) short, l.invariant.2),
      within_front 32767 c.in-Some.part.now _ (subst (λ m. Within m 32767) taken.0 l.invariant.1),
    )

pub loop-part-preserved : goal.loop-part-preserved
loop-part-preserved c =
    let g = c.args.scale in
    let l = c.loop-part in
    let f = zero_distortion g in
    let steps = c.in-Some.ensures.steps in
    let part = c.in-Some.part.now in
    let behind = c.next.new.self.rest.now in
    let sum : over on_ℕ f l.part-iterator.rest.now ≡ c.squares.result + over on_ℕ f behind =
    ap (over on_ℕ f) steps.1.0 ∙ over_both nats f part behind
    ∙ ap (λ (n : ℕ). n + over on_ℕ f behind) (sym c.squares.ensures.0) in (
      rw c.add-d.ensures (adding_next l.d c.squares.result _ _ _ sum l.invariant.0),
      within_back 32767 part behind (subst (λ m. Within m 32767) steps.1.0 l.invariant.1),
      rw steps.0 l.invariant.2,
    )

pub returns : goal.returns
returns c =
    let l = c.loop-part in
    let f = zero_distortion c.args.scale in
    adding_done l.d _
    (subst (λ (n : ℕ). Adding l.d n (over on_ℕ f c.args.block.now))
    (over_behind on_ℕ f l.part-iterator.rest.now 0 (omega (arith, c.in-None.ensures.steps.1.0))) l.invariant.0)
