-- `shown::block_apart` meets its contract: the largest of the first i differences.
use Rattle.std.proofs.Common.{◌≡◌, ℕ, refl, ap, ◌∙◌, add-one, arith}
use Rattle.integers.specs.Sum.{sum, on_max}
use Rattle.shown.specs.Shown.{apart_at, block_apart}
use Rattle.shown.proofs.block_apart.Goals as goal

pub loop-i-init : goal.loop-i-init
unfolding sum
loop-i-init c = refl

pub loop-i-preserved : goal.loop-i-preserved
unfolding sum
loop-i-preserved c = rw (add-one, c.max-top.ensures, c.loop-i.invariant, c.apart_at.ensures) refl

pub returns : goal.returns
unfolding block_apart
returns c =
    let l = c.loop-i in
    let a = c.args in
    let e : l.i ≡ 64 = omega arith in
    l.invariant ∙ ap (λ (n : ℕ). sum on_max n (apart_at a.block.size a.block.number a.seen.now a.view.now)) e
