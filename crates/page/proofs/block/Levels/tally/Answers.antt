-- `page::Levels::tally` counts the fate of each of the 64 levels.
use Rattle.std.proofs.Common.{◌≡◌, ℕ, ap, ◌∙◌, arith}
use Rattle.fates.specs.Fate.{tally_of}
use Rattle.fates.proofs.Counts.{tally_none, tally_below, tally_more}
use Rattle.page.proofs.block.Levels.tally.Goals as goal
use Rattle.page.proofs.block.Levels.tally.Invariants.{fates}

pub loop-i-init : goal.loop-i-init
loop-i-init c = tally_none _ c.default-tally.ensures

pub counting-tally-requires : goal.counting-tally-requires
counting-tally-requires c = tally_below _ c.loop-i.i 4095 (omega arith) c.loop-i.invariant

pub loop-i-preserved : goal.loop-i-preserved
loop-i-preserved c = tally_more _ c.loop-i.i c.loop-i.invariant c.fate.ensures c.counting-tally.ensures

pub returns : goal.returns
returns c =
    let l = c.loop-i in
    let s = c.args.self.now in
    let every = fates s.qp.qp s.coefficients s.levels in
    let e : l.i ≡ 64 = omega arith in
    (l.invariant ∙ ap (λ (n : ℕ). tally_of every n) e, tally_below every l.i 64 (omega arith) l.invariant)
