-- `pgm::past_gap` meets its contract: what was passed and the gap that is left make the whole gap.
use Rattle.std.proofs.Common.{◌≡◌, ℕ, ◌≤◌, false, List, length, refl, sym, arith}
use Rattle.pgm.specs.Gap.{past_gap}
use Rattle.pgm.proofs.Scan.{gap_stops, gap_next, gap_ends}
use Rattle.pgm.proofs.past_gap.Goals as goal

pub loop-i-init : goal.loop-i-init
unfolding past_gap
loop-i-init c = refl

pub returns-then-not-in_gap : goal.returns-then-not-in_gap
returns-then-not-in_gap c =
    let l = c.loop-i in
    omega (arith, gap_stops c.args.bytes.now l.i l.comment c.loop-i-test.true (sym c.if-not-in_gap.ensures))

pub loop-i-preserved : goal.loop-i-preserved
loop-i-preserved c =
    let l = c.loop-i in
    let more = gap_next c.args.bytes.now l.i l.comment c.loop-i-test.true (sym c.if-not-in_gap.ensures) in
    rw c.goes_on-comment.ensures (omega (arith, l.invariant, more))

-- behind the last byte there is no gap
past_end : (w : List ℕ) (at : ℕ) → length w ≤ at → past_gap w at ≡ at
unfolding past_gap
past_end w at h = omega (arith, gap_ends w at false h)

pub returns : goal.returns
returns c =
    let l = c.loop-i in
    let w = c.args.bytes.now in
    let e = gap_ends w l.i l.comment c.loop-i-test.false in
    let f = past_end w c.args.at in
    grind arith
