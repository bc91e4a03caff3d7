-- Each turn puts what its place takes, until one is the last: so of every block for which the places are so decided.
use mathlib.Core.Path.{ap, ◌∙◌}
use Prim.Native.Nat.{ℕ}
use native.Mathlib.Omega.{arith}
use Rattle.std.proofs.lemmas.Bool.{not-true, not-false}
use lib.ListN.{set}
use Rattle.scan.specs.Scan.{scan_at}
use Rattle.weights.proofs.Places.{some_kept}
use Rattle.passes.proofs.Reading.{begun, goes_further, stops, read}
use Rattle.passes.proofs.read_off.Goals as goal
use Rattle.passes.proofs.read_off.Goals.{else-not-here-via-else-not-here, else-not-here-via-then-not-here+else-a-ne0}

pub loop-n-init : goal.loop-n-init
loop-n-init c r g kept top ends decided = begun r g _ _ kept _ c.requires.rooms.2 c.requires.cleared

pub returns-then-a-ne0 : goal.returns-then-a-ne0
returns-then-a-ne0 c r g kept top ends decided =
    let n = c.loop-n.n in
    let scan = c.args.scan in
    stops r g scan.w scan.h kept _ scan.scanned top c.args.end ends _ _ n (c.loop-n.invariant r g kept top ends decided)
    c.loop-n-test.true _
    (decided n (omega arith) c.loop-n-test.true) _ c.after-a.ensures _
    (c.put.ensures ∙ ap (λ (p : ℕ). set c.loop-n.levels p c.after-a.result)
    (c.block_place.ensures.0 ∙ ap (scan_at scan.w scan.h) c.scan_place.ensures.0))
    (some_kept _ c.if-a-ne0.true) (not-true _ c.if-not-here.true)

pub loop-n-preserved : goal.loop-n-preserved
loop-n-preserved c r g kept top ends decided =
    let n = c.loop-n.n in
    let scan = c.args.scan in
    goes_further r g scan.w scan.h kept _ scan.scanned top c.args.end ends _ _ n
    (c.loop-n.invariant r g kept top ends decided) c.loop-n-test.true _
    (decided n (omega arith) c.loop-n-test.true) _ c.after-a.ensures _
    (c.put.ensures ∙ ap (λ (p : ℕ). set c.loop-n.levels p c.after-a.result)
    (c.block_place.ensures.0 ∙ ap (scan_at scan.w scan.h) c.scan_place.ensures.0))
    (λ some.
    elim c.else-not-here.branch [
      | else-not-here-via-else-not-here u ↦ not-false _ u.if-not-here.false
      | else-not-here-via-then-not-here+else-a-ne0 u ↦ absurd (omega (arith, u.if-a-ne0.false))
    ])

pub returns : goal.returns
returns c r g kept top ends decided =
    let scan = c.args.scan in
    read r g scan.w scan.h kept _ scan.scanned top c.args.end ends _ _ c.loop-n.n (omega (arith, c.loop-n-test.false))
    (c.loop-n.invariant r g kept top ends decided)
