-- `pgm::digits` meets its contract: what was read and the digits that are left make the whole number.
use Rattle.std.proofs.Common.{◌≡◌, ℕ, ◌+◌, ◌≤◌, max, List, length, drop, sym, ◌∙◌, arith}
use Rattle.pgm.specs.Number.{run, worth, found_of, digits_at}
use Rattle.pgm.proofs.Scan.{run_stops, run_next, run_ends, worth_stops, worth_next, worth_ends}
use Rattle.pgm.proofs.digits.Goals as goal

-- where the run of digits ends, the number is read
read : (w : List ℕ) (at v i : ℕ) → i ≡ at + run (drop at w) → v ≡ worth 0 (drop at w)
    → found_of at v i ≡ digits_at w at
unfolding digits_at
read w at v i e f = rw (e, f)

pub returns-then-not-is_digit : goal.returns-then-not-is_digit
returns-then-not-is_digit c =
    let l = c.loop-i in
    let w = c.args.bytes.now in
    let no = sym c.if-not-is_digit.ensures in
    c.found.ensures
    ∙ read w c.args.at l.value l.i
    (omega (arith, l.invariant.1, run_stops w l.i c.loop-i-test.true no))
    (sym (worth_stops w l.i l.value c.loop-i-test.true no) ∙ l.invariant.2)

pub loop-i-preserved : goal.loop-i-preserved
loop-i-preserved c =
    let l = c.loop-i in
    let w = c.args.bytes.now in
    let yes = sym c.if-not-is_digit.ensures in (
      c.with_digit-value.ensures.1,
      omega (arith, l.invariant.1, run_next w l.i c.loop-i-test.true yes),
      rw c.with_digit-value.ensures.0 (sym (worth_next w l.i l.value c.loop-i-test.true yes) ∙ l.invariant.2),
    )

-- where the loop ends, it has read up to the last byte, unless it began behind it
ended : (w : List ℕ) (at i : ℕ) → at ≤ i → (at ≤ length w → i ≤ length w) → length w ≤ i
    → i + run (drop i w) ≡ at + run (drop at w) → max (length w) at ≡ i
ended w at i h f g e =
    let r = run_ends w i g in
    let s = run_ends w at in
    grind arith

pub returns : goal.returns
returns c =
    let l = c.loop-i in
    let w = c.args.bytes.now in
    let e = ended w c.args.at l.i l.auto.i l.auto.i-end c.loop-i-test.false l.invariant.1 in
    c.found-2.ensures
    ∙ read w c.args.at l.value c.max.result
    (omega (arith, e, l.invariant.1, run_ends w l.i c.loop-i-test.false))
    (sym (worth_ends w l.i l.value c.loop-i-test.false) ∙ l.invariant.2)
