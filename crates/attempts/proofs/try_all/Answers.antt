-- `attempts::try_all` meets its contract: turn by turn, those before do not fit.
use Rattle.std.proofs.Common.{◌≡◌, List, ◌++◌, map, ℕ, ◌+◌, ◌*◌, ◌%◌, ◌^◌, ◌≤◌, length, take, drop, arith, sym, ap, subst, ◌∙◌}
use lib.IntN.{ℤ}
use lib.Pow.{pow-add, pow_mono, pow-lt}
use lib.Seq.{length-take-le}
use Rattle.trial.specs.Inner.Whole.{Whole}
use Rattle.trial.specs.Inner.Trial.{top_by, TriedAs}
use Rattle.trial.specs.declared.Terms.{Terms}
use Rattle.finished.specs.Inner.Finished.{Priceable}
use Rattle.attempts.specs.Inner.Candidates.{repaired_by}
use Rattle.attempts.proofs.PutBack.{front_put_back, of_front, put_back_priceable}
use Rattle.attempts.proofs.Trying.{Trying, trying_first, put_here, coded_here, next_here, refused_here}
use Rattle.attempts.proofs.try_all.Goals as goal
use Rattle.attempts.proofs.try_all.Goals.{In-loop-i, After-put_back, After-try_one}

-- the places of the i-th candidate, as code shifts them
abbrev shifted : ℕ → ℕ
shifted i = 1 * 2 ^ i % 18446744073709551616

module _ (t : Terms) (q w h : ℕ) (r B : List ℤ) (cs : List ℕ) (whole : Whole t.log2 q w h r B cs) (i : ℕ)
    (more : i ≤ t.log2 + t.log2) where
  shifted_is : shifted i ≡ 2 ^ i
  shifted_is = omega (arith, whole.high, pow-lt {i = i} {j = 11} (omega (arith, whole.high)))

  shifted_fits : shifted i ≤ length cs
  shifted_fits =
      omega (
        arith,
        shifted_is,
        whole.places,
        pow-add 2 t.log2 t.log2,
        pow_mono {i = i} {j = t.log2 + t.log2} more,
      )

  -- the magnitudes of a turn
  put_is : (ms now front : List ℕ) → length ms ≡ length cs → Trying t r B cs ms i now
      → front ≡ map (top_by t.weights.scale) (take (shifted i) cs)
      → front ++ drop (shifted i) now ≡ repaired_by t cs ms i
  put_is ms now front long v e =
      ap (λ (l : List ℕ). l ++ drop (shifted i) now) e
      ∙ rw shifted_is (front_put_back (top_by t.weights.scale) (2 ^ i) now cs)
      ∙ put_here t r B cs ms i now v long

pub loop-i-init : goal.loop-i-init
loop-i-init c = trying_first _ _ _ _ _

few : (c : In-loop-i) → shifted c.loop-i.i ≤ length c.args.block.places.now
few c = shifted_fits c.args.block.terms _ _ _ _ _ _ c.args.block.whole c.loop-i.i (omega (arith, c.loop-i-test.true))

few_now : (c : In-loop-i) → shifted c.loop-i.i ≤ length c.loop-i.ms
few_now c = omega (arith, few c, c.requires.priceable.long)

pub slice_bounds-put_back-end : goal.slice_bounds-put_back-end
slice_bounds-put_back-end c = few_now (goal.at.slice_bounds-put_back-end c).In-loop-i

pub slice_bounds-put_back-end-in-loop-i : goal.slice_bounds-put_back-end-in-loop-i
slice_bounds-put_back-end-in-loop-i c =
    sym (length-take-le _ c.loop-i.ms (few_now (goal.at.slice_bounds-put_back-end-in-loop-i c).In-loop-i))

pub slice_bounds-put_back-end-in-loop-i-2 : goal.slice_bounds-put_back-end-in-loop-i-2
slice_bounds-put_back-end-in-loop-i-2 c =
    sym (length-take-le _ c.args.block.places.now (few (goal.at.slice_bounds-put_back-end-in-loop-i-2 c).In-loop-i))

pub put_back-requires : goal.put_back-requires
put_back-requires c =
    let l = (goal.at.put_back-requires c).In-loop-i in
    let b = c.args.block in
    let w = c.requires.priceable in (
      length-take-le _ c.loop-i.ms (few_now l) ∙ sym (length-take-le _ b.places.now (few l)),
      of_front (λ (a : ℕ). a ≤ 32768) _ b.places.now (few l) b.whole.small,
      of_front (λ (a : ℕ). top_by b.terms.weights.scale a ≤ 32767) _ b.places.now (few l) (λ k. (w.fine k).level),
    )

-- the magnitudes of a turn are the candidate's
turn : (c : After-put_back)
    → c.put_back.new.ms ++ drop (shifted c.loop-i.i) c.loop-i.ms
    ≡ repaired_by c.args.block.terms c.args.block.places.now c.args.ms.now c.loop-i.i
turn c =
    put_is c.args.block.terms _ _ _ _ _ _ c.args.block.whole c.loop-i.i (omega (arith, c.loop-i-test.true)) _ _ _
    c.requires.priceable.long c.loop-i.invariant c.put_back.ensures

pub try_one-requires-clause-priceable : goal.try_one-requires-clause-priceable
unfolding repaired_by
try_one-requires-clause-priceable c =
    let b = c.args.block in
    let w = b.terms.weights in
    subst (λ (m : List ℕ). Priceable w.prices w.scale m b.places.now)
    (sym (turn (goal.at.try_one-requires-clause-priceable c).After-put_back))
    (put_back_priceable w.prices w.scale b.places.now c.args.ms.now (2 ^ c.loop-i.i) c.requires.priceable)

tried : (c : After-try_one)
    → TriedAs c.args.block.terms c.args.block.residuals.now c.args.block.coefs.now c.args.block.places.now
    (repaired_by c.args.block.terms c.args.block.places.now c.args.ms.now c.loop-i.i) c.try_one.new.levels
    c.try_one.result
tried c =
    let b = c.args.block in
    subst (λ (m : List ℕ). TriedAs b.terms b.residuals.now b.coefs.now b.places.now m c.try_one.new.levels
    c.try_one.result) (turn (goal.at.After-try_one c).After-put_back) c.try_one.ensures

pub returns-in-Some : goal.returns-in-Some
returns-in-Some c =
    coded_here c.args.block.terms _ _ _ _ c.loop-i.i _ c.loop-i.invariant (omega (arith, c.loop-i-test.true)) _ _
    (tried (goal.at.returns-in-Some c).After-try_one) c.args.component _ c.in-Some.is

pub loop-i-preserved : goal.loop-i-preserved
loop-i-preserved c =
    rw (turn (goal.at.loop-i-preserved c).After-put_back)
    (next_here c.args.block.terms _ _ _ _ c.loop-i.i _ c.loop-i.invariant (omega (arith, c.loop-i-test.true)) _ _
    (tried (goal.at.loop-i-preserved c).After-try_one) c.in_default.is)

pub returns : goal.returns
returns c =
    refused_here c.args.block.terms _ _ _ _ c.loop-i.i _ c.loop-i.invariant (omega (arith, c.loop-i-test.false)) _ _
