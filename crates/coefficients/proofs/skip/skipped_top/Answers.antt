-- `coefficients::skip::skipped_top` meets its contract: a block reaches the threshold when its largest magnitude does.
use mathlib.Core.Path.{◌≡◌, sym, ap, ◌∙◌}
use mathlib.Core.List.{List, ◌++◌}
use Prim.Native.Nat.{ℕ, ◌≤◌, ◌*◌, max}
use native.Mathlib.Nat.{mul-le-mul_right, le-max_left}
use native.Mathlib.Omega.{arith}
use lib.Dec.{leb}
use lib.IntN.{ℤ, nat_abs}
use borrow.Author.Tests.{le-leb, lt-leb}
use Rattle.integers.specs.Sum.{over, on_max}
use Rattle.integers.specs.Tests.{some}
use Rattle.integers.proofs.Over.{maxima, some_over, over_end}
use Rattle.price.specs.Level.{scaled}
use Rattle.coefficients.proofs.Parts.{over_both}
use Rattle.coefficients.proofs.Reaching.{reaches}
use Rattle.coefficients.proofs.skip.skipped_top.Goals as goal

-- the largest so far with one part more, and what is left behind it
with_the_rest : (B left part behind : List ℤ) (top largest more : ℕ) → left ≡ part ++ behind
    → largest ≡ over on_max nat_abs part → more ≡ max top largest
    → max top (over on_max nat_abs left) ≡ over on_max nat_abs B
    → max more (over on_max nat_abs behind) ≡ over on_max nat_abs B
with_the_rest B left part behind top largest more split of is whole =
    let rest = over on_max nat_abs behind in
    ap (λ (n : ℕ). max n rest) is
    ∙ maxima.assoc top largest rest
    ∙ ap (λ (n : ℕ). max top (max n rest)) of
    ∙ ap (max top) (sym (ap (over on_max nat_abs) split ∙ over_both maxima nat_abs part behind))
    ∙ whole

-- whether some coefficient reaches the threshold
some_reaches : (B : List ℤ) (q threshold : ℕ) → 1 ≤ threshold
    → some (λ z. leb threshold (scaled q z)) B ≡ leb threshold (over on_max nat_abs B * q)
some_reaches B q threshold h = some_over (λ z. leb threshold (scaled q z)) B ∙ reaches threshold q h B

pub loop-part-preserved : goal.loop-part-preserved
loop-part-preserved c =
    let l = c.loop-part in
    let part = c.largest.ensures in
    let more = c.max-top.ensures in (
      with_the_rest c.args.block.now _ c.in-Some.part.now _ l.top c.largest.result _ c.in-Some.ensures.steps.1.0 part.is
          more l.invariant.0,
      rw (c.from.ensures, c.from-in-loop-part.ensures) at c.if-threshold-from.false,
      omega (arith, more, part.small, l.invariant.2),
    )

pub returns-then-threshold-from : goal.returns-then-threshold-from
returns-then-threshold-from c =
    let a = c.args in
    let l = c.loop-part in
    let most = over on_max nat_abs a.block.now in
    let whole = with_the_rest a.block.now _ c.in-Some.part.now _ l.top c.largest.result _ c.in-Some.ensures.steps.1.0
    c.largest.ensures.is c.max-top.ensures l.invariant.0 in
    let below : c.max-top.result ≤ most =
    omega (arith, le-max_left c.max-top.result (over on_max nat_abs c.next.new.self.rest.now), whole) in
    let reached : a.threshold ≤ c.max-top.result * a.q =
    rw (c.from.ensures, c.from-in-loop-part.ensures) at c.if-threshold-from.true in
    record {
      walked = sym (some_reaches a.block.now a.q a.threshold c.requires.1
          ∙ le-leb a.threshold (most * a.q) (omega (arith, reached, mul-le-mul_right a.q below)));
      top = tt;
      below = tt;
    }

pub returns : goal.returns
returns c =
    let a = c.args in
    let l = c.loop-part in
    let left = l.part-iterator.rest.now in
    let whole : l.top ≡ over on_max nat_abs a.block.now =
    sym (over_end maxima nat_abs left 0 l.top (omega (arith, c.in-None.ensures.steps.1.0))) ∙ l.invariant.0 in
    record {
      walked = sym (some_reaches a.block.now a.q a.threshold c.requires.1
          ∙ ap (λ (n : ℕ). leb a.threshold (n * a.q)) (sym whole)
          ∙ lt-leb a.threshold (l.top * a.q) l.invariant.1);
      top = whole;
      below = l.invariant.1;
    }
