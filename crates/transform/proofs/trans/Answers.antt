-- `transform::trans` meets its contract: its faults in order, and behind them the transform.
use mathlib.Core.Path.{◌≡◌, refl, sym, ◌∙◌, ap, subst}
use mathlib.Core.Bool.{true, false}
use mathlib.Core.List.{List, ◌++◌}
use Prim.Native.Nat.{ℕ, ◌*◌, ◌^◌}
use borrow.Author.Tests.{lt-ltb, le-ltb}
use lib.Dec.{ltb}
use lib.ListN.{length, take, drop}
use lib.Seq.{length-take-le}
use lib.IntN.{ℤ}
use Rattle.std.proofs.lemmas.Result.{err_from_is_err_and}
use Rattle.integers.specs.Tests.{some}
use Rattle.integers.proofs.Some.{none_above}
use Rattle.transform.specs.Call.{wild}
use Rattle.transform.specs.Coefficients.{coefficients}
use Rattle.transform.proofs.Verdict.{no_width, no_height, too_short, too_wild, no_fault, changed}
use Rattle.transform.proofs.Verdict.{coefficients_front}
use Rattle.transform.proofs.trans.Goals as goal

-- how many places the block has
area : {w h x y lw lh : ℕ} → w ≡ 2 ^ x → x ≡ lw → h ≡ 2 ^ y → y ≡ lh → w * h ≡ 2 ^ lw * 2 ^ lh
area w x h y = rw (w, x, h, y) refl

pub returns-in_err-width : goal.returns-in_err-width
returns-in_err-width c =
    let a = c.args in
    let p = err_from_is_err_and c.from_residual.result c.from_residual.ensures.1 in
    let e = no_width a.block.now a.log2_w a.log2_h c.in_err-width.ensures.1 in
    record { answer = rw (p.1, p.2, c.in_err-width.ensures.0) e.0; buffer = e.1 }

pub returns-in_err-height : goal.returns-in_err-height
returns-in_err-height c =
    let a = c.args in
    let p = err_from_is_err_and c.from_residual-in_err-height.result c.from_residual-in_err-height.ensures.1 in
    let e = no_height a.block.now a.log2_w a.log2_h c.in_ok-width.ensures.1 c.in_err-height.ensures.1 in
    record { answer = rw (p.1, p.2, c.in_err-height.ensures.0) e.0; buffer = e.1 }

pub returns-then-block-n : goal.returns-then-block-n
returns-then-block-n c =
    let a = c.args in
    let r = a.block.now in
    let is = area c.length.ensures.0 c.in_ok-width.ensures.0 c.length-2.ensures.0 c.in_ok-height.ensures.0 in
    let e = too_short r a.log2_w a.log2_h c.in_ok-width.ensures.1 c.in_ok-height.ensures.1
    (subst (λ (m : ℕ). ltb (length r) m ≡ true) is (lt-ltb (length r) _ c.if-block-n.true)) in
    record { answer = e.0; buffer = e.1 }

pub returns-then-has_wild : goal.returns-then-has_wild
returns-then-has_wild c =
    let a = c.args in
    let r = a.block.now in
    let is = area c.length.ensures.0 c.in_ok-width.ensures.0 c.length-2.ensures.0 c.in_ok-height.ensures.0 in
    let e = too_wild r a.log2_w a.log2_h c.in_ok-width.ensures.1 c.in_ok-height.ensures.1
    (subst (λ (m : ℕ). ltb (length r) m ≡ false) is (le-ltb (length r) _ c.if-block-n.false))
    (subst (λ (m : ℕ). some wild (take m r) ≡ true) is (sym c.has_wild.ensures ∙ c.if-has_wild.true)) in
    record { answer = e.0; buffer = e.1 }

pub transform-requires : goal.transform-requires
transform-requires c =
    let a = c.args in
    let r = a.block.now in
    let n = c.length.result * c.length-2.result in
    let tame = sym c.has_wild.ensures ∙ c.if-has_wild.false in
    record {
      block_len = (
        length-take-le n r c.if-block-n.false
            ∙ rw (c.length.ensures.0, c.length-2.ensures.0) refl,
        none_above 1023 (take n r) tame,
      );
    }

pub returns : goal.returns
returns c =
    let a = c.args in
    let r = a.block.now in
    let lw = a.log2_w in
    let lh = a.log2_h in
    let n = c.length.result * c.length-2.result in
    let is = area c.length.ensures.0 c.in_ok-width.ensures.0 c.length-2.ensures.0 c.in_ok-height.ensures.0 in
    let yes = no_fault r lw lh c.in_ok-width.ensures.1 c.in_ok-height.ensures.1
    (subst (λ (m : ℕ). ltb (length r) m ≡ false) is (le-ltb (length r) _ c.if-block-n.false))
    (subst (λ (m : ℕ). some wild (take m r) ≡ false) is (sym c.has_wild.ensures ∙ c.if-has_wild.false)) in
    record {
      answer = yes;
      buffer =
          ap (λ (l : List ℤ). l ++ drop n r) (c.transform.ensures
          ∙ rw (c.in_ok-width.ensures.0, c.in_ok-height.ensures.0)
          (ap (λ (m : ℕ). coefficients (take m r) lw lh) is) ∙ coefficients_front r lw lh)
          ∙ ap (λ (m : ℕ). coefficients r lw lh ++ drop m r) is
          ∙ changed r lw lh yes;
    }
