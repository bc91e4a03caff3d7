-- `unstage::unfold_row` meets its contract: before the turn i the first i places of both rows are unfolded.
use mathlib.Core.Path.{◌≡◌, ◌∙◌, ap}
use Prim.Native.Nat.{◌+◌, ◌^◌, ◌≤◌}
use native.Mathlib.Omega.{arith}
use lib.Dec.{lit<}
use lib.IntN.{ℤ, nat_abs, ◌+ℤ◌, ◌-ℤ◌}
use mir.Syntax.{w32}
use mir.Val.{SFits}
use Rattle.integers.specs.Sum.{at}
use Rattle.integers.proofs.Magnitude.{magnitude-+, magnitude--}
use Rattle.integers.proofs.Fit.{fits_within, operation_is}
use Rattle.unstage.proofs.Unfolding.{rows_more}
use Rattle.unstage.proofs.unfold_row.Goals as goal

-- two numbers that are no larger than 2^29
module _ (p q : ℤ) (hp : nat_abs p ≤ 2 ^ 29) (hq : nat_abs q ≤ 2 ^ 29) where
  one : SFits w32 p
  one = fits_within p (2 ^ 29) hp (lit< tt)

  other : SFits w32 q
  other = fits_within q (2 ^ 29) hq (lit< tt)

  total : SFits w32 (p +ℤ q)
  total = fits_within (p +ℤ q) (2 ^ 30) (omega (arith, magnitude-+ p q)) (lit< tt)

  gap : SFits w32 (p -ℤ q)
  gap = fits_within (p -ℤ q) (2 ^ 30) (omega (arith, magnitude-- p q)) (lit< tt)

pub loop-i-preserved : goal.loop-i-preserved
loop-i-preserved c =
    let a = c.args in
    let l = c.loop-i in
    -- the two that a turn reads are the first list's, and no larger than 2^29
    let here = a.a + l.i in
    let there = a.c + l.i in
    let p = at l.dst here in
    let q = at l.dst there in
    let near_is : p ≡ at a.dst.now here = l.invariant.between here (omega arith) (omega arith) in
    let far_is : q ≡ at a.dst.now there = l.invariant.behind there (omega arith) in
    let hp : nat_abs p ≤ 2 ^ 29 = omega (arith, ap nat_abs near_is, (c.requires.by_index l.i (omega arith)).0) in
    let hq : nat_abs q ≤ 2 ^ 29 = omega (arith, ap nat_abs far_is, (c.requires.by_index l.i (omega arith)).1) in
    let fp = one p q hp hq in
    let fq = other p q hp hq in
    rows_more a.a a.c l.i a.dst.now l.dst _ _ (omega arith) (omega arith)
    (operation_is w32 ◌+ℤ◌ p q fp fq (total p q hp hq)
    ∙ ap (λ (z : ℤ). z +ℤ q) near_is
    ∙ ap (λ (z : ℤ). at a.dst.now here +ℤ z) far_is)
    (operation_is w32 ◌-ℤ◌ p q fp fq (gap p q hp hq)
    ∙ ap (λ (z : ℤ). z -ℤ q) near_is
    ∙ ap (λ (z : ℤ). at a.dst.now here -ℤ z) far_is)
    l.invariant
