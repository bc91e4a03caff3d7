-- `residuals::block::restore_two` meets its contract: each of the four sums is the definition's double sum over 4096.
use mathlib.Core.Path.{◌≡◌, ◌∙◌, ap}
use Prim.Native.Nat.{◌≤◌}
use borrow.Author.Rules.{rules}
use lib.Dec.{lit<}
use lib.IntN.{ℤ, nat_abs, ◌+ℤ◌, ◌-ℤ◌}
use mir.Syntax.{w16, w32}
use mir.Val.{SFits, to_z, of_z}
use mir.Facts.{to_z-of_z}
use Rattle.integers.specs.Sum.{at}
use Rattle.integers.proofs.Clip.{clipped_fits}
use Rattle.integers.proofs.Fit.{fits_within}
use Rattle.residuals.proofs.Two.{settled_to, two_settled}
use Rattle.residuals.proofs.block.restore_two.Goals as goal

-- a sum as the machine hands it on, of two coefficients as it reads them
held : (f : ℤ → ℤ → ℤ) (z p q : ℤ) → nat_abs z ≤ 65536 → z ≡ f (to_z w16 (of_z w16 p)) (to_z w16 (of_z w16 q))
    → SFits w16 p → SFits w16 q → to_z w32 (of_z w32 z) ≡ f p q
held f z p q h e fp fq = to_z-of_z {w = w32} (fits_within z 65536 h (lit< tt)) ∙ simp to_z-of_z at e

-- what is stored of a settled sum of p and q
stored : (f : ℤ → ℤ → ℤ) (r p q x y : ℤ) → r ≡ settled_to (f p q) → p ≡ x → q ≡ y
    → to_z w16 (of_z w16 r) ≡ settled_to (f x y)
stored f r p q x y e ep eq =
    ap (λ (v : ℤ). to_z w16 (of_z w16 v))
    (e ∙ ap (λ (z : ℤ). settled_to (f z q)) ep ∙ ap (λ (z : ℤ). settled_to (f x z)) eq)
    ∙ to_z-of_z (clipped_fits _)

pub returns : goal.returns
returns c =
    let b = c.args.block.now in
    let f0 : SFits w16 (at b 0) = search rules in
    let f1 : SFits w16 (at b 1) = search rules in
    let f2 : SFits w16 (at b 2) = search rules in
    let f3 : SFits w16 (at b 3) = search rules in
    let sum_01 = held ◌+ℤ◌ c.plus-p.result (at b 0) (at b 1) c.plus-p.ensures.1 c.plus-p.ensures.0 f0 f1 in
    let difference_01 = held ◌-ℤ◌ c.minus-q.result (at b 0) (at b 1) c.minus-q.ensures.1 c.minus-q.ensures.0 f0 f1 in
    let sum_23 = held ◌+ℤ◌ c.plus-r.result (at b 2) (at b 3) c.plus-r.ensures.1 c.plus-r.ensures.0 f2 f3 in
    let difference_23 = held ◌-ℤ◌ c.minus-s.result (at b 2) (at b 3) c.minus-s.ensures.1 c.minus-s.ensures.0 f2 f3 in
    two_settled b c.requires _ _ _ _
    (stored ◌+ℤ◌ _ _ _ (at b 0 +ℤ at b 1) (at b 2 +ℤ at b 3) c.near.ensures sum_01 sum_23)
    (stored ◌+ℤ◌ _ _ _ (at b 0 -ℤ at b 1) (at b 2 -ℤ at b 3) c.near-2.ensures difference_01 difference_23)
    (stored ◌-ℤ◌ _ _ _ (at b 0 +ℤ at b 1) (at b 2 +ℤ at b 3) c.far.ensures sum_01 sum_23)
    (stored ◌-ℤ◌ _ _ _ (at b 0 -ℤ at b 1) (at b 2 -ℤ at b 3) c.far-2.ensures difference_01 difference_23)
