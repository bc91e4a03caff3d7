-- `weights::Weights::offer` meets its contract: m and m - 1 are near L, and the cheaper of the two is the offer.
use mathlib.Core.Path.{refl, sym, subst}
use Prim.Native.Nat.{ℕ, ◌≤◌}
use native.Mathlib.Nat.{le_of_eq}
use native.Mathlib.Omega.{arith}
use Rattle.scaling.proofs.Scaling.{rounding}
use Rattle.scaling.proofs.Squaring.{near_below, within}
use Rattle.weights.proofs.Offering.{bare_is, each_below, offer_one, offer_less, offer_tied, offer_upper}
use Rattle.weights.proofs.Offering.{some_left}
use Rattle.weights.proofs.Weights.offer.Goals.{then-d-c-via-then-d-c, then-d-c-via-else-d-c+then-d-c-2}
use Rattle.weights.proofs.Weights.offer.Goals as goal

pub level_at-requires : goal.level_at-requires
level_at-requires c =
    let w = c.args.self in
    let e = rounding w.scale c.args.l in (
      subst (λ (k : ℕ). 1 ≤ k) (sym e) c.requires.1,
      each_below w.prices w.scale c.args.l c.requires.0 _ (le_of_eq e),
    )

pub returns-then-alone : goal.returns-then-alone
returns-then-alone c =
    let w = c.args.self in
    let x = c.squared.ensures in
    let y = c.level_at.ensures in
    offer_one w.prices w.scale c.args.l _ _ _ (rounding w.scale c.args.l) c.if-alone.true
    (bare_is w.prices w.scale c.args.l _ _ _ x y) (omega (arith, x.small, y.small))

pub overflow_sub-n : goal.overflow_sub-n
overflow_sub-n c =
    subst (λ (k : ℕ). 1 ≤ k) (sym (rounding c.args.self.scale c.args.l)) c.requires.1

pub squared_below-requires : goal.squared_below-requires
squared_below-requires c =
    let g = c.args.self.scale in
    let e = rounding g c.args.l in
    (near_below g c.args.l c.requires.0.near _ (omega arith), rw e (within g c.args.l))

pub level_at-requires-2 : goal.level_at-requires-2
level_at-requires-2 c =
    let w = c.args.self in
    let e = rounding w.scale c.args.l in (
      some_left _ _ c.if-alone.false (subst (λ (k : ℕ). 1 ≤ k) (sym e) c.requires.1) refl,
      each_below w.prices w.scale c.args.l c.requires.0 _ (omega arith),
    )

pub returns-then-d-c : goal.returns-then-d-c
returns-then-d-c c =
    let w = c.args.self in
    let x = c.squared.ensures in
    let y = c.level_at.ensures in
    let e = rounding w.scale c.args.l in
    let some = subst (λ (k : ℕ). 1 ≤ k) (sym e) c.requires.1 in
    let upper = bare_is w.prices w.scale c.args.l _ _ _ x y in
    let lower = bare_is w.prices w.scale c.args.l _ _ _ c.squared_below.ensures c.level_at-2.ensures in
    elim c.then-d-c.branch [
      | then-d-c-via-then-d-c v ↦
          offer_less w.prices w.scale c.args.l _ _ _ _ _ e c.if-alone.false some refl upper lower
          (omega (arith, x.small, y.small)) v.if-d-c.true
      | then-d-c-via-else-d-c+then-d-c-2 v ↦
          offer_tied w.prices w.scale c.args.l _ _ _ _ _ e c.if-alone.false some refl upper lower
          (omega (arith, x.small, y.small)) v.if-d-c-2.true.0 v.if-d-c-2.true.1
    ]

pub returns : goal.returns
returns c =
    let w = c.args.self in
    let x = c.squared.ensures in
    let y = c.level_at.ensures in
    let e = rounding w.scale c.args.l in
    let some = subst (λ (k : ℕ). 1 ≤ k) (sym e) c.requires.1 in
    let upper = bare_is w.prices w.scale c.args.l _ _ _ x y in
    let lower = bare_is w.prices w.scale c.args.l _ _ _ c.squared_below.ensures c.level_at-2.ensures in
    offer_upper w.prices w.scale c.args.l _ _ _ _ _ e c.if-alone.false some refl upper lower
    (omega (arith, x.small, y.small)) c.if-d-c-2.either c.if-d-c.false
