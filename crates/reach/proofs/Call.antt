-- A host whose heights reach the bound of a component's side and QP is never refused for them: where the guarded call
-- answers 15 of that component, the price of its plainly rounded block reaches 2^62.
use mathlib.Core.Path.{◌≡◌, refl, sym, ap, subst, ◌∙◌}
use mathlib.Core.Logic.{⊎_elim}
use mathlib.Core.Bool.{true}
use mathlib.Core.List.{List}
use Prim.Native.Nat.{ℕ, ◌*◌, ◌^◌, ◌≤◌, ◌<◌}
use native.Mathlib.Omega.{arith}
use lib.ListN.{length}
use lib.IntN.{ℤ}
use Rattle.integers.proofs.Some.{none_above}
use Rattle.refusals.specs.declared.Component.{Component}
use Rattle.refusals.specs.Numbers.{component_of}
use Rattle.refusals.specs.Faults.{refused}
use Rattle.refusals.proofs.Coincide.{component_tells}
use Rattle.tables.specs.Scales.{forward, back}
use Rattle.transform.specs.Coefficients.{coefficients}
use Rattle.price.specs.declared.Costs.{Costs}
use Rattle.coding.specs.Block.{document01}
use Rattle.components.specs.declared.Request.{Request}
use Rattle.components.specs.Call.{requested, runs, settings_of, log2_of, area, stretch, trans_of, quant_on, quant_of}
use Rattle.components.specs.Inner.Groups.{EarlyPassed}
use Rattle.components.proofs.Log2.{log2_high}
use Rattle.components.proofs.Accepted.{sides_fine, residuals_tame}
use Rattle.components.proofs.Alone.{stretch_long}
use Rattle.refusals.specs.declared.Three.{Three}
use Rattle.heights.specs.declared.Heights.{Heights}
use Rattle.guarding.specs.Block.{plain, price_with, extremes_with}
use Rattle.guarding.specs.Call.{GuardedBlock, guarded_request, heights_of, guard_of, guarded_verdict}
use Rattle.guarding.proofs.Fits.{Unfit}
use Rattle.guarding.proofs.Refused.{refused_with_15_only_if}
use Rattle.reach.specs.Bound.{bound}
use Rattle.reach.proofs.Block.{plain_block_within_bound}

-- a call with one log2 side and the scales of the document; a component that is run, past the early tests
module _ (g : GuardedBlock) (row : g.row ≡ back) (scales : g.call.fixed.scales ≡ forward)
    (square : g.call.lw ≡ g.call.lh) (k : Component) where
  -- its log2 side and QP
  abbrev l : ℕ
  l = log2_of k g.call.lw

  abbrev qp : ℕ
  qp = (settings_of k g.call).qp

  fills : EarlyPassed g.call → length (stretch k g.call) ≡ 2 ^ l * 2 ^ l
  unfolding area
  fills early =
      stretch_long g.call early k ∙ ap (λ (n : ℕ). 2 ^ l * 2 ^ log2_of k n) (sym square)

  made : (quant_of k g.call).buffer ≡ coefficients (stretch k g.call) l l
  unfolding quant_of quant_on trans_of
  made = ap (λ (n : ℕ). coefficients (stretch k g.call) l (log2_of k n)) (sym square)

  within : EarlyPassed g.call → runs k g.call ≡ true
      → ((extremes_with (guard_of k g) (plain (quant_of k g.call))).darker ≤ bound l qp)
      × ((extremes_with (guard_of k g) (plain (quant_of k g.call))).lighter ≤ bound l qp)
  unfolding guard_of quant_of quant_on
  within early run =
      let i = sides_fine g.call early.settings in
      plain_block_within_bound (guard_of k g) l (log2_high k g.call.lw i.0.1) refl (ap (log2_of k) (sym square))
      row scales (fills early) (none_above 1023 (stretch k g.call) (residuals_tame g.call early.buffer k run))
      made

  -- both heights reach the bound
  abbrev pub Reaching : Type 0
  Reaching =
      (bound (log2_of k g.call.lw) (settings_of k g.call).qp ≤ (heights_of k g.heights).darker)
      × (bound (log2_of k g.call.lw) (settings_of k g.call).qp ≤ (heights_of k g.heights).lighter)

  priced : Reaching → EarlyPassed g.call → runs k g.call ≡ true
      → Unfit (guard_of k g) (plain (quant_of k g.call))
      → 2 ^ 62 ≤ price_with (quant_of k g.call) (plain (quant_of k g.call))
  unfolding guard_of
  priced reach early run unfit =
      let x = extremes_with (guard_of k g) (plain (quant_of k g.call)) in
      let w = within early run in
      ⊎_elim (λ (p : 2 ^ 62 ≤ price_with (quant_of k g.call) (plain (quant_of k g.call))). p)
      (λ u.
      absurd
      (⊎_elim
      (λ (d : (heights_of k g.heights).darker < x.darker). let no : ⊥ = omega (arith, reach.0, w.0) in no)
      (λ (d : (heights_of k g.heights).lighter < x.lighter). let no : ⊥ = omega (arith, reach.1, w.1) in no) u))
      unfit

  only_for_the_price : Reaching → guarded_verdict g ≡ refused 15 (component_of k)
      → 2 ^ 62 ≤ price_with (quant_of k g.call) (plain (quant_of k g.call))
  only_for_the_price reach e =
      let u = refused_with_15_only_if g (component_of k) e in
      let same : u.of ≡ k = component_tells u.of k u.its_number in
      priced reach u.early (subst (λ (j : Component). runs j g.call ≡ true) same u.run)
      (subst (λ (j : Component). Unfit (guard_of j g) (plain (quant_of j g.call))) same u.plain_too)

-- of a call with one log2 side
module _ (buffer : List ℤ) (t : Costs) (q : Request) (h : Three Heights) (k : Component)
    (darker : bound (log2_of k q.log2_luma) (settings_of k (requested buffer t q)).qp ≤ (heights_of k h).darker)
    (lighter : bound (log2_of k q.log2_luma) (settings_of k (requested buffer t q)).qp ≤ (heights_of k h).lighter)
  where
    pub never_refused_for_a_height : guarded_verdict (guarded_request buffer t q h) ≡ refused 15 (component_of k)
        → 2 ^ 62 ≤ price_with (quant_of k (requested buffer t q)) (plain (quant_of k (requested buffer t q)))
    unfolding guarded_request requested document01
    never_refused_for_a_height e =
        only_for_the_price (guarded_request buffer t q h) refl refl refl k (darker, lighter) e
