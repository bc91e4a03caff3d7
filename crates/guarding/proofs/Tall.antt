-- Heights of 33791 and more change nothing: the guarded call then has the verdict of the call without heights, reports
-- the same counts and prices, and leaves the same buffer. No sample can be farther off than that, and the price of the
-- block that the mode writes is below 2^62 anyway: so the first candidate fits.
use mathlib.Core.Path.{◌≡◌, refl, sym, ap, subst, ◌∙◌}
use mathlib.Core.Bool.{Bool, true, false, cond, ◌&&◌}
use mathlib.Core.List.{List, ◌++◌}
use Prim.Native.Nat.{ℕ, ◌+◌, ◌^◌, ◌≤◌, ◌<◌}
use borrow.Author.Tests.{lt-ltb}
use lib.ListN.{drop}
use lib.IntN.{ℤ}
use Rattle.refusals.specs.declared.Component.{Component}
use Rattle.refusals.specs.declared.Component.TheVariants.{Y, U, «V»}
use Rattle.refusals.specs.Numbers.{component_of}
use Rattle.refusals.specs.Faults.{Outcome, accepted, passed, refused, verdict}
use Rattle.refusals.proofs.First.{or_else}
use Rattle.tables.specs.Scales.{forward, scale_of}
use Rattle.tables.proofs.Range.{scale_range}
use Rattle.price.specs.declared.Costs.{Costs}
use Rattle.price.specs.Price.{nonzeros}
use Rattle.coding.specs.Block.{document01, scale_here, magnitudes, count_of, price_of, quantised}
use Rattle.coding.specs.Block as quant
use Rattle.coding.proofs.Bounds.{price_below}
use Rattle.components.specs.declared.Request.{Request}
use Rattle.components.specs.Call.{requested, runs, settings_of, area, start, stretch, quant_on, quant_of}
use Rattle.components.specs.Call.{sub_block_verdict, sub_block_buffer}
use Rattle.components.specs.Call as three
use Rattle.components.specs.Inner.Groups.{settings_faults, buffer_faults, EarlyPassed}
use Rattle.components.proofs.Late.{late_of, verdict_in_groups}
use Rattle.components.proofs.Accepted as passing
use Rattle.components.proofs.Answer as unguarded
use Rattle.heights.specs.Extremes.{within}
use Rattle.heights.proofs.Tall.{tall_enough}
use Rattle.refusals.specs.declared.Three.{Three}
use Rattle.heights.specs.declared.Heights.{Heights}
use Rattle.guarding.specs.declared.Guarded.{Guarded}
use Rattle.guarding.specs.Block.{none_fits, price_with, levels_of, extremes_with, fits, guarded, reported}
use Rattle.guarding.specs.Block.{guarded_levels}
use Rattle.guarding.specs.Call.{GuardedBlock, guarded_request, heights_of, guard_of, share, levels, guarded_verdict}
use Rattle.guarding.specs.Call.{guarded_buffer}
use Rattle.guarding.proofs.Late.{height_of, guarded_late, guarded_verdict_in_groups}
use Rattle.guarding.proofs.Fits.{mode_fits, mode_written}
use Rattle.guarding.proofs.Accepted.{block_accepted}
use Rattle.guarding.proofs.Answer.{share_run, levels_run, levels_not_run, buffer_whole, refused_leaves}

-- the second of two verdicts adds nothing
adds_nothing : (x y : Outcome Unit) → (x ≡ passed → y ≡ passed) → or_else x y ≡ x
adds_nothing (accepted u) y h = h refl
adds_nothing (refused n c) y h = refl

behind_both : (a b x y : Outcome Unit) → (a ≡ passed → b ≡ passed → x ≡ y)
    → or_else a (or_else b x) ≡ or_else a (or_else b y)
behind_both (accepted u) (accepted w) x y h = h refl refl
behind_both (accepted u) (refused n c) x y h = refl
behind_both (refused n c) b x y h = refl

abbrev pub AllTall : Three Heights → Type 0
AllTall h = (k : Component) → (33791 ≤ (heights_of k h).darker) × (33791 ≤ (heights_of k h).lighter)

module _ (g : GuardedBlock) (scales : g.call.fixed.scales ≡ forward) (tall : AllTall g.heights) where
  scale_low : (k : Component) → 14564 ≤ scale_here (quant_of k g.call)
  unfolding scale_here quant_of quant_on
  scale_low k =
      subst (λ (l : List ℕ). 14564 ≤ scale_of l (settings_of k g.call).qp) (sym scales)
      (scale_range (settings_of k g.call).qp).0

  -- ---- the block that the mode writes fits
  module _ (early : EarlyPassed g.call) (k : Component) (run : runs k g.call ≡ true)
      (late : late_of k g.call ≡ passed) where
    price_low : price_with (guard_of k g).call (magnitudes (guard_of k g).call) < 2 ^ 62
    unfolding price_with price_of guard_of
    price_low = price_below (quant_of k g.call) (block_accepted g early k run late) (scale_low k)

    near : within (extremes_with (guard_of k g) (magnitudes (guard_of k g).call)) (guard_of k g).heights ≡ true
    unfolding extremes_with guard_of
    near =
        let c = quant_of k g.call in
        tall_enough g.row (quant.log2_of c) c.settings.qp (stretch k g.call) (levels_of c (magnitudes c))
        (passing.residuals_tame g.call early.buffer k run) (heights_of k g.heights) (tall k).0 (tall k).1

    mode_fits_here : fits (guard_of k g) (magnitudes (guard_of k g).call) ≡ true
    unfolding fits
    mode_fits_here =
        rw (
          lt-ltb (price_with (guard_of k g).call (magnitudes (guard_of k g).call)) (2 ^ 62) price_low,
          near,
        )

    one_fits : none_fits (guard_of k g) ≡ false
    one_fits = mode_fits (guard_of k g) mode_fits_here

    written : guarded (guard_of k g) ≡ magnitudes (quant_of k g.call)
    unfolding guard_of
    written = mode_written (guard_of k g) mode_fits_here

  -- ---- the verdict
  height_passed : EarlyPassed g.call → (k : Component) → late_of k g.call ≡ passed → height_of k g ≡ passed
  height_passed early k late = by (runs k g.call) (λ run. one_fits early k run late)
    where
      by : (t : Bool) → (t ≡ true → none_fits (guard_of k g) ≡ false)
          → cond (t && none_fits (guard_of k g)) (refused 15 (component_of k)) passed ≡ passed
      by true h = let e = h refl in rw e
      by false h = refl

  late_same : EarlyPassed g.call → (k : Component) → guarded_late k g ≡ late_of k g.call
  late_same early k = adds_nothing (late_of k g.call) (height_of k g) (height_passed early k)

  same_verdict : guarded_verdict g ≡ sub_block_verdict g.call
  same_verdict =
      let s = g.call in
      guarded_verdict_in_groups g
      ∙ behind_both (verdict settings_faults s) (verdict buffer_faults s)
      (or_else (guarded_late Y g) (or_else (guarded_late U g) (guarded_late «V» g)))
      (or_else (late_of Y s) (or_else (late_of U s) (late_of «V» s)))
      (λ a b.
      let early : EarlyPassed s = record { settings = a; buffer = b } in
      ap (λ (o : Outcome Unit). or_else o (or_else (guarded_late U g) (guarded_late «V» g))) (late_same early Y)
      ∙ ap (λ (o : Outcome Unit). or_else (late_of Y s) (or_else o (guarded_late «V» g))) (late_same early U)
      ∙ ap (λ (o : Outcome Unit). or_else (late_of Y s) (or_else (late_of U s) o)) (late_same early «V»))
      ∙ sym (verdict_in_groups s)

  -- ---- an accepted call's shares and levels
  module _ (ok : sub_block_verdict g.call ≡ passed) (k : Component) where
    written_here : runs k g.call ≡ true → guarded (guard_of k g) ≡ magnitudes (quant_of k g.call)
    written_here run =
        written (passing.early_passed g.call ok) k run (passing.late_passed g.call ok k)

    count_run : runs k g.call ≡ true → (share k g).count ≡ three.count k g.call
    unfolding three.count reported count_of
    count_run e = rw e (ap (λ (a : Guarded). a.count) (share_run g k e) ∙ ap nonzeros (written_here e))

    count_idle : runs k g.call ≡ false → (share k g).count ≡ three.count k g.call
    unfolding three.count share
    count_idle e = rw e

    same_count : (share k g).count ≡ three.count k g.call
    same_count = by (runs k g.call) refl
      where
        by : (t : Bool) → runs k g.call ≡ t → (share k g).count ≡ three.count k g.call
        by true e = count_run e
        by false e = count_idle e

    price_run : runs k g.call ≡ true → (share k g).price ≡ three.price k g.call
    unfolding three.price reported price_of price_with guard_of
    price_run e =
        rw e
        (ap (λ (a : Guarded). a.price) (share_run g k e)
        ∙ ap (λ (ms : List ℕ). price_with (quant_of k g.call) ms) (written_here e))

    price_idle : runs k g.call ≡ false → (share k g).price ≡ three.price k g.call
    unfolding three.price share
    price_idle e = rw e

    same_price : (share k g).price ≡ three.price k g.call
    same_price = by (runs k g.call) refl
      where
        by : (t : Bool) → runs k g.call ≡ t → (share k g).price ≡ three.price k g.call
        by true e = price_run e
        by false e = price_idle e

    levels_same_run : runs k g.call ≡ true → levels k g ≡ three.levels k g.call
    unfolding guarded_levels levels_of quantised guard_of
    levels_same_run e =
        levels_run g k e
        ∙ ap (levels_of (quant_of k g.call)) (written_here e)
        ∙ sym (unguarded.levels_run g.call k e)

    same_levels : levels k g ≡ three.levels k g.call
    same_levels = by (runs k g.call) refl
      where
        by : (t : Bool) → runs k g.call ≡ t → levels k g ≡ three.levels k g.call
        by true e = levels_same_run e
        by false e = levels_not_run g k e ∙ sym (unguarded.levels_not_run g.call k e)

  same_buffer : guarded_buffer g ≡ sub_block_buffer g.call
  same_buffer = by (sub_block_verdict g.call) refl
    where
      by : (v : Outcome Unit) → sub_block_verdict g.call ≡ v → guarded_buffer g ≡ sub_block_buffer g.call
      by (accepted u) e =
          let s = g.call in
          let rest = drop (start «V» s + area «V» s) s.buffer in
          buffer_whole g (same_verdict ∙ e)
          ∙ ap (λ (l : List ℤ). l ++ (levels U g ++ (levels «V» g ++ rest))) (same_levels e Y)
          ∙ ap (λ (l : List ℤ). three.levels Y s ++ (l ++ (levels «V» g ++ rest))) (same_levels e U)
          ∙ ap (λ (l : List ℤ). three.levels Y s ++ (three.levels U s ++ (l ++ rest))) (same_levels e «V»)
          ∙ sym (unguarded.buffer_whole s e)
      by (refused n c) e = refused_leaves g n c (same_verdict ∙ e) ∙ sym (unguarded.refused_leaves g.call n c e)

-- of a call with one log2 side
module _ (buffer : List ℤ) (t : Costs) (q : Request) (h : Three Heights) (tall : AllTall h) where
  call_is : (guarded_request buffer t q h).call ≡ requested buffer t q
  unfolding guarded_request
  call_is = refl

  scales_are : (guarded_request buffer t q h).call.fixed.scales ≡ forward
  unfolding guarded_request requested document01
  scales_are = refl

  all_tall : AllTall (guarded_request buffer t q h).heights
  unfolding guarded_request
  all_tall = tall

  pub tall_heights_change_nothing :
      (guarded_verdict (guarded_request buffer t q h) ≡ sub_block_verdict (requested buffer t q))
      × (guarded_buffer (guarded_request buffer t q h) ≡ sub_block_buffer (requested buffer t q))
      × (sub_block_verdict (requested buffer t q) ≡ passed → (k : Component)
      → ((share k (guarded_request buffer t q h)).count ≡ (three.share k (requested buffer t q)).count)
      × ((share k (guarded_request buffer t q h)).price ≡ (three.share k (requested buffer t q)).price))
  unfolding guarded_request three.share
  tall_heights_change_nothing =
      let g = guarded_request buffer t q h in (
        same_verdict g scales_are all_tall,
        same_buffer g scales_are all_tall,
        λ ok k. (same_count g scales_are all_tall ok k, same_price g scales_are all_tall ok k),
      )
