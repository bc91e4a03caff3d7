-- What an accepted guarded call promises of each component that is run, over the buffer that it leaves: no sample that
-- a viewer decodes of it lies farther from the residual than the extremes reported, and these are within the host's
-- heights; count, price and extremes reported are those of the levels left; each level is 0, or m or m - 1 with its
-- coefficient's sign.
use mathlib.Core.Path.{◌≡◌, refl, sym, ap, ◌∙◌}
use mathlib.Core.Logic.{◌⊎◌}
use mathlib.Core.Bool.{true}
use mathlib.Core.List.{List}
use Prim.Native.Nat.{ℕ, suc, ◌*◌, ◌^◌, ◌≤◌, ◌<◌}
use native.Mathlib.Omega.{arith}
use lib.ListN.{length, get_or}
use lib.Signed.{non_neg, ◌≤ℤ◌}
use lib.IntN.{ℤ, pos, nat_abs, ◌-ℤ◌}
use Rattle.integers.specs.Sum.{at}
use Rattle.scan.specs.Order.{laid}
use Rattle.refusals.specs.declared.Component.{Component}
use Rattle.refusals.specs.Faults.{passed}
use Rattle.price.specs.declared.Costs.{Costs}
use Rattle.price.specs.Rule.{Allowed}
use Rattle.price.specs.Price.{nonzeros, price}
use Rattle.coding.specs.Block.{Quant, rule_of, block_places, scanned, places, signs}
use Rattle.coding.specs.Block as quant
use Rattle.coding.specs.Call.{quant_verdict}
use Rattle.coding.proofs.Promises.{place_of, rounded, magnitudes_in, laid_level_allowed, laid_read_back}
use Rattle.components.specs.declared.Request.{Request}
use Rattle.components.specs.Call.{requested, runs, settings_of, log2_of, area, stretch, quant_on, quant_of}
use Rattle.heights.specs.declared.Extremes.{Extremes}
use Rattle.heights.specs.Extremes.{decoded, darker, lighter, extremes}
use Rattle.heights.proofs.Exact.{none_darker, none_lighter}
use Rattle.heights.proofs.Shown.{difference_at_most}
use Rattle.refusals.specs.declared.Three.{Three}
use Rattle.heights.specs.declared.Heights.{Heights}
use Rattle.guarding.specs.declared.Guarded.{Guarded}
use Rattle.guarding.specs.Block.{price_with, levels_of, extremes_with, guarded, reported, guarded_levels}
use Rattle.guarding.specs.Call.{GuardedBlock, guarded_request, heights_of, guard_of, share, guarded_verdict}
use Rattle.guarding.proofs.Candidates.{candidate_length, candidate_allowed}
use Rattle.guarding.proofs.Fits.{Fitting, fitting, of_written}
use Rattle.guarding.proofs.Accepted.{quantiser_accepts, one_fits, written_fits}
use Rattle.guarding.proofs.Answer.{left_in, left_is, share_run, levels_run}

-- a call with one log2 side is square
pub request_square : (buffer : List ℤ) (t : Costs) (q : Request) (h : Three Heights)
    → (guarded_request buffer t q h).call.lw ≡ (guarded_request buffer t q h).call.lh
unfolding guarded_request requested
request_square buffer t q h = refl

-- what a viewer decodes of what stands in a component's stretch after the call
abbrev pub viewed : Component → GuardedBlock → List ℤ
viewed k g = decoded g.row (log2_of k g.call.lw) (settings_of k g.call).qp (left_in k g)

module _ (g : GuardedBlock) (ok : guarded_verdict g ≡ passed) (k : Component) (run : runs k g.call ≡ true) where
  -- the quantiser's call on the component's coefficients, and the magnitudes written
  abbrev c : Quant
  c = quant_of k g.call

  abbrev ms : List ℕ
  ms = guarded (guard_of k g)

  accepts : quant_verdict c ≡ passed
  unfolding guard_of
  accepts = quantiser_accepts g ok k run

  area_is : quant.area c ≡ area k g.call
  unfolding quant.area area quant_of quant_on
  area_is = refl

  full : length ms ≡ quant.area c
  unfolding guard_of
  full = of_written (guard_of k g) (one_fits g ok k run) (λ (l : List ℕ). length l ≡ quant.area c)
      (candidate_length c accepts)

  left_laid : left_in k g ≡ laid (block_places c) (signs (scanned c) ms) c.buffer
  unfolding guarded_levels levels_of guard_of
  left_laid = left_is g ok k ∙ levels_run g k run

  read_back_lem : magnitudes_in c (left_in k g) ≡ ms
  read_back_lem = ap (magnitudes_in c) left_laid ∙ laid_read_back c accepts ms full

  fit : Fitting (guard_of k g) ms
  fit = fitting (guard_of k g) ms (written_fits g ok k run)

  share_is : share k g ≡ reported (guard_of k g)
  share_is = share_run g k run

  -- ---- count, price and levels
  price_is : (share k g).price ≡ price_with c ms
  unfolding reported guard_of
  price_is = ap (λ (a : Guarded). a.price) share_is

  pub price_below_2^62 : (share k g).price < 2 ^ 62
  unfolding guard_of
  price_below_2^62 = omega (arith, price_is, fit.price)

  pub count_and_price_are_the_block's :
      ((share k g).count ≡ nonzeros (magnitudes_in (quant_of k g.call) (left_in k g)))
      × ((share k g).price
      ≡ price (rule_of (quant_of k g.call)) (magnitudes_in (quant_of k g.call) (left_in k g))
      (places (quant_of k g.call)))
  unfolding reported price_with
  count_and_price_are_the_block's = (
    ap (λ (a : Guarded). a.count) share_is ∙ ap nonzeros (sym read_back_lem),
    price_is ∙ ap (λ (l : List ℕ). price (rule_of c) l (places c)) (sym read_back_lem),
  )

  pub guarded_level_zero_or_signed_m_or_m-1 : (p : ℕ) → p < area k g.call
      → (let v = at (left_in k g) (place_of (quant_of k g.call) p) in
      (v ≡ pos 0) ⊎ ((non_neg v ≡ non_neg (at (quant_of k g.call).buffer (place_of (quant_of k g.call) p)))
      × ((nat_abs v ≡ rounded (quant_of k g.call) p) ⊎ (suc (nat_abs v) ≡ rounded (quant_of k g.call) p))))
  unfolding guard_of
  guarded_level_zero_or_signed_m_or_m-1 p h =
      let inside : p < quant.area c = omega (arith, area_is) in
      rw left_laid
      (laid_level_allowed c accepts ms full p inside
      (of_written (guard_of k g) (one_fits g ok k run)
      (λ (l : List ℕ). Allowed ((rule_of c).top (get_or (places c) p 0)) (get_or l p 0))
      (λ n l. candidate_allowed c accepts n l p inside)))

  -- ---- samples
  extremes_reported : ((share k g).darker ≡ (extremes_with (guard_of k g) ms).darker)
      × ((share k g).lighter ≡ (extremes_with (guard_of k g) ms).lighter)
  unfolding reported
  extremes_reported = (ap (λ (a : Guarded). a.darker) share_is, ap (λ (a : Guarded). a.lighter) share_is)

  module _ (square : g.call.lw ≡ g.call.lh) where
    log2_is : quant.log2_of c ≡ log2_of k g.call.lw
    unfolding quant.log2_of quant_of quant_on
    log2_is = omega (arith, ap (log2_of k) square)

    area_square : area k g.call ≡ 2 ^ log2_of k g.call.lw * 2 ^ log2_of k g.call.lw
    unfolding area
    area_square = ap (λ (l : ℕ). 2 ^ log2_of k g.call.lw * 2 ^ log2_of k l) (sym square)

    extremes_left : extremes_with (guard_of k g) ms
        ≡ extremes g.row (log2_of k g.call.lw) (settings_of k g.call).qp (stretch k g.call) (left_in k g)
    unfolding extremes_with guard_of levels_of quant_of quant_on
    extremes_left =
        ap (λ (l : ℕ). extremes g.row l (settings_of k g.call).qp (stretch k g.call) (levels_of c ms)) log2_is
        ∙ ap (extremes g.row (log2_of k g.call.lw) (settings_of k g.call).qp (stretch k g.call))
        (sym left_laid)

    -- the extremes reported are those of the levels left
    pub extremes_are_the_block's :
        ((share k g).darker ≡ darker (area k g.call) (stretch k g.call) (viewed k g))
        × ((share k g).lighter ≡ lighter (area k g.call) (stretch k g.call) (viewed k g))
    unfolding extremes
    extremes_are_the_block's =
        let r = stretch k g.call in (
          extremes_reported.0
              ∙ ap (λ (e : Extremes). e.darker) extremes_left
              ∙ ap (λ (n : ℕ). darker n r (viewed k g)) (sym area_square),
          extremes_reported.1
              ∙ ap (λ (e : Extremes). e.lighter) extremes_left
              ∙ ap (λ (n : ℕ). lighter n r (viewed k g)) (sym area_square),
        )

    -- r - r' and r' - r are at most the extremes reported, and these at most the host's heights
    pub sample_within_heights : (i : ℕ) → i < area k g.call
        → ((at (stretch k g.call) i -ℤ at (viewed k g) i) ≤ℤ pos (share k g).darker)
        × ((at (viewed k g) i -ℤ at (stretch k g.call) i) ≤ℤ pos (share k g).lighter)
        × ((share k g).darker ≤ (heights_of k g.heights).darker)
        × ((share k g).lighter ≤ (heights_of k g.heights).lighter)
    unfolding guard_of
    sample_within_heights i h =
        let n = area k g.call in
        let r = stretch k g.call in
        let e = extremes_are_the_block's in (
          difference_at_most (at r i) (at (viewed k g) i) (share k g).darker
              (omega (arith, e.0, none_darker n r (viewed k g) i h)),
          difference_at_most (at (viewed k g) i) (at r i) (share k g).lighter
              (omega (arith, e.1, none_lighter n r (viewed k g) i h)),
          omega (arith, extremes_reported.0, fit.darker),
          omega (arith, extremes_reported.1, fit.lighter),
        )
