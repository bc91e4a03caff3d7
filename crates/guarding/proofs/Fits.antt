-- What it says of a candidate that it fits, and that it does not; and what is written where one fits: a candidate, the
-- first that fits. Where none fits, the plainly rounded block does not, which is the last.
use mathlib.Core.Path.{◌≡◌, refl, sym, ap, subst, ◌∙◌}
use mathlib.Core.Logic.{◌⊎◌, inl, inr}
use mathlib.Core.Bool.{Bool, true, false, ◌&&◌}
use mathlib.Core.List.{List, []}
use Prim.Native.Nat.{ℕ, suc, ◌+◌, ◌^◌, ◌≤◌, ◌<◌}
use native.Mathlib.Omega.{arith}
use borrow.Author.Tests.{ltb-true, ltb-false, leb-false, not-true, not-false}
use lib.Dec.{ltb, leb}
use lib.ListN.{length, get_or}
use Rattle.integers.specs.Tests.{some}
use Rattle.integers.proofs.Lists.{none_passes}
use Rattle.integers.proofs.Tests.{both}
use Rattle.refusals.specs.Faults.{passed}
use Rattle.coding.specs.Block.{magnitudes}
use Rattle.coding.specs.Call.{quant_verdict}
use Rattle.heights.specs.Extremes.{within}
use Rattle.heights.proofs.Exact.{within_means}
use Rattle.guarding.specs.Block.{Guard, plain, candidates, price_with, extremes_with, fits, first_where, none_fits}
use Rattle.guarding.specs.Block.{guarded}
use Rattle.guarding.proofs.First.{FirstPlace, first_place, first_passes, head_first}
use Rattle.guarding.proofs.Candidates.{candidates_are, candidates_count, repairs, last_candidate}

-- ---- one candidate
pub record Fitting (g : Guard) (ms : List ℕ) : Type 0 where
  pub price : price_with g.call ms < 2 ^ 62
  pub darker : (extremes_with g ms).darker ≤ g.heights.darker
  pub lighter : (extremes_with g ms).lighter ≤ g.heights.lighter

abbrev pub Unfit : Guard → List ℕ → Type 0
Unfit g ms =
    (2 ^ 62 ≤ price_with g.call ms)
    ⊎ ((g.heights.darker < (extremes_with g ms).darker) ⊎ (g.heights.lighter < (extremes_with g ms).lighter))

module _ (g : Guard) (ms : List ℕ) where
  pub fitting : fits g ms ≡ true → Fitting g ms
  unfolding fits
  fitting e =
      let p = price_with g.call ms in
      let a = both (ltb p (2 ^ 62)) (within (extremes_with g ms) g.heights) e in
      let b = (within_means (extremes_with g ms) g.heights).0 a.1 in
      record { price = ltb-true p (2 ^ 62) a.0; darker = b.0; lighter = b.1 }

  pub unfit : fits g ms ≡ false → Unfit g ms
  unfolding fits within
  unfit e =
      let x = extremes_with g ms in
      by (ltb (price_with g.call ms) (2 ^ 62)) (leb x.darker g.heights.darker)
      (leb x.lighter g.heights.lighter) refl refl refl e
    where
      by : (p d l : Bool) → ltb (price_with g.call ms) (2 ^ 62) ≡ p
          → leb (extremes_with g ms).darker g.heights.darker ≡ d
          → leb (extremes_with g ms).lighter g.heights.lighter ≡ l → (p && (d && l)) ≡ false → Unfit g ms
      by false d l ep ed el e = inl (ltb-false (price_with g.call ms) (2 ^ 62) ep)
      by true false l ep ed el e = inr (inl (leb-false (extremes_with g ms).darker g.heights.darker ed))
      by true true false ep ed el e = inr (inr (leb-false (extremes_with g ms).lighter g.heights.lighter el))
      by true true true ep ed el e = cc

-- ---- one of them fits
module _ (g : Guard) (one : none_fits g ≡ false) where
  some_fits : some (fits g) (candidates g.call) ≡ true
  unfolding none_fits
  some_fits = not-false (some (fits g) (candidates g.call)) one

  pub written_fits : fits g (guarded g) ≡ true
  unfolding guarded
  written_fits = first_passes (fits g) [] (candidates g.call) some_fits

  -- the place of what is written among the candidates, before which none fits
  pub written_place : FirstPlace (fits g) [] (candidates g.call)
  written_place = first_place (fits g) [] (candidates g.call) some_fits

  pub written_is : guarded g ≡ get_or (candidates g.call) written_place.0 []
  unfolding guarded
  written_is = sym written_place.2

  -- what holds of each candidate holds of what is written
  pub of_written : (P : List ℕ → Type 0)
      → ((n : ℕ) → n < length (candidates g.call) → P (get_or (candidates g.call) n [])) → P (guarded g)
  of_written P h = subst P (sym written_is) (h written_place.0 written_place.1)

-- ---- the mode's block fits
module _ (g : Guard) (fit : fits g (magnitudes g.call) ≡ true) where
  pub mode_fits : none_fits g ≡ false
  unfolding none_fits candidates some
  mode_fits = rw fit

  pub mode_written : guarded g ≡ magnitudes g.call
  unfolding guarded
  mode_written =
      ap (first_where (fits g) []) (candidates_are g.call)
      ∙ head_first (fits g) [] (magnitudes g.call) (repairs g.call) fit

-- ---- none of them fits
pub plain_unfit : (g : Guard) → quant_verdict g.call ≡ passed → none_fits g ≡ true → Unfit g (plain g.call)
unfolding none_fits
plain_unfit g ok none =
    let c = g.call in
    unfit g (plain c)
    (ap (fits g) (sym (last_candidate c ok))
    ∙ none_passes [] (fits g) (candidates c) (not-true (some (fits g) (candidates c)) none) (suc (c.lw + c.lh))
    (omega (arith, candidates_count c)))
