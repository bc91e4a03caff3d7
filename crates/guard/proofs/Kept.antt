-- The first candidate of a block, which is what the mode writes: its price is below 2^62, so that it fits as soon as it
-- lies within the heights, and then it is what the block keeps.
use mathlib.Core.Path.{◌≡◌, sym, ap, ◌∙◌}
use mathlib.Core.Bool.{true, ◌&&◌}
use mathlib.Core.List.{List}
use Prim.Native.Nat.{◌+◌, ◌/◌, ◌^◌, ◌≤◌}
use native.Mathlib.Omega.{arith}
use borrow.Author.Tests.{lt-ltb}
use lib.Dec.{ltb}
use lib.ListN.{length}
use lib.IntN.{ℤ}
use Rattle.std.specs.Prelude.{Ok}
use Rattle.tables.specs.Scales.{back}
use Rattle.tables.proofs.Range.{scale_range}
use Rattle.transform.proofs.Bounds.{coefficients_long}
use Rattle.price.specs.declared.Costs.{Costs}
use Rattle.coding.specs.declared.Coded.{Coded}
use Rattle.coding.specs.declared.Coding.{Coding}
use Rattle.coding.specs.Block.{log2_of, called, scale_here, magnitudes, count_of, price_of, quantised}
use Rattle.coding.proofs.Accepted.{no_fault}
use Rattle.coding.proofs.Bounds.{price_below}
use Rattle.components.proofs.Blocks.{quantised_length}
use Rattle.heights.specs.declared.Extremes.{Extremes}
use Rattle.heights.specs.declared.Heights.{Heights}
use Rattle.heights.specs.Extremes.{extremes, within}
use Rattle.guarding.specs.declared.Guarded.{Guarded}
use Rattle.guarding.specs.Block.{Guard, levels_of, price_with, extremes_with, fits, reported, guarded_levels}
use Rattle.guarding.specs.Inner.Held.{guard_by, Guardable, guard_outcome, held_answer, Held}
use Rattle.guarding.proofs.Fits.{mode_fits, mode_written}
use Rattle.guard.specs.Inner.Part.{OfMode}

-- ---- a block whose first candidate fits
module _ (g : Guard) (first : fits g (magnitudes g.call) ≡ true) where
  first_levels : guarded_levels g ≡ quantised g.call
  unfolding guarded_levels quantised levels_of
  first_levels = ap (levels_of g.call) (mode_written g first)

  abbrev kept : Extremes → Guarded
  kept e = record { count = count_of g.call; price = price_of g.call; darker = e.darker; lighter = e.lighter }

  first_reported : reported g ≡ kept (extremes_with g (magnitudes g.call))
  unfolding reported count_of price_of price_with
  first_reported = rw (mode_written g first)

  first_answer : held_answer g ≡ guard_outcome (Ok (reported g))
  unfolding held_answer
  first_answer = rw (mode_fits g first)

  first_held : (before : List ℤ) → before ≡ quantised g.call → (a : Guarded) → a ≡ reported g
      → Held g before (Ok a)
  first_held before e a ea =
      record {
        answer = ap (λ (x : Guarded). guard_outcome (Ok x)) ea ∙ sym first_answer;
        left = λ b f. e ∙ sym first_levels;
      }

module _ {r : List ℤ} {t : Costs} {c : Coding} {h : Heights} {before shown : List ℤ}
    (given : Guardable r t c h before shown) where
  abbrev g : Guard
  g = guard_by r t c h

  -- ---- what is asked where the block is looked at
  pub qp_fine : c.settings.qp ≤ 63
  unfolding guard_by called
  qp_fine = (no_fault g.call given.accepts).qp

  pub as_long : length before ≡ length r
  unfolding guard_by called
  as_long =
      ap length given.levels
      ∙ quantised_length g.call
      ∙ coefficients_long r c.log2 c.log2
      ∙ sym given.long

  -- the room for what is shown may hold anything
  pub looked : (after : List ℤ) → length after ≡ length shown → Guardable r t c h before after
  looked after k =
      record {
        low = given.low;
        high = given.high;
        long = given.long;
        tame = given.tame;
        accepts = given.accepts;
        levels = given.levels;
        room = k ∙ given.room;
      }

  -- ---- what is found there
  price_fine : ltb (price_with g.call (magnitudes g.call)) (2 ^ 62) ≡ true
  unfolding price_with price_of scale_here guard_by called
  price_fine = lt-ltb (price_of g.call) (2 ^ 62)
      (price_below g.call given.accepts (scale_range c.settings.qp).0)

  module _ (e : Extremes) (found : e ≡ extremes back c.log2 c.settings.qp r before) where
    half_sum : (c.log2 + c.log2) / 2 ≡ c.log2
    half_sum = omega arith

    found_is : e ≡ extremes_with g (magnitudes g.call)
    unfolding extremes_with log2_of levels_of quantised guard_by called
    found_is =
        found
        ∙ (λ i. extremes back (sym half_sum i) c.settings.qp r (given.levels i))

    pub fits_within : fits g (magnitudes g.call) ≡ within e h
    unfolding fits guard_by
    fits_within = λ i. price_fine i && within (sym found_is i) h

    pub kept_within : (a : Coded) → OfMode g.call a → within e h ≡ true
        → Held g before (Ok (record {
          count = a.count;
          price = a.price;
          darker = e.darker;
          lighter = e.lighter;
        }))
    kept_within a of_mode low =
        let fit = fits_within ∙ low in
        first_held g fit before given.levels _
        ((λ i. record {
          count = of_mode.0 i;
          price = of_mode.1 i;
          darker = (found_is i).darker;
          lighter = (found_is i).lighter;
        })
        ∙ sym (first_reported g fit))
