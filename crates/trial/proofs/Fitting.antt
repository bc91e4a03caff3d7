-- Whether a candidate fits, test by test as code makes them: its price, then its two extremes.
use Rattle.std.proofs.Common.{◌≡◌, false, List, ℕ, ◌^◌, ◌≤◌, ◌<◌, arith, ap, ◌∙◌}
use Rattle.std.proofs.lemmas.Bool.Decides.{nat_tests}
use Rattle.std.specs.Prelude.{Some, None}
use lib.IntN.{ℤ}
use Rattle.tables.specs.Scales.{back}
use Rattle.price.specs.Price.{nonzeros, price}
use Rattle.weights.specs.Inner.Prices.{rule_by}
use Rattle.finished.specs.Inner.Finished.{held, places_of}
use Rattle.heights.specs.declared.Extremes.{Extremes}
use Rattle.heights.specs.Extremes.{extremes, within}
use Rattle.trial.specs.declared.Terms.{Terms}
use Rattle.trial.specs.Inner.Trial.{levels_by, price_by, extremes_by, fits_by, report_by, TriedAs}

module _ (t : Terms) (r B : List ℤ) (cs ms : List ℕ) where
  unfit : (after : List ℤ) → fits_by t r B cs ms ≡ false → TriedAs t r B cs ms after None
  unfit after e = record { answer = rw e; left = λ y. absurd cc }

  -- v is what code has of the price
  module _ (v : ℕ)
      (priced : v ≡ held (price (rule_by t.weights.prices t.weights.scale) ms (places_of t.weights.scale cs))) where
    pub too_dear : (after : List ℤ) → 2 ^ 62 ≤ v → TriedAs t r B cs ms after None
    unfolding fits_by price_by held
    too_dear after h = unfit after (grind (arith, nat_tests))

    -- after is what is left in the levels' room, o what is seen of it
    module _ (low : v < 2 ^ 62) (after : List ℤ) (left : after ≡ levels_by t.log2 B ms)
        (o : Extremes) (seen : o ≡ extremes back t.log2 t.qp r after) where
      price_low : (v ≡ price_by t cs ms) × (price_by t cs ms < 2 ^ 62)
      unfolding price_by held
      price_low = grind (arith, nat_tests)

      off_is : o ≡ extremes_by t r B ms
      unfolding extremes_by
      off_is = seen ∙ ap (extremes back t.log2 t.qp r) left

      pub too_dark : t.heights.darker < o.darker → TriedAs t r B cs ms after None
      unfolding fits_by within
      too_dark h = let p = price_low in let e = off_is in unfit after (grind (arith, nat_tests))

      pub too_light : t.heights.lighter < o.lighter → TriedAs t r B cs ms after None
      unfolding fits_by within
      too_light h = let p = price_low in let e = off_is in unfit after (grind (arith, nat_tests))

      pub all_fits : o.darker ≤ t.heights.darker → o.lighter ≤ t.heights.lighter → (n : ℕ) → n ≡ nonzeros ms
          → TriedAs t r B cs ms after (Some (record { count = n; price = v; darker = o.darker; lighter = o.lighter }))
      unfolding fits_by within report_by
      all_fits dark light n e =
          let p = price_low in
          let f = off_is in
          record { answer = grind (arith, nat_tests); left = λ y. left }
