-- A candidate by what code has of it: the coefficients of a square block by rows, their |c| in scan order, the prices
-- and the scale. What it costs, what it leaves, how far it is off and whether it fits are those of specs/Block.antt of
-- `guarding`, in these numbers.
use Rattle.std.specs.Prelude.{◌≡◌, Bool, true, cond, ◌&&◌, List, ℕ, ◌*◌, ◌^◌, ltb, ℤ, Option, Some, None}
use Rattle.tables.specs.Scales.{back}
use Rattle.scan.specs.Scan.{scan}
use Rattle.scan.specs.Order.{in_order, laid}
use Rattle.price.specs.Level.{nearest}
use Rattle.price.specs.Price.{nonzeros, price}
use Rattle.scaling.specs.declared.scale.Scale.{Scale}
use Rattle.weights.specs.Inner.Prices.{rule_by}
use Rattle.coding.specs.Block.{signs}
use Rattle.finished.specs.Inner.Finished.{places_of}
use Rattle.heights.specs.declared.Extremes.{Extremes}
use Rattle.heights.specs.Extremes.{extremes, within}
use Rattle.guarding.specs.declared.Guarded.{Guarded}
use Rattle.trial.specs.declared.Terms.{Terms}

-- m of a |c|
abbrev pub top_by : Scale → ℕ → ℕ
top_by g c = nearest g.shift (c * g.q)

-- the levels of magnitudes, of a block with log2 side l whose coefficients are B
unfoldable pub levels_by : (l : ℕ) (B : List ℤ) (ms : List ℕ) → List ℤ
unfolding laid scan signs
levels_by l B ms = laid (scan (2 ^ l) (2 ^ l)) (signs (in_order (2 ^ l) (2 ^ l) B) ms) B

-- ---- of magnitudes ms, by the |c| in scan order, the residuals and the coefficients
unfoldable pub price_by : Terms → (cs ms : List ℕ) → ℕ
unfolding price rule_by
price_by t cs ms = price (rule_by t.weights.prices t.weights.scale) ms (places_of t.weights.scale cs)

unfoldable pub extremes_by : Terms → (r B : List ℤ) (ms : List ℕ) → Extremes
unfolding extremes levels_by
extremes_by t r B ms = extremes back t.log2 t.qp r (levels_by t.log2 B ms)

unfoldable pub fits_by : Terms → (r B : List ℤ) (cs ms : List ℕ) → Bool
unfolding price_by within extremes_by
fits_by t r B cs ms = ltb (price_by t cs ms) (2 ^ 62) && within (extremes_by t r B ms) t.heights

unfoldable pub report_by : Terms → (r B : List ℤ) (cs ms : List ℕ) → Guarded
unfolding nonzeros price_by extremes_by
report_by t r B cs ms =
    let e = extremes_by t r B ms in
    record { count = nonzeros ms; price = price_by t cs ms; darker = e.darker; lighter = e.lighter }

-- the answer, and the levels where it fits
pub record TriedAs (t : Terms) (r B : List ℤ) (cs ms : List ℕ) (after : List ℤ) (o : Option Guarded) : Type 0 where
  pub answer : o ≡ cond (fits_by t r B cs ms) (Some (report_by t r B cs ms)) None
  pub left : fits_by t r B cs ms ≡ true → after ≡ levels_by t.log2 B ms
