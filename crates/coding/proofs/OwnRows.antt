-- What a block is coded to depends on the cost tables only through the rows of its component: calls that differ in
-- nothing but the other rows have the same count, price and levels. The three-component call needs it to show that luma
-- depends on no chroma cost.
use mathlib.Core.Path.{◌≡◌, refl}
use mathlib.Core.Bool.{Bool}
use mathlib.Core.List.{List}
use Prim.Native.Nat.{ℕ, zero, suc, ◌+◌, ◌*◌}
use Rattle.price.specs.declared.Costs.{Costs}
use Rattle.price.specs.Costs.{Rows, entry, run_row, rate}
use Rattle.coding.specs.Block.{Quant, scale_here, shift_here, log2_of, lambda_here, rows_here, rule_of, block_places}
use Rattle.coding.specs.Block.{scanned, places, is_skipped, magnitudes, count_of, price_of, quantised}

-- the pair of a row is the same
abbrev pub SamePair : List ℕ → List ℕ → ℕ → Type 0
SamePair a b row = (entry a row 0 ≡ entry b row 0) × (entry a row 1 ≡ entry b row 1)

pub record SameRows (rows : Rows) (a b : Costs) : Type 0 where
  pub run : (after_zero : Bool) → SamePair a.run b.run (run_row rows after_zero)
  pub level : SamePair a.level b.level rows.level
  pub further : SamePair a.level b.level (rows.level + 1)
  pub last : SamePair a.last b.last rows.last
  pub cbf : SamePair a.cbf b.cbf rows.cbf

rate_same : (sign : ℕ) (rows : Rows) (a b : Costs) → SameRows rows a b → (z : Bool) (n : ℕ)
    → rate sign a rows z n ≡ rate sign b rows z n
unfolding rate
rate_same sign rows a b same z zero = (same.run z).1
rate_same sign rows a b same z (suc zero) = rw ((same.run z).0, same.level.0)
rate_same sign rows a b same z (suc (suc n)) = rw ((same.run z).0, same.level.1, same.further.0, same.further.1)

-- the call with other cost tables
abbrev pub with_costs : Quant → Costs → Quant
with_costs c t = record c { costs = t }

module _ (c : Quant) (a b : Costs) (same : SameRows (rows_here c) a b) where
  abbrev by : Costs → Quant
  by t = with_costs c t

  rule_same : rule_of (by a) ≡ rule_of (by b)
  unfolding rule_of rows_here scale_here shift_here log2_of lambda_here
  rule_same = λ i. record {
    top = (rule_of (by a)).top;
    dist = (rule_of (by a)).dist;
    rate = λ z n. lambda_here (by a) * rate_same c.fixed.sign (rows_here c) a b same z n i;
    coded = lambda_here (by a) * same.cbf.1 i;
    empty = lambda_here (by a) * same.cbf.0 i;
    more = lambda_here (by a) * same.last.0 i;
    last = lambda_here (by a) * same.last.1 i;
  }

  places_same : places (by a) ≡ places (by b)
  unfolding places scanned block_places scale_here
  places_same = refl

  skipped_same : is_skipped (by a) ≡ is_skipped (by b)
  unfolding is_skipped shift_here log2_of places scanned block_places scale_here
  skipped_same = refl

  magnitudes_same : magnitudes (by a) ≡ magnitudes (by b)
  unfolding magnitudes
  magnitudes_same = rw (rule_same, skipped_same, places_same)

  pub count_same : count_of (by a) ≡ count_of (by b)
  unfolding count_of
  count_same = rw magnitudes_same

  pub price_same : price_of (by a) ≡ price_of (by b)
  unfolding price_of
  price_same = rw (magnitudes_same, rule_same, places_same)

  pub levels_same : quantised (by a) ≡ quantised (by b)
  unfolding quantised scanned block_places
  levels_same = rw magnitudes_same
