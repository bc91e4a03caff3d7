-- The places of a block w wide and h high whose magnitudes are kept by rows, and levels that stand by rows for
-- magnitudes in scan order.
use Rattle.std.specs.Prelude.{◌≡◌, List, map, ℕ, ◌*◌, ◌≤◌, ◌<◌, length, get_or, drop}
use Rattle.scan.specs.Scan.{scan, scan_at}
use Rattle.price.specs.Level.{nearest}
use Rattle.price.specs.Price.{nonzeros}
use Rattle.scaling.specs.declared.scale.Scale.{Scale}
use Rattle.weights.specs.declared.prices.Prices.{Prices}
use Rattle.weights.specs.Inner.Prices.{Fine}

-- what is kept for scan place n, all of it in scan order, and how much of it from place n on
abbrev pub kept_at : (w h : ℕ) → List ℕ → ℕ → ℕ
kept_at w h kept n = get_or kept (scan_at w h n) 0

abbrev pub in_scan : (w h : ℕ) → List ℕ → List ℕ
in_scan w h kept = map (λ p. get_or kept p 0) (scan w h)

abbrev pub kept_from : (w h : ℕ) → List ℕ → ℕ → ℕ
kept_from w h kept n = nonzeros (drop n (in_scan w h kept))

-- the places, of magnitudes that are kept by rows
abbrev pub kept_places : Scale → (w h : ℕ) → List ℕ → List ℕ
kept_places g w h kept = map (λ p. get_or kept p 0 * g.q) (scan w h)

-- magnitudes that can be weighed: what refusals 7 and 8 leave, and nothing is kept whose m is 0
pub record Weighable (p : Prices) (g : Scale) (w h : ℕ) (kept : List ℕ) : Type 0 where
  pub room : length kept ≡ w * h
  pub fine : (k : ℕ) → Fine p g (get_or kept k 0 * g.q)
  pub some : (k : ℕ) → 1 ≤ get_or kept k 0 → 1 ≤ nearest g.shift (get_or kept k 0 * g.q)

-- magnitudes by rows that are those of ls in scan order
abbrev pub Standing : (w h : ℕ) → List ℕ → List ℕ → Type 0
Standing w h magnitudes ls = (k : ℕ) → k < w * h → get_or magnitudes (scan_at w h k) 0 ≡ get_or ls k 0

-- every one is 0
abbrev pub Cleared : List ℕ → Type 0
Cleared magnitudes = (k : ℕ) → get_or magnitudes k 0 ≡ 0
