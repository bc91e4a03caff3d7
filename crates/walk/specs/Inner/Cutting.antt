-- The totals that the walk begins with, and what its cut leaves.
use Rattle.std.specs.Prelude.{◌≡◌, cond, ◌&&◌, List, ℕ, ◌+◌, ◌*◌, ◌<◌, max, leb, ltb, length, get_or}
use Rattle.scan.specs.Scan.{scan_at}
use Rattle.weights.specs.declared.prices.Prices.{Prices}
use Rattle.step.specs.declared.Walk.{Walk}

-- the walk's first totals, where D is d
abbrev pub first_totals : Prices → ℕ → Walk
first_totals p d = record { base = d + p.coded; best = d + p.empty; cut = 0; prev = 1 }

-- 0 at the places from `cut` to `end`, and nothing else changed
pub record CutBehind (w h cut end : ℕ) (before after : List ℕ) : Type 0 where
  pub room : length after ≡ w * h
  pub levels : (k : ℕ) → k < w * h
      → get_or after (scan_at w h k) 0
      ≡ cond (leb cut k && ltb k (max cut end)) 0 (get_or before (scan_at w h k) 0)
