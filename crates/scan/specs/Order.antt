-- A block in scan order: what stands at its places, met one after the other, and values laid at them.
use Rattle.std.specs.Prelude.{List, [], ◌∷◌, map, ℕ, set, ℤ}
use Rattle.integers.specs.Sum.{at}
use Rattle.scan.specs.Scan.{scan}

-- the values of a block w wide and h high, at the front of a buffer by rows
abbrev pub in_order : (w h : ℕ) → List ℤ → List ℤ
in_order w h buffer = map (λ p. at buffer p) (scan w h)

-- the list with each of the values at its place
unfoldable pub laid : List ℕ → List ℤ → List ℤ → List ℤ
laid [] vs l = l
laid (p ∷ ps) [] l = l
laid (p ∷ ps) (v ∷ vs) l = laid ps vs (set l p v)
