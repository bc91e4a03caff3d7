-- A column of a grid that is laid out by rows: what a store down it leaves there and beside it.
use Rattle.std.specs.Prelude.{◌≡◌, ◌≢◌, List, ℕ, ◌+◌, ◌*◌, ◌<◌, get_or, ℤ, pos}

-- n entries of f down column c of a grid w wide; what stands in other columns is kept. d is read past a list's end
pub record PlacedOf {A : Type 0} (d : A) (w c n : ℕ) (f : ℕ → A) (old new : List A) : Type 0 where
  pub holds : (k : ℕ) → k < n → get_or new (k * w + c) d ≡ f k
  pub kept : (k e : ℕ) → e < w → e ≢ c → get_or new (k * w + e) d ≡ get_or old (k * w + e) d

-- n numbers of f
abbrev pub Placed : (w c n : ℕ) (f : ℕ → ℤ) (old new : List ℤ) → Type 0
Placed w c n f old new = PlacedOf (pos 0) w c n f old new
