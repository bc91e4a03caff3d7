-- A picture of up to 256 by 256 samples, by rows, and its blocks of 8 by 8, counted along the rows; places of a block
-- are counted so too.
use Rattle.std.specs.Prelude.{◌≡◌, Bool, true, false, cond, List, ℕ, ◌+◌, ◌-◌, ◌*◌, ◌/◌, ◌%◌, ◌<◌, min, ltb, get_or}
use Rattle.picture.specs.declared.sides.Size.{Size}

-- how many blocks stand beside and below each other
abbrev pub across_of : Size → ℕ
across_of size = (size.width + 7) / 8

abbrev pub down_of : Size → ℕ
down_of size = (size.height + 7) / 8

-- row and column of place i of a block, which may lie behind the picture's last
abbrev pub row_of : Size → (block i : ℕ) → ℕ
row_of size block i = block / across_of size * 8 + i / 8

abbrev pub column_of : Size → (block i : ℕ) → ℕ
column_of size block i = block % across_of size * 8 + i % 8

unfoldable pub inside_of : Size → (block i : ℕ) → Bool
inside_of size block i =
    cond (ltb (row_of size block i) size.height) (cond (ltb (column_of size block i) size.width) true false) false

-- where its sample stands, or the nearest one of the last row and the last column
unfoldable pub place_of : Size → (block i : ℕ) → ℕ
place_of size block i =
    min (row_of size block i) (size.height - 1) * size.width + min (column_of size block i) (size.width - 1)

abbrev pub Taken : List ℕ → Size → ℕ → List ℕ → Type 0
Taken camera size block samples = (i : ℕ) → i < 64 → get_or samples i 0 ≡ get_or camera (place_of size block i) 0

-- a block is kept behind those before it, which stay
pub record Kept (before : List ℕ) (block : ℕ) (samples after : List ℕ) : Type 0 where
  pub here : (i : ℕ) → i < 64 → get_or after (block * 64 + i) 0 ≡ get_or samples i 0
  pub others : (k : ℕ) → k < block * 64 → get_or after k 0 ≡ get_or before k 0

-- where the sample at place p of the picture is kept: its row and column by blocks, and in its block
unfoldable pub kept_of : Size → ℕ → ℕ
kept_of size p =
    (p / size.width / 8 * across_of size + p % size.width / 8) * 64 + p / size.width % 8 * 8 + p % size.width % 8

abbrev pub ByRows : List ℕ → Size → List ℕ → Type 0
ByRows kept size shown = (p : ℕ) → p < size.height * size.width → get_or shown p 0 ≡ get_or kept (kept_of size p) 0
