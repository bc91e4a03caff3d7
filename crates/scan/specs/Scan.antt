-- The scan of a block w wide and h high: the diagonals x + y = 0, 1, 2, ..; odd ones run from large x to small, even
-- ones from small x to large. A block place is y·w + x.
use Rattle.std.specs.Prelude.{Bool, cond, List, [], ◌++◌, ℕ, zero, suc, ◌+◌, ◌-◌, ◌*◌, ◌%◌, ◌^◌, min, eqb, get_or}
use Rattle.integers.specs.Tests.{listed}
use Rattle.refusals.specs.Sides.{most_log2}

-- the places of the largest block, 32 wide and 32 high: scan places and block places are counts below it
abbrev pub most_places : ℕ
most_places = 4 ^ most_log2

-- x on the diagonal d runs from `low` to `high`, and has `count` values
unfoldable pub low : (h d : ℕ) → ℕ
low h d = d - (h - 1)

unfoldable pub high : (w d : ℕ) → ℕ
high w d = min d (w - 1)

unfoldable pub count : (w h d : ℕ) → ℕ
unfolding low high
count w h d = high w d + 1 - low h d

-- even diagonals run upwards in x
unfoldable pub upwards : ℕ → Bool
upwards d = eqb (d % 2) 0

-- the i-th x of the diagonal d
unfoldable pub x_at : (w h d i : ℕ) → ℕ
unfolding low high upwards
x_at w h d i = cond (upwards d) (low h d + i) (high w d - i)

-- the block place of column x on the diagonal d
unfoldable pub on_diagonal : (w d x : ℕ) → ℕ
on_diagonal w d x = (d - x) * w + x

unfoldable pub diagonal : (w h d : ℕ) → List ℕ
unfolding count x_at on_diagonal listed
diagonal w h d = listed (λ i. on_diagonal w d (x_at w h d i)) 0 (count w h d)

-- n diagonals from d on
unfoldable pub diagonals : (w h d n : ℕ) → List ℕ
unfolding diagonal
diagonals w h d zero = []
diagonals w h d (suc n) = diagonal w h d ++ diagonals w h (suc d) n

-- the block places in scan order
unfoldable pub scan : (w h : ℕ) → List ℕ
unfolding diagonals
scan w h = diagonals w h 0 (w + h - 1)

-- the block place of the scan place p
unfoldable pub scan_at : (w h p : ℕ) → ℕ
unfolding scan
scan_at w h p = get_or (scan w h) p 0

-- the scan of a square block of side 2^l
unfoldable pub square_scan : ℕ → List ℕ
unfolding scan
square_scan l = scan (2 ^ l) (2 ^ l)
