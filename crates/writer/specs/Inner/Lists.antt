-- What the functions that write symbols ask of a block, and what they leave of a list.
use Rattle.std.specs.Prelude.{List, ◌++◌, map, ℕ, ◌≤◌, drop, ℤ, nat_abs}
use Rattle.integers.specs.Sum.{at}
use Rattle.scan.specs.Scan.{scan}
use Rattle.scan.specs.Order.{in_order}
use Rattle.runs.specs.Packing.{run_bits, packed}
use Rattle.runs.specs.Runs.{symbols_of}

-- no level is -32768
abbrev pub Writable : List ℤ → Type 0
Writable block = (k : ℕ) → nat_abs (at block k) ≤ 32767

-- the block's symbols over the front of the list
unfoldable pub written_over : (w h : ℕ) → List ℤ → List ℕ → (count : ℕ) → List ℕ
unfolding packed symbols_of scan
written_over w h block list count = map (packed run_bits) (symbols_of (in_order w h block)) ++ drop count list
