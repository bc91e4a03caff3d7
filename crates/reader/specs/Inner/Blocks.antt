-- What the functions that read symbols leave of a block.
use Rattle.std.specs.Prelude.{List, map, ℕ, ◌*◌, ℤ}
use Rattle.scan.specs.Scan.{scan}
use Rattle.scan.specs.Order.{laid}
use Rattle.runs.specs.Packing.{run_bits, unpacked}
use Rattle.runs.specs.Runs.{levels_of}

-- the levels that the list tells, over the block
unfoldable pub laid_over : (w h : ℕ) → List ℕ → List ℤ → List ℤ
unfolding laid scan levels_of unpacked
laid_over w h list block = laid (scan w h) (levels_of (w * h) (map (unpacked run_bits) list)) block
