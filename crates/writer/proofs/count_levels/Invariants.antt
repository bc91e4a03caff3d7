-- `writer::count_levels` meets its contract: a count in 16 bits has room for the places of a block.
use Rattle.std.proofs.Common.{◌≡◌, ◌+◌, ◌≤◌, drop}
use Rattle.integers.specs.Sum.{over, on_ℕ}
use Rattle.writer.proofs.Counted.{ones}
use Rattle.writer.proofs.count_levels.Given as goal

abbrev pub invariant-loop-level : goal.invariant-loop-level
invariant-loop-level l =
    (l.count + over on_ℕ ones (drop l.level-index l.block) ≡ over on_ℕ ones l.block) × (l.count ≤ l.level-index)
