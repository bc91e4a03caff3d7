-- The rows that a component reads stand inside the cost tables: the invariant of the contexts that code holds.
use Rattle.std.specs.Prelude.{ℕ, ◌≤◌}

-- of run, level, last and cbf; a run and a level context have a next one
pub record InsideTables (r v l c : ℕ) : Type 0 where
  pub run : r ≤ 2
  pub level : v ≤ 2
  pub last : l ≤ 1
  pub cbf : c ≤ 3
