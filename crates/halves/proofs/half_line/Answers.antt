-- `halves::half_line` meets its contract: a line without a large value is a small line.
use mathlib.Core.Path.{sym, ◌∙◌}
use native.Mathlib.Omega.{arith}
use Rattle.integers.proofs.Some.{none_above}
use Rattle.halves.proofs.half_line.Goals as goal

pub small_line-requires : goal.small_line-requires
small_line-requires c = (
  c.requires.0,
  c.requires.1,
  λ i h. none_above 1047552 c.args.x.now (sym c.large.ensures ∙ c.if-large.false) i (omega arith),
)
