-- `finished::add` meets its contract.
use mathlib.Core.Path.{◌∙◌}
use native.Mathlib.Omega.{arith}
use Rattle.finished.proofs.Holding.{held_min}
use Rattle.finished.proofs.add.Goals as goal

pub returns : goal.returns
returns c = (c.min.ensures ∙ held_min _, omega (arith, c.min.ensures))
