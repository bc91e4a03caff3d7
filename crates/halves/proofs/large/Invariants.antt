-- `halves::large` meets its contract: it has been looked for among the first values.
use mathlib.Core.Path.{◌≡◌}
use lib.ListN.{take}
use Rattle.integers.specs.Tests.{some}
use Rattle.halves.specs.Inner.Halves.{beyond}
use Rattle.halves.proofs.large.Given as goal

abbrev pub invariant-loop-v : goal.invariant-loop-v
invariant-loop-v l = l.found ≡ some (beyond 1047552) (take l.v-index l.line)
