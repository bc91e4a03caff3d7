-- `transform::has_wild` meets its contract: it has been looked for among the first samples.
use mathlib.Core.Path.{◌≡◌}
use lib.ListN.{take}
use Rattle.integers.specs.Tests.{some}
use Rattle.transform.specs.Call.{wild}
use Rattle.transform.proofs.has_wild.Given as goal

abbrev pub invariant-loop-v : goal.invariant-loop-v
invariant-loop-v l = l.found ≡ some wild (take l.v-index l.block)
