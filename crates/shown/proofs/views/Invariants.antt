-- `shown::views` meets its contract: the first i samples are stored.
use Rattle.std.proofs.Common.{◌≡◌, length}
use Rattle.integers.specs.Sum.{at}
use Rattle.integers.proofs.Fill.{Filled}
use Rattle.shown.specs.Shown.{viewed_of}
use Rattle.shown.proofs.views.Given as goal

abbrev pub invariant-loop-i : goal.invariant-loop-i
invariant-loop-i l = (64 ≡ length l.view) × Filled 0 l.view (λ j. viewed_of (at l.block j)) l.i
