-- `shown::residuals` meets its contract: the first i residuals are stored.
use Rattle.std.proofs.Common.{◌≡◌, length, get_or, pos}
use Rattle.integers.proofs.Fill.{Filled}
use Rattle.shown.specs.Shown.{residual_of}
use Rattle.shown.proofs.residuals.Given as goal

abbrev pub invariant-loop-i : goal.invariant-loop-i
invariant-loop-i l = (96 ≡ length l.block) × Filled (pos 0) l.block (λ j. residual_of (get_or l.seen j 0)) l.i
