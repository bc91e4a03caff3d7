-- `page::Levels::of` judges each of the 64 levels.
use Rattle.std.proofs.Common.{◌≡◌, length}
use Rattle.integers.specs.Sum.{at}
use Rattle.integers.proofs.Fill.{Filled}
use Rattle.fates.specs.Fate.{fate_at}
use Rattle.fates.specs.declared.Fate.TheVariants.{Nothing}
use Rattle.page.proofs.block.Levels.of.Given as goal

abbrev pub invariant-loop-i : goal.invariant-loop-i
invariant-loop-i l =
    (64 ≡ length l.fates) × Filled Nothing l.fates (λ k. fate_at l.qp.qp (at l.coefficients k) (at l.levels k)) l.i
