-- `page::Levels::tally` counts the fate of each of the 64 levels.
use Rattle.std.proofs.Common.{◌≡◌, ℕ, List, ℤ}
use Rattle.integers.specs.Sum.{at}
use Rattle.fates.specs.Fate.{fate_at, tally_of}
use Rattle.fates.specs.declared.Fate.{Fate}
use Rattle.page.proofs.block.Levels.tally.Given as goal

-- the fates of a block, by places
abbrev pub fates : ℕ → List ℤ → List ℤ → ℕ → Fate
fates qp coefficients levels k = fate_at qp (at coefficients k) (at levels k)

abbrev pub invariant-loop-i : goal.invariant-loop-i
invariant-loop-i l = l.tally ≡ tally_of (fates l.self.qp.qp l.self.coefficients l.self.levels) l.i
