-- `page::Levels::of` judges each of the 64 levels.
use Rattle.std.proofs.Common.{ℕ, rules, arith}
use Rattle.integers.specs.Sum.{at}
use Rattle.integers.proofs.Fill.{filled_more}
use Rattle.fates.specs.Fate.{fate_at}
use Rattle.fates.specs.declared.Fate.TheVariants.{Nothing}
use Rattle.page.proofs.block.Levels.of.Goals as goal

pub loop-i-preserved : goal.loop-i-preserved
loop-i-preserved c =
    let l = c.loop-i in
    let a = c.args in (
      search rules,
      filled_more Nothing l.fates (λ (k : ℕ). fate_at a.qp.qp (at a.coefficients k) (at a.levels k)) l.i _ (omega arith)
          (search rules) l.invariant.1,
    )
