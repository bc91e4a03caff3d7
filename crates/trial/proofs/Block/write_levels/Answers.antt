-- `trial::Block::write_levels` meets its contract: the magnitudes by rows, then with the signs of the coefficients.
use Rattle.std.proofs.Common.{List, length, arith, sym, ap, ◌∙◌}
use lib.IntN.{ℤ}
use Rattle.coding.specs.Block.{signs}
use Rattle.trial.proofs.Levels.{places_are, rows_small, rows_count, rows_levels}
use Rattle.trial.proofs.Block.write_levels.Goals as goal

pub put_signs-requires : goal.put_signs-requires
put_signs-requires c =
    let b = c.args.self in
    let w = b.whole in
    let p = c.spread.ensures in
    let long = ap length c.copy_from_slice.ensures.after
    ∙ places_are _ _ _ _ _ _ _ w (length b.coefs.now) (w.block ∙ sym w.samples) in (
      p.0 ∙ sym long,
      omega (arith, long, b.scan.scanned.few),
      rows_small _ _ _ _ _ _ _ w _ b.scan.scanned _ _ c.requires.magnitudes.0 p.0 p.1 c.requires.magnitudes.1,
    )

pub returns : goal.returns
returns c =
    let b = c.args.self in
    let p = c.spread.ensures in (
      c.put_signs.ensures.0
          ∙ ap (λ (x : List ℤ). signs x c.spread.new.rows) c.copy_from_slice.ensures.after
          ∙ rows_levels _ _ _ _ _ _ _ b.whole _ b.scan.scanned _ _ c.requires.magnitudes.0 p.0 p.1,
      c.put_signs.ensures.1 ∙ rows_count _ _ _ _ _ _ _ b.whole _ b.scan.scanned _ _ c.requires.magnitudes.0 p.0 p.1,
    )
