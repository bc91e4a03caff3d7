-- `columns::store_row` meets its contract: the first k coefficients stand in their places.
use Rattle.std.proofs.Common.{arith, rules, refl, ◌∙◌, ap, length, ◌^◌}
use lib.IntN.{pos}
use Rattle.integers.specs.Sum.{at}
use Rattle.butterfly.specs.Inner.Lines.{place}
use Rattle.columns.proofs.Places.{table, place_at, place_inside}
use Rattle.columns.proofs.Placed.{placed_of_none, placed_more, place_below}
use Rattle.columns.proofs.store_row.Goals as goal

pub loop-k-init : goal.loop-k-init
unfolding table
loop-k-init c = (
  refl,
  placed_of_none (pos 0) c.args.width c.args.c (λ i. at c.args.row.now (place c.args.side.log2 i))
      c.args.dst.now,
)

pub bounds-row-p : goal.bounds-row-p
bounds-row-p c =
    let a = c.args in
    let l = c.loop-k in
    omega (
      arith,
      place_at a.side.log2 c.args.side.in_range.1 (length a.row.now) c.requires.0 l.k (omega arith) _ l.invariant.0,
      place_inside a.side.log2 c.args.side.in_range.1 (length a.row.now) c.requires.0 l.k (omega arith),
    )

pub loop-k-preserved : goal.loop-k-preserved
loop-k-preserved c =
    let a = c.args in
    let l = c.loop-k in
    let inside = place_below a.width a.c l.k (2 ^ a.side.log2) (length a.dst.now) c.requires.1 (omega arith)
    c.requires.2 in (
      l.invariant.0,
      placed_more a.width a.c l.k (λ i. at a.row.now (place a.side.log2 i)) a.dst.now l.dst _ c.requires.1
          (omega (arith, inside))
          (search rules
          ∙ ap (at a.row.now) (place_at a.side.log2 c.args.side.in_range.1 (length a.row.now) c.requires.0 l.k
          (omega arith) _
          l.invariant.0))
          l.invariant.1,
    )
