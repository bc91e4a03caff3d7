-- `butterfly::one_level` meets its contract: the level's law at what `fold` and `odd_half` left.
use Rattle.std.proofs.Common.{arith, ◌∙◌, ap, map, List, length}
use Rattle.std.proofs.lemmas.List.{map-id, length-map, length-replicate}
use lib.IntN.{ℤ, pos}
use Rattle.integers.specs.Sum.{at}
use Rattle.butterfly.proofs.HalfLine.{Taken, table_long, differences_few, odd_half_fits, halved}
use Rattle.butterfly.proofs.one_level.Given.{Over}
use Rattle.butterfly.proofs.one_level.Goals as goal
use Rattle.butterfly.proofs.one_level.Goals.{After-fold}

module _ (g : Over) (c : goal.After-fold g) where
  taken : Taken g.l g.row.H c.args.x.now c.fold.new.e c.fold.new.o (map (λ z. z) c.args.t.now)
      (map (λ z. z) c.fold.new.o)
  taken =
      record {
        few = c.requires.1.1.0.1;
        side = c.requires.1.1.0.0;
        long = c.requires.1.1.1.0;
        room = c.requires.1.1.1.2;
        sums = omega (arith, length-replicate g.row.H (pos 0));
        differences = omega (arith, length-replicate g.row.H (pos 0));
        folded = c.fold.ensures;
        table = c.requires.1.1.0.2;
        read = map-id c.fold.new.o;
      }

pub odd_half-requires-clause-o_len : goal.odd_half-requires-clause-o_len
odd_half-requires-clause-o_len g c =
    let k = taken g (goal.at.odd_half-requires-clause-o_len g c).After-fold in (
      omega (arith, k.differences, length-replicate g.row.H (pos 0)),
      differences_few k,
      omega (arith, table_long k, length-map c.args.t.now (λ z. z)),
    )

pub odd_half-requires-clause-by_index_2 : goal.odd_half-requires-clause-by_index_2
odd_half-requires-clause-by_index_2 g c =
    λ i h. odd_half_fits (taken g (goal.at.odd_half-requires-clause-by_index_2 g c).After-fold) i
    (omega (arith, length-replicate g.row.H (pos 0)))

pub returns : goal.returns
returns g c =
    halved (taken g (goal.at.returns g c).After-fold) _
    (λ i h. ap (λ (l : List ℤ). at l i) c.copy_from_slice.ensures.after
    ∙ c.odd_half.ensures i (omega (arith, length-replicate g.row.H (pos 0))))
    c.args.row.now (ap length c.copy_from_slice.ensures.after ∙ omega (arith, length-replicate g.row.H (pos 0)))
    c.requires.1.1.1.1
