-- `unfold::halves` meets its contract: the level's law at what `part` and `odd_half` left.
use Rattle.std.proofs.Common.{arith, map}
use Rattle.std.proofs.lemmas.List.{map-id, length-map, length-replicate}
use lib.IntN.{pos}
use Rattle.unfold.proofs.Line.{Taken, table_long, odds_few, odd_half_fits, halved}
use Rattle.unfold.proofs.halves.Given.{Over}
use Rattle.unfold.proofs.halves.Goals as goal
use Rattle.unfold.proofs.halves.Goals.{After-part}

taken : (g : Over) (c : After-part g)
    → Taken g.l g.row.H c.args.x.now c.part.new.e c.part.new.o (map (λ z. z) c.args.t.now) (map (λ z. z) c.part.new.o)
taken g c =
    record {
      few = c.requires.1.1.1.0.1;
      side = c.requires.1.1.1.0.0;
      evens = omega (arith, length-replicate g.row.H (pos 0));
      odds = omega (arith, length-replicate g.row.H (pos 0));
      parted = c.part.ensures;
      table = c.requires.1.1.1.0.2;
      read = map-id c.part.new.o;
    }

pub odd_half-requires-clause-o_len : goal.odd_half-requires-clause-o_len
odd_half-requires-clause-o_len g c =
    let k = taken g (goal.at.odd_half-requires-clause-o_len g c).After-part in (
      omega (arith, k.odds, length-replicate g.row.H (pos 0)),
      odds_few k,
      omega (arith, table_long k, length-map c.args.t.now (λ z. z)),
    )

pub odd_half-requires-clause-by_index_2 : goal.odd_half-requires-clause-by_index_2
odd_half-requires-clause-by_index_2 g c =
    λ i h. odd_half_fits (taken g (goal.at.odd_half-requires-clause-by_index_2 g c).After-part) i
    (omega (arith, length-replicate g.row.H (pos 0)))

pub returns : goal.returns
returns g c =
    halved (taken g (goal.at.returns g c).After-part) c.odd_half.new.b
    (λ i h. c.odd_half.ensures i (omega (arith, length-replicate g.row.H (pos 0))))
