-- `stages::odds16` meets its contract: before the turn j the first j lines stand in the odd rows.
use Rattle.std.proofs.Common.{◌≡◌, ◌∙◌, ℕ, ◌+◌, ◌*◌, length, map, arith, subst}
use Rattle.std.proofs.lemmas.List.{map-id}
use lib.IntN.{pos}
use Rattle.integers.specs.Sum.{at}
use Rattle.tables.specs.Matrix.{matrix}
use Rattle.butterfly.proofs.HalfLine.{Taken, odd_half_fits, odds_held}
use Rattle.columns.specs.Inner.Placed.{Placed}
use Rattle.stages.specs.Inner.Stages.{stage_at}
use Rattle.stages.proofs.Columns.{line, line_is, line_length, line_room, columns_more, right_column}
use Rattle.stages.proofs.odds16.Goals as goal
use Rattle.stages.proofs.odds16.Goals.{After-fold}

-- what `fold` left of a line of 16
taken : (c : After-fold)
    → Taken 3 8 (line 16 c.args.src.now c.loop-j.j) c.fold.new.e c.fold.new.o
    (map (λ z. z) c.wide_rows-rows.result.eight)
    (map (λ z. z) c.fold.new.o)
taken c =
    record {
      few = omega arith;
      side = omega arith;
      long = line_length 16 c.args.src.now c.loop-j.j (omega arith);
      room = line_room 16 c.args.src.now c.loop-j.j (omega arith) 4 c.requires.3;
      sums = omega arith;
      differences = omega arith;
      folded = c.fold.ensures;
      table = c.wide_rows-rows.result.eights;
      read = map-id c.fold.new.o;
    }

pub odd_half-requires-clause-by_index_2 : goal.odd_half-requires-clause-by_index_2
odd_half-requires-clause-by_index_2 c =
    odd_half_fits (taken (goal.at.odd_half-requires-clause-by_index_2 c).After-fold)

pub loop-j-preserved : goal.loop-j-preserved
loop-j-preserved c =
    let a = c.args in
    let l = c.loop-j in
    let b = c.odd_half.new.b in
    let lb : length b ≡ 8 = omega arith in
    columns_more (λ j k. stage_at matrix 16 a.src.now j (2 * k + 1)) 8 (2 * a.lines) (λ j. a.lines + j) l.dst _ l.j
    (at b)
    (right_column a.lines l.j (omega arith))
    (λ k h.
    odds_held (taken (goal.at.loop-j-preserved c).After-fold) b c.odd_half.ensures k h
    ∙ line_is 16 a.src.now l.j matrix (2 * k + 1))
    (subst (λ (m : ℕ). Placed (2 * a.lines) (a.lines + l.j) m (at b) l.dst c.store.new.dst) lb
    (c.store.ensures (pos 0)))
    l.invariant
