-- `stages::evens16` meets its contract: before the turn j the first j lines stand in the even rows, and the
-- odd rows are kept.
use Rattle.std.proofs.Common.{◌∙◌, ◌+◌, ◌*◌, arith}
use Rattle.integers.specs.Sum.{at}
use Rattle.tables.specs.Matrix.{matrix}
use Rattle.butterfly.specs.Inner.Lines.{place}
use Rattle.butterfly.proofs.Level.{even_coefficient}
use Rattle.butterfly.proofs.Room.{sums_room}
use Rattle.tables.proofs.Symmetry.{matrix_symmetric}
use Rattle.stages.specs.Inner.Stages.{stage_at}
use Rattle.stages.proofs.Columns.{line, line_is, line_length, line_room, columns_more, left_column}
use Rattle.stages.proofs.evens16.Goals as goal

pub line8-requires : goal.line8-requires
line8-requires c =
    let s = c.args.src.now in
    let j = c.loop-j.j in (
      omega arith,
      omega arith,
      sums_room 3 (line 16 s j) (line_length 16 s j (omega arith)) (line_room 16 s j (omega arith) 4 c.requires.3)
          c.fold.new.e c.fold.new.o (omega arith) c.fold.ensures,
    )

pub loop-j-preserved : goal.loop-j-preserved
loop-j-preserved c =
    let a = c.args in
    let l = c.loop-j in
    let s = a.src.now in
    let p = c.store_row.ensures in (
      columns_more (λ j k. stage_at matrix 16 s j (2 * k)) 8 (2 * a.lines) (λ j. j) l.dst _ l.j
          (λ k. at c.line8.new.row (place 3 k))
          (left_column a.lines l.j (omega arith))
          (λ k h.
          c.line8.ensures.holds k h
          ∙ even_coefficient matrix 3 (matrix_symmetric 3 (omega arith)) (line 16 s l.j)
          (line_length 16 s l.j (omega arith)) c.fold.new.e c.fold.new.o (omega arith) c.fold.ensures k h
          ∙ line_is 16 s l.j matrix (2 * k))
          p
          l.invariant.0,
      λ j k h g. p.kept k (a.lines + j) (omega arith) (λ e. omega arith) ∙ l.invariant.1 j k h g,
    )
