-- `fours::turn` meets its contract: before the turn k the first k rows stand in their columns.
use Prim.Native.Nat.{◌+◌, ◌*◌}
use native.Mathlib.Omega.{arith}
use lib.IntN.{pos}
use Rattle.integers.specs.Sum.{at}
use Rattle.stages.proofs.Columns.{line, line_at_lem, line_length}
use Rattle.fours.proofs.Lines.{columns_of_four_more}
use Rattle.fours.proofs.turn.Goals as goal

pub loop-k-preserved : goal.loop-k-preserved
loop-k-preserved c =
    let block = c.args.block.now in
    let l = c.loop-k in
    columns_of_four_more (λ j i. at block (j * 4 + i)) c.args.n l.turned c.store.new.dst (line 4 block l.k) l.k
    (omega arith) (line_length 4 block l.k (omega arith)) (line_at_lem 4 block l.k)
    (c.store.ensures (pos 0)) l.invariant
