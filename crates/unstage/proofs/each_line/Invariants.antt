-- `unstage::each_line` meets its contract: before the turn j the first j lines stand in their columns.
use Prim.Native.Nat.{◌^◌}
use Rattle.unfold.specs.Inner.Back.{most_value}
use Rattle.unstage.specs.Inner.Rows.{line_value, Lines}
use Rattle.unstage.proofs.each_line.Given as goal

abbrev pub invariant-loop-j : goal.invariant-loop-j
invariant-loop-j g l = Lines (line_value (2 ^ l.side.log2) l.src) most_value (2 ^ l.side.log2) l.lines l.dst l.j
