-- `reader::misread` meets its contract: what is wrong with the list is wrong with what is left of it, until a
-- symbol is wrong where it stands, or none is left.
use Rattle.std.proofs.Common.{◌≡◌, drop}
use Rattle.runs.specs.Packing.{run_bits}
use Rattle.runs.specs.Runs.{misread}
use Rattle.reader.proofs.misread.Given as goal

abbrev pub invariant-loop-i : goal.invariant-loop-i
invariant-loop-i l = misread run_bits l.n l.list ≡ misread run_bits l.left (drop l.i l.list)
