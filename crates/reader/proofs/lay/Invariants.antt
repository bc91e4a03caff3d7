-- `reader::lay` meets its contract: a turn for each symbol, whose level is put behind its zeros.
use Rattle.runs.specs.Packing.{run_bits}
use Rattle.reader.proofs.Laying.{Laying}
use Rattle.reader.proofs.lay.Given as goal

abbrev pub invariant-loop-u : goal.invariant-loop-u
invariant-loop-u l = Laying run_bits l.scan.w l.scan.h l.list l.initial.block l.block l.p l.u-index
