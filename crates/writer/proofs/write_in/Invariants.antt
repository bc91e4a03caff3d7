-- `writer::write_in` meets its contract: a turn for each place, up to the last symbol's.
use Prim.Native.Nat.{◌-◌, ◌*◌}
use Rattle.scan.specs.Order.{in_order}
use Rattle.runs.specs.Packing.{run_bits}
use Rattle.writer.proofs.Writing.{Writing}
use Rattle.writer.proofs.write_in.Given as goal

abbrev pub invariant-loop-k : goal.invariant-loop-k
invariant-loop-k l =
    Writing run_bits (in_order l.scan.w l.scan.h l.block) l.initial.list l.count l.list l.run l.p l.k

abbrev pub decreases-loop-k : goal.decreases-loop-k
decreases-loop-k l = l.scan.w * l.scan.h - l.p
