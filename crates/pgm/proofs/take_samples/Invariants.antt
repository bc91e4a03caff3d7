-- `pgm::take_samples` meets its contract: the first i samples are good and stored.
use Rattle.std.proofs.Common.{◌≡◌}
use Rattle.integers.proofs.Fill.{Filled}
use Rattle.pgm.specs.Samples.{scaled_of, value_of, start_of, nth, Good}
use Rattle.pgm.proofs.take_samples.Given as goal

abbrev pub invariant-loop-i : goal.invariant-loop-i
invariant-loop-i l = record {
  start : l.from ≡ start_of l.bytes l.form l.at l.i;
  good : Good l.bytes l.form l.at l.most l.i;
  stored : Filled 0 l.camera (λ k. scaled_of (value_of (nth l.bytes l.form l.at k)) l.most) l.i;
}
