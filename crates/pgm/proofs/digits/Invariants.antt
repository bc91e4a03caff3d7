-- `pgm::digits` meets its contract: what was read and the digits that are left make the whole number.
use Rattle.std.proofs.Common.{◌≡◌, ◌+◌, ◌≤◌, drop}
use Rattle.pgm.specs.Number.{run, worth}
use Rattle.pgm.proofs.digits.Given as goal

abbrev pub invariant-loop-i : goal.invariant-loop-i
invariant-loop-i l =
    (l.value ≤ 1000000) × (l.i + run (drop l.i l.bytes) ≡ l.at + run (drop l.at l.bytes))
    × (worth l.value (drop l.i l.bytes) ≡ worth 0 (drop l.at l.bytes))
