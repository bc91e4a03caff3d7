-- What was read is within the limit, and what the digits left mean behind it is what the word means.
use Rattle.std.proofs.Common.{◌≡◌, ◌≤◌, drop}
use Rattle.numerals.specs.Number.{natural_up_to}
use Rattle.numerals.proofs.Reading.{read_from}
use Rattle.numerals.proofs.number.read_natural.Given as goal

abbrev pub invariant-loop-byte : goal.invariant-loop-byte
invariant-loop-byte l =
    (l.value ≤ l.limit) × (read_from l.limit l.value (drop l.byte-index l.word) ≡ natural_up_to l.limit l.word)
