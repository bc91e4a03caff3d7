-- As many digits as were read bound what they are worth, and what the digits left mean behind them is what the word
-- means.
use Rattle.std.proofs.Common.{◌≡◌, ◌<◌, ◌^◌, drop}
use Rattle.numerals.specs.Number.{bits_of}
use Rattle.numerals.proofs.Hex.{hex_read}
use Rattle.numerals.proofs.number.read_bits.Given as goal

abbrev pub invariant-loop-byte : goal.invariant-loop-byte
invariant-loop-byte l =
    (l.value < 16 ^ l.byte-index) × (hex_read l.value (drop l.byte-index l.word) ≡ bits_of l.word)
