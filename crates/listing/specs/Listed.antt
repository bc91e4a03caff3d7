-- What it is that the levels left by the quantiser are never refused as a run list, and that they come back.
use Rattle.std.specs.Prelude.{◌≡◌, List, ◌++◌, ℕ, ◌≤◌, length, take, drop, ℤ}
use Rattle.std.specs.Int.{w16}
use Rattle.std.proofs.Common.{SFits}
use Rattle.integers.specs.Sum.{at}
use Rattle.refusals.specs.Faults.{passed, accepted}
use Rattle.runs.specs.Call.{Write, write_verdict, write_answer, write_list, filled_of, Read, read_verdict, read_buffer}
use Rattle.coding.specs.Block.{Quant, area, count_of}
use Rattle.coding.specs.Call.{quant_verdict, quant_buffer}

-- what a call left, to be written in a list
abbrev pub listed : Quant → List ℕ → Write
listed c list = record { buffer = quant_buffer c; lw = c.lw; lh = c.lh; list = list }

-- what a call accepted is written, with as many symbols as it counted, in a list with as many places or more
abbrev pub NeverRefused : Quant → Type 0
NeverRefused c =
    quant_verdict c ≡ passed
    → (list : List ℕ) → count_of c ≤ length list
    → (write_verdict (listed c list) ≡ passed) × (write_answer (listed c list) ≡ accepted (count_of c))

-- so many symbols of a list, to be read into a buffer
abbrev pub again : Quant → (count : ℕ) → List ℕ → List ℤ → Read
again c count list buffer = record { list = filled_of count list; buffer = buffer; lw = c.lw; lh = c.lh }

-- read into a buffer with room they are the levels, and that buffer's surplus; 16 bits is what code holds
abbrev pub ComesBack : Quant → Type 0
ComesBack c =
    quant_verdict c ≡ passed → ((k : ℕ) → SFits w16 (at c.buffer k))
    → (list : List ℕ) (buffer : List ℤ) → count_of c ≤ length list → area c ≤ length buffer
    → (let r = again c (count_of c) (write_list (listed c list)) buffer in
    (read_verdict r ≡ passed) × (read_buffer r ≡ take (area c) (quant_buffer c) ++ drop (area c) buffer))
