-- The samples of a PGM, one behind the other, each found and not above the maxval; and as samples of 10 bits.
use Rattle.std.specs.Prelude.{◌≡◌, true, List, ℕ, zero, suc, ◌+◌, ◌*◌, ◌/◌, ◌≤◌, ◌<◌, get_or, Option, Some, None, is_some, Result, Ok, Err}
use Rattle.pgm.specs.declared.head.Form.{Form}
use Rattle.pgm.specs.declared.Number.{Number}
use Rattle.pgm.specs.declared.wrong.BadSample.{BadSample}
use Rattle.pgm.specs.declared.wrong.BadSample.TheVariants.{Missing, Above}
use Rattle.pgm.specs.Number.{sample_at}

-- v of `most` as a sample of 10 bits, to the nearest: 1023 is white
unfoldable pub scaled_of : (v most : ℕ) → ℕ
scaled_of v most = (v * 1023 + most / 2) / most

abbrev pub value_of : Option Number → ℕ
value_of (Some n) = n.value
value_of None = 0

-- where the next one begins: where a missing one would, too
abbrev pub next_of : ℕ → Option Number → ℕ
next_of at (Some n) = n.next
next_of at None = at

-- where sample k begins, the first at `at`
unfoldable pub start_of : List ℕ → Form → ℕ → ℕ → ℕ
unfolding sample_at
start_of bytes form at zero = at
start_of bytes form at (suc k) =
    next_of (start_of bytes form at k) (sample_at bytes form (start_of bytes form at k))

abbrev pub nth : List ℕ → Form → ℕ → ℕ → Option Number
nth bytes form at k = sample_at bytes form (start_of bytes form at k)

-- each of the first n is found and up to `most`
abbrev pub Good : List ℕ → Form → (at most n : ℕ) → Type 0
Good bytes form at most n =
    (k : ℕ) → k < n → (is_some (nth bytes form at k) ≡ true) × (value_of (nth bytes form at k) ≤ most)

abbrev pub Outcome : List ℕ → Form → (at most n : ℕ) → List ℕ → Result Unit BadSample → Type 0
Outcome bytes form at most n camera (Ok _) =
    Good bytes form at most n × ((k : ℕ) → k < n → get_or camera k 0 ≡ scaled_of (value_of (nth bytes form at k)) most)
Outcome bytes form at most n camera (Err (Missing k)) =
    (k < n) × Good bytes form at most k × (nth bytes form at k ≡ None)
Outcome bytes form at most n camera (Err (Above k)) =
    (k < n) × Good bytes form at most k × (most < value_of (nth bytes form at k))
