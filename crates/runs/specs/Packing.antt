-- A symbol packed in a number: the run lowest, over it 15 bits of magnitude, the sign and the last mark. The width of
-- the run's field is an argument, and the number that the calls have for it stands here once: a block has no more
-- places than a run of that width can count.
use Rattle.std.specs.Prelude.{Bool, cond, ℕ, ◌+◌, ◌*◌, ◌/◌, ◌%◌, ◌^◌, eqb, leb}
use Rattle.runs.specs.declared.Symbol.{Symbol}

abbrev pub run_bits : ℕ
run_bits = 10

-- a mark: 1 where it is set
abbrev pub mark : Bool → ℕ
mark set = cond set 1 0

unfoldable pub packed : (bits : ℕ) → Symbol → ℕ
packed bits s =
    s.run + s.magnitude * 2 ^ bits + mark s.negative * 2 ^ (bits + 15) + mark s.last * 2 ^ (bits + 16)

-- so many bits of u, from one on
abbrev pub field : (from width u : ℕ) → ℕ
field from width u = u / 2 ^ from % 2 ^ width

unfoldable pub unpacked : (bits : ℕ) → ℕ → Symbol
unpacked bits u =
    record {
      run = field 0 bits u;
      magnitude = field bits 15 u;
      negative = eqb (field (bits + 15) 1 u) 1;
      last = eqb (field (bits + 16) 1 u) 1;
    }

-- a bit over the last mark is set, which no symbol uses
unfoldable pub overfull : (bits : ℕ) → ℕ → Bool
overfull bits u = leb (2 ^ (bits + 17)) u
