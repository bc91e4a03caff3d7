-- Lines of the input, as they stand in the buffer that it is read into: what the contracts of `input` cite. A newline
-- is the byte 10; every other byte is an ordinary one. No byte goes but in a line that is handed out, as its newline,
-- or in a line that is longer than the buffer can hold, which is told.
use Rattle.std.specs.Prelude.{ℕ, ◌+◌, ◌-◌, ◌≤◌, ◌<◌, ◌≡◌, true, false, cond, List, [], ◌∷◌, ◌++◌, ◌⊎◌, eqb, Option, Some, None, Result, Ok, Err, length, take, drop, get_or}
use Rattle.std.specs.Io.KnownBytes.{Keeps, Consumes, IsAtEnd}
use Rattle.std.specs.declared.io.Error.{Error}
use Rattle.input.specs.declared.Cursor.{Cursor}
use Rattle.input.specs.declared.Line.{Line}
use Rattle.input.specs.declared.Line.TheVariants.{At, TooLong, More}
use Rattle.input.specs.declared.Tail.{Tail}
use Rattle.input.specs.declared.Tail.TheVariants as tail

-- the bytes of the buffer from `from` up to `end`
abbrev pub part : List ℕ → ℕ → ℕ → List ℕ
part buf from end = take (end - from) (drop from buf)

-- what is left: the bytes that were read and not handed out
abbrev pub left : List ℕ → Cursor → List ℕ
left buf c = part buf c.from c.have

-- it stands in the buffer
pub record Within (c : Cursor) (buf : List ℕ) : Type 0 where
  pub order : c.from ≤ c.have
  pub held : c.have ≤ length buf

-- none of the bytes is a newline
abbrev pub Free : List ℕ → Type 0
Free bytes = (k : ℕ) → k < length bytes → get_or bytes k 0 ≡ 10 → ⊥

-- what was left begins with a line, whose newline stands behind it; behind that begins what is left now
pub record Ends (before : List ℕ) (c : Cursor) (line after : List ℕ) (rest : Cursor) : Type 0 where
  pub bytes : left before c ≡ line ++ (10 ∷ left after rest)
  pub free : Free line
  pub within : Within rest after
  pub fresh : rest.passing ≡ false

-- a line that is handed out, from `from` up to `end`; it is whole, as no line is being passed over
pub record HandedOut (before : List ℕ) (c : Cursor) (after : List ℕ) (from end : ℕ) (rest : Cursor) : Type 0 where
  pub whole : c.passing ≡ false
  pub order : from ≤ end
  pub held : end ≤ length after
  pub ends : Ends before c (part after from end) after rest

-- the end of a line that is too long
pub record PassedOver (before : List ℕ) (c : Cursor) (after : List ℕ) (rest : Cursor) : Type 0 where
  pub long : c.passing ≡ true
  pub line : List ℕ
  pub ends : Ends before c line after rest

-- nothing of a line goes before its newline
pub record AllKept (before : List ℕ) (c : Cursor) (after : List ℕ) (rest : Cursor) : Type 0 where
  pub whole : c.passing ≡ false
  pub still : rest.passing ≡ false
  pub bytes : left after rest ≡ left before c

-- but where the line fills the buffer, or has filled it before
pub record Dropped (before : List ℕ) (c : Cursor) (after : List ℕ) (rest : Cursor) : Type 0 where
  pub long : (c.passing ≡ true) ⊎ (length (left before c) ≡ length before)
  pub passing : rest.passing ≡ true
  pub bytes : left after rest ≡ []

-- more is asked for: no line ends in what is left, and there is room behind it
pub record Asked (before : List ℕ) (c : Cursor) (after : List ℕ) (rest : Cursor) : Type 0 where
  pub free : Free (left before c)
  pub kept : AllKept before c after rest ⊎ Dropped before c after rest
  pub within : Within rest after
  pub room : rest.have < length after

abbrev pub Handed : List ℕ → Cursor → List ℕ → Line → Type 0
Handed before c after (At from end rest) = HandedOut before c after from end rest
Handed before c after (TooLong rest) = PassedOver before c after rest
Handed before c after (More rest) = Asked before c after rest

-- n bytes more
abbrev pub grown : Cursor → ℕ → Cursor
grown c n = record { from = c.from; have = c.have + n; passing = c.passing }

-- what the answer of a read means: it has failed, or n bytes came; without a byte the input has ended
abbrev pub arrival_of : Result ℕ Error → Cursor → Result (Option Cursor) Error
arrival_of (Err e) c = Err e
arrival_of (Ok n) c = cond (eqb n 0) (Ok None) (Ok (Some (grown c n)))

-- a read changes nothing of what stands before the bytes that it brings
abbrev pub Kept : List ℕ → Cursor → List ℕ → Type 0
Kept before c after = take c.have after ≡ take c.have before

-- and brings one byte or more, where it has not failed and the input has not ended
abbrev pub Brought : List ℕ → Cursor → List ℕ → Result (Option Cursor) Error → Type 0
Brought before c after (Ok (Some more)) =
    Kept before c after × Within more after × ((n : ℕ) × (0 < n) × (more ≡ grown c n))
Brought before c after (Ok None) = Kept before c after
Brought before c after (Err e) = Kept before c after

-- where it is known what the reader has left: it loses the bytes that came, it has ended only where nothing was left,
-- and a read that has failed takes nothing
abbrev pub Gave : Option (List ℕ) → Option (List ℕ) → Cursor → List ℕ → Result (Option Cursor) Error → Type 0
Gave known rest c after (Ok (Some more)) = Consumes known rest (part after c.have more.have)
Gave known rest c after (Ok None) = Keeps known rest × IsAtEnd rest
Gave known rest c after (Err e) = Keeps known rest

-- at the end of the input: all that is left is the last line, unless nothing is left
abbrev pub tail_of : Cursor → Tail
tail_of c = cond c.passing tail.TooLong (cond (eqb c.from c.have) tail.Nothing (tail.At c.from c.have))
