-- A number of a PGM: a run of digits, leading zeros allowed. A number above 999999 counts as 1000000, which is more
-- than anything in a PGM may be.
use Rattle.std.specs.Prelude.{Bool, true, false, cond, List, [], ◌∷◌, ℕ, suc, ◌+◌, ◌*◌, ◌%◌, ltb, eqb, length, get_or, drop, Option, Some, None, option_and_then}
use Rattle.pgm.specs.declared.head.Form.{Form}
use Rattle.pgm.specs.declared.head.Form.TheVariants.{Plain, Bytes, Pairs}
use Rattle.pgm.specs.declared.Number.{Number}
use Rattle.pgm.specs.Gap.{past_gap}

unfoldable pub is_digit : ℕ → Bool
is_digit b = cond (ltb b 48) false (cond (ltb b 58) true false)

-- ten times what stands before a digit, and the digit, 48 to 57
abbrev pub more : (v b : ℕ) → ℕ
more v b = 10 * v + b % 48

unfoldable pub with_digit : (v b : ℕ) → ℕ
with_digit v b = cond (ltb (more v b) 1000000) (more v b) 1000000

-- how many digits a text begins with, and what they are worth behind digits worth v
unfoldable pub run : List ℕ → ℕ
unfolding is_digit
run [] = 0
run (b ∷ w) = cond (is_digit b) (suc (run w)) 0

unfoldable pub worth : ℕ → List ℕ → ℕ
unfolding is_digit with_digit
worth v [] = v
worth v (b ∷ w) = cond (is_digit b) (worth (with_digit v b) w) v

-- a number that ends before `next`, unless it has no digit
unfoldable pub found_of : (at value next : ℕ) → Option Number
found_of at value next = cond (eqb next at) None (Some (record { value = value; next = next }))

-- the number whose digits begin at `at`
unfoldable pub digits_at : List ℕ → ℕ → Option Number
unfolding run worth found_of
digits_at bytes at = found_of at (worth 0 (drop at bytes)) (at + run (drop at bytes))

-- the number behind blanks and comments
unfoldable pub number_at : List ℕ → ℕ → Option Number
unfolding digits_at past_gap
number_at bytes at = digits_at bytes (past_gap bytes at)

-- a byte, if there is one
unfoldable pub byte_at : List ℕ → ℕ → Option Number
byte_at bytes at = cond (ltb at (length bytes)) (Some (record { value = get_or bytes at 0; next = at + 1 })) None

-- two bytes, the higher one first
abbrev pub joined : Number → Number → Number
joined high low = record { value = 256 * high.value + low.value; next = low.next }

unfoldable pub pair_at : List ℕ → ℕ → Option Number
unfolding byte_at
pair_at bytes at =
    option_and_then (λ (high : Number). option_and_then (λ (low : Number). Some (joined high low)) (byte_at bytes high.next))
    (byte_at bytes at)

unfoldable pub sample_at : List ℕ → Form → ℕ → Option Number
unfolding number_at byte_at pair_at
sample_at bytes Plain at = number_at bytes at
sample_at bytes Bytes at = byte_at bytes at
sample_at bytes Pairs at = pair_at bytes at
