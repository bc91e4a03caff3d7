-- Numbers as words of a line: which words are numbers, and what they are worth. Bytes are ASCII codes: 48 to 57 are the
-- digits, 45 is `-`, 97 to 102 are `a` to `f`.
use Rattle.std.specs.Prelude.{Bool, true, false, not, ◌&&◌, ◌||◌, cond, List, [], ◌∷◌, ℕ, ◌+◌, ◌-◌, ◌*◌, ltb, leb, eqb, ℤ, pos, neg_ℤ, length, Option, Some, None}

-- ---- reading
abbrev pub is_digit : ℕ → Bool
is_digit b = leb 48 b && leb b 57

unfoldable pub digits : List ℕ → Bool
digits [] = true
digits (b ∷ w) = is_digit b && digits w

abbrev pub is_empty : List ℕ → Bool
is_empty [] = true
is_empty (b ∷ w) = false

-- one digit or more; the first of several is not 0
unfoldable pub natural : List ℕ → Bool
unfolding digits
natural [] = false
natural (b ∷ w) = (is_empty w || not (eqb b 48)) && digits (b ∷ w)

-- ten times what stands before a digit, and the digit: v is what the digits before w are worth
unfoldable pub value_from : ℕ → List ℕ → ℕ
value_from v [] = v
value_from v (b ∷ w) = value_from (10 * v + (b - 48)) w

unfoldable pub value_of : List ℕ → ℕ
unfolding value_from
value_of w = value_from 0 w

-- a word's number, if it is one and not above the limit
unfoldable pub natural_up_to : ℕ → List ℕ → Option ℕ
unfolding natural value_of
natural_up_to limit w = cond (natural w && leb (value_of w) limit) (Some (value_of w)) None

-- a natural number up to 32767, or `-` and one from 1 to 32768
unfoldable pub negative_of : Option ℕ → Option ℤ
negative_of (Some n) = cond (eqb n 0) None (Some (neg_ℤ (pos n)))
negative_of None = None

unfoldable pub positive_of : Option ℕ → Option ℤ
positive_of (Some n) = Some (pos n)
positive_of None = None

unfoldable pub sample_of : List ℕ → Option ℤ
unfolding natural_up_to negative_of positive_of
sample_of [] = None
sample_of (b ∷ w) = cond (eqb b 45) (negative_of (natural_up_to 32768 w)) (positive_of (natural_up_to 32767 (b ∷ w)))

-- ---- 16 hex digits
-- the worth of a hex digit, and 16 for any other byte
abbrev pub hex_digit : ℕ → ℕ
hex_digit b = cond (is_digit b) (b - 48) (cond (leb 97 b && leb b 102) (b - 87) 16)

unfoldable pub hex_digits : List ℕ → Bool
hex_digits [] = true
hex_digits (b ∷ w) = ltb (hex_digit b) 16 && hex_digits w

unfoldable pub hex_from : ℕ → List ℕ → ℕ
hex_from v [] = v
hex_from v (b ∷ w) = hex_from (16 * v + hex_digit b) w

-- exactly 16 of them
unfoldable pub bits_of : List ℕ → Option ℕ
unfolding hex_digits hex_from
bits_of w = cond (eqb (length w) 16 && hex_digits w) (Some (hex_from 0 w)) None
