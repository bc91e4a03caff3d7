-- Numbers and words as text: how a number is printed, and what a buffer holds once a text was put into it. Bytes are
-- ASCII codes: 48 to 57 are the digits, 45 is `-`.
use Rattle.std.specs.Prelude.{◌≡◌, cond, List, [], ◌∷◌, ◌++◌, ℕ, zero, suc, ◌+◌, ◌/◌, ◌%◌, ◌≤◌, ltb, ℤ, pos, negsuc, length, take, drop}
use Prim.Native.Char.{code}
use Prim.Native.String.{String, [] as []ᵗ, ◌∷◌ as ◌∷ᵗ◌}

-- the codes of a word's characters
abbrev pub bytes : String → List ℕ
bytes []ᵗ = []
bytes (c ∷ᵗ w) = code c ∷ bytes w

-- the digits of n, the most significant first and no 0 in front: those of a tenth of it, and then the last; at most
-- `most` of them
unfoldable pub printed_in : ℕ → ℕ → List ℕ
printed_in zero n = []
printed_in (suc most) n =
    let several = printed_in most (n / 10) ++ ((48 + n % 10) ∷ []) in
    cond (ltb n 10) ((48 + n) ∷ []) several

-- n + 1 digits are enough for every n
unfoldable pub printed : ℕ → List ℕ
unfolding printed_in
printed n = printed_in (suc n) n

-- the same of an integer
unfoldable pub printed_sample : ℤ → List ℕ
unfolding printed
printed_sample (pos n) = printed n
printed_sample (negsuc n) = 45 ∷ printed (suc n)

-- the text stands at `at`, all else as it was; r is the place after it, and the text has at most `most` bytes
pub record Put (before : List ℕ) (at : ℕ) (text : List ℕ) (most : ℕ) (after : List ℕ) (r : ℕ) : Type 0 where
  pub next : r ≡ at + length text
  pub few : length text ≤ most
  pub holds : after ≡ take at before ++ (text ++ drop (at + length text) before)
