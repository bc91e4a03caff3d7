-- The head of a PGM: P2 or P5, the width, the height and the maxval, and where the samples begin. What it may be wrong
-- in is asked in this order: the letter and its digit, the width, the height, the largest side of 256, the maxval, and
-- in P5 the blank behind it.
use Rattle.std.specs.Prelude.{Bool, true, false, cond, List, ℕ, ltb, eqb, length, get_or, Option, Some, None, Result, Ok, Err}
use Rattle.pgm.specs.declared.head.Form.{Form}
use Rattle.pgm.specs.declared.head.Form.TheVariants.{Plain, Bytes, Pairs}
use Rattle.pgm.specs.declared.head.Header.{Header}
use Rattle.pgm.specs.declared.wrong.Unread.{Unread}
use Rattle.pgm.specs.declared.wrong.Unread.TheVariants.{NoPgm, Other, NoWidth, NoHeight, NoMost, TooLarge, NoSamples}
use Rattle.pgm.specs.declared.Number.{Number}
use Rattle.pgm.specs.Gap.{is_blank, in_gap}
use Rattle.pgm.specs.Number.{number_at, byte_at}

-- what a head says
pub record Head : Type 0 where
  pub width : ℕ
  pub height : ℕ
  pub most : ℕ
  pub form : Form
  pub at : ℕ

-- what a header says, without its bounds
abbrev pub told : Result Header Unread → Result Head Unread
told (Ok h) = Ok (record { width = h.size.width; height = h.size.height; most = h.most; form = h.form; at = h.at })
told (Err e) = Err e

-- what follows where nothing was wrong
abbrev pub then_of : {A B : Type 0} → Result A Unread → (A → Result B Unread) → Result B Unread
then_of (Ok x) f = f x
then_of (Err e) f = Err e

unfoldable pub raw_form : ℕ → Form
raw_form most = cond (ltb most 256) Bytes Pairs

-- how the samples stand behind the maxval, and where they begin
abbrev pub behind_blank : ℕ → Option Number → Result (Form × ℕ) Unread
behind_blank most (Some blank) = cond (is_blank blank.value) (Ok (raw_form most, blank.next)) (Err NoSamples)
behind_blank most None = Err NoSamples

unfoldable pub samples_from : List ℕ → Bool → Number → Result (Form × ℕ) Unread
unfolding byte_at
samples_from bytes plain most =
    cond plain (Ok (Plain, most.next)) (behind_blank most.value (byte_at bytes most.next))

-- a number from 1 up
abbrev pub positive_of : Unread → Option Number → Result Number Unread
positive_of wrong (Some n) = cond (eqb n.value 0) (Err wrong) (Ok n)
positive_of wrong None = Err wrong

unfoldable pub positive_at : List ℕ → ℕ → Unread → Result Number Unread
unfolding number_at
positive_at bytes at wrong = positive_of wrong (number_at bytes at)

abbrev pub head_from : (width height most : ℕ) → Form × ℕ → Result Head Unread
head_from width height most s = Ok (record { width = width; height = height; most = most; form = s.0; at = s.1 })

unfoldable pub head_checked : List ℕ → Bool → (width height : Number) → Result Head Unread
unfolding positive_at samples_from
head_checked bytes plain width height =
    cond (ltb 256 width.value) (Err TooLarge)
    (cond (ltb 256 height.value) (Err TooLarge)
    (then_of (positive_at bytes height.next NoMost) (λ (most : Number).
    cond (ltb 65535 most.value) (Err NoMost)
    (then_of (samples_from bytes plain most) (head_from width.value height.value most.value)))))

unfoldable pub head_sized : List ℕ → Bool → Result Head Unread
unfolding positive_at head_checked
head_sized bytes plain =
    then_of (positive_at bytes 2 NoWidth) (λ (width : Number).
    then_of (positive_at bytes width.next NoHeight) (head_checked bytes plain width))

unfoldable pub head_kind : List ℕ → ℕ → Result Head Unread
unfolding head_sized
head_kind bytes kind =
    cond (eqb kind 50) (head_sized bytes true) (cond (eqb kind 53) (head_sized bytes false) (Err (Other kind)))

-- the letter is P; behind its digit stands a blank or a comment
unfoldable pub head_of : List ℕ → Result Head Unread
unfolding in_gap head_kind
head_of bytes =
    cond (ltb (length bytes) 3) (Err NoPgm)
    (cond (eqb (get_or bytes 0 0) 80)
    (cond (in_gap false (get_or bytes 2 0)) (head_kind bytes (get_or bytes 1 0)) (Err NoPgm)) (Err NoPgm))
