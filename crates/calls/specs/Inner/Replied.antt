-- What a call made for a request asks of the fields, and what it leaves: a reply, a list, if it has one, and a buffer,
-- whose text is the request's answer.
use Rattle.std.specs.Prelude.{◌≡◌, true, false, cond, List, ◌∷◌, ℕ, ◌≤◌, eqb, ℤ, length, get_or, take, drop, replicate}
use Rattle.std.specs.Prelude.{Option}
use Rattle.replies.specs.declared.Reply.{Reply}
use Rattle.replies.specs.Reply.{reply_text}

-- a field that crosses as a number of 32 bits
abbrev pub Short : List ℕ → ℕ → Type 0
Short f i = get_or f i 0 ≤ 4294967295

-- the six heights are such
abbrev pub ShortHeights : List ℕ → Type 0
ShortHeights f = Short f 9 × Short f 10 × Short f 11 × Short f 12 × Short f 13 × Short f 14

-- where samples are parted: r is n, or all of them where there are fewer
pub record Parted (samples : List ℤ) (n r : ℕ) : Type 0 where
  pub within : r ≤ length samples
  pub front : take r samples ≡ take n samples
  pub behind : drop r samples ≡ drop n samples

-- numbers of an answer that has fewer than the reply has room for
abbrev pub zeros : ℕ → List ℕ
zeros n = replicate n 0

-- the reply by a call's result: the first `count` numbers of its answer where it is 0, else the result and the
-- component
abbrev pub reply_by : (result component count : ℕ) → (numbers : List ℕ) → Reply
reply_by result component count numbers =
    cond (eqb result 0) (record { accepted = true; count = count; numbers = numbers })
    (record { accepted = false; count = 2; numbers = result ∷ component ∷ zeros 10 })

-- the answer's text by a reply, its list and its samples, and that the reply's numbers and the samples fit their room
pub record Replied (text : List ℕ) (before : List ℤ) (r : Reply) (list : Option (List ℕ)) (after : List ℤ) :
    Type 0 where
  pub is : reply_text r.accepted (take r.count r.numbers) list after ≡ text
  pub few : r.count ≤ 12
  pub kept : length after ≡ length before
