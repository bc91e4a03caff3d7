-- Samples read one by one into a room: those so far and the words that are left are together what all the words are.
use Rattle.std.proofs.Common.{◌≡◌, refl, sym, ◌∙◌, List, [], ◌∷◌, ◌++◌, append_assoc, Option, Some, None, arith, length-append}
use Rattle.std.proofs.Common.{ℕ, ℤ, ◌+◌, ◌≤◌, ◌<◌, length, take, add-one}
use mathlib.Core.List.{append-nil}
use borrow.Author.Tests.{eq-eqb, ne_eqb}
use lib.ListN.{set}
use lib.Seq.{take-suc-set, take_all, length-take-le}
use Rattle.numerals.specs.Number.{sample_of}
use Rattle.requests.specs.Request.{◌>>=◌, samples_of, exactly, exactly_of}

-- exactly n, together with those before
abbrev together : ℕ → List ℤ → Option (List ℤ) → Option (List ℤ)
together n before o = o >>= λ xs. exactly n (before ++ xs)

one_behind : (n : ℕ) (before : List ℤ) (x : ℤ) (o : Option (List ℤ))
    → together n before (o >>= λ xs. Some (x ∷ xs)) ≡ together n (before ++ (x ∷ [])) o
one_behind n before x None = refl
one_behind n before x (Some xs) = rw append_assoc refl

-- ---- more or fewer
other_count : (n : ℕ) (xs : List ℤ) → (length xs ≡ n → ⊥) → exactly n xs ≡ None
other_count n xs h = rw (ne_eqb (length xs) n h) refl

too_few : (room : List ℤ) (i : ℕ) → i < length room → together (length room) (take i room) (samples_of []) ≡ None
unfolding samples_of
too_few room i h =
    other_count (length room) (take i room ++ [])
    (λ e. let no : ⊥ = omega (arith, simp (length-append, length-take-le i room (omega arith)) at e) in no)

too_many : (room : List ℤ) (w : List ℕ) (words : List (List ℕ))
    → together (length room) room (samples_of (w ∷ words)) ≡ None
unfolding samples_of
too_many room w words = go (sample_of w) (samples_of words)
  where
    go : (x : Option ℤ) (o : Option (List ℤ))
        → together (length room) room (x >>= λ x. o >>= λ xs. Some (x ∷ xs)) ≡ None
    go None o = refl
    go (Some x) None = refl
    go (Some x) (Some xs) =
        other_count (length room) (room ++ (x ∷ xs))
        (λ e. let no : ⊥ = omega (arith, simp length-append at e) in no)

all_there : (room : List ℤ) → together (length room) room (samples_of []) ≡ Some room
unfolding samples_of
all_there room = rw (append-nil, eq-eqb (length room) (length room) refl) refl

module _ (all : List (List ℕ)) (n : ℕ) where
  -- i samples are read, and these words are left
  abbrev pub Reading : List ℤ → List (List ℕ) → ℕ → Type 0
  Reading room words i = together n (take i room) (samples_of words) ≡ exactly_of n all

  pub begun : (room : List ℤ) → Reading room all 0
  unfolding exactly_of
  begun room = refl

  module _ (room : List ℤ) (words : List (List ℕ)) (i : ℕ) (size : length room ≡ n) (reading : Reading room words i) where
    pub all_read : n ≤ i → words ≡ [] → exactly_of n all ≡ Some room
    all_read h e = sym reading ∙ rw (e, ← size, take_all i room (omega arith)) (all_there room)

    pub left_over : n ≤ i → (w : List ℕ) (rest : List (List ℕ)) → words ≡ w ∷ rest → exactly_of n all ≡ None
    left_over h w rest e = sym reading ∙ rw (e, ← size, take_all i room (omega arith)) (too_many room w rest)

    module _ (more : i < n) where
      pub no_word : words ≡ [] → exactly_of n all ≡ None
      no_word e = sym reading ∙ rw (e, ← size) (too_few room i (omega arith))

      module _ (w : List ℕ) (rest : List (List ℕ)) (e : words ≡ w ∷ rest) where
        pub no_sample : sample_of w ≡ None → exactly_of n all ≡ None
        unfolding samples_of
        no_sample s = sym reading ∙ rw (e, s) refl

        pub one_read : (x : ℤ) → sample_of w ≡ Some x → Reading (set room i x) rest (i + 1)
        unfolding samples_of
        one_read x s =
            sym (rw (e, s, add-one i, take-suc-set room i x (omega arith))
            (one_behind n (take i room) x (samples_of rest)))
            ∙ reading
