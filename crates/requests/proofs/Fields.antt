-- Fields read one by one: the numbers so far and what is left of kinds and words are together what all the kinds and
-- all the words are, and each field is within the limit of its kind.
use mathlib.Core.Logic.{⊎_elim}
use Rattle.std.proofs.Common.{◌≡◌, refl, sym, subst, ◌∙◌, List, [], ◌∷◌, ◌++◌, append_assoc, Option, Some, None, arith}
use Rattle.std.proofs.Common.{ℕ, zero, suc, ◌+◌, ◌≤◌, ◌<◌, length, take, drop, get_or, add-one, IfSome}
use Rattle.std.specs.Option.{option_map}
use native.Mathlib.Nat.{eq-or-lt_of_le, le_of_suc-le-suc}
use mathlib.Core.List.{append-nil}
use lib.ListN.{set, drop_of_length-le}
use lib.Seq.{get_or-set_other, drop-cons, take-suc-set}
use Rattle.numerals.specs.Number.{natural_up_to}
use Rattle.numerals.proofs.Reading.{within}
use Rattle.requests.specs.declared.kinds.Kind.{Kind}
use Rattle.requests.specs.declared.kinds.Kind.TheVariants.{Component}
use Rattle.requests.specs.Request.{◌>>=◌, limit_of, field_of, fields_of, Limited}
use Rattle.requests.specs.Inner.Left.{Fields}

-- ---- within the limits
pub natural_within : (limit : ℕ) (w : List ℕ) (r : Option ℕ) → r ≡ natural_up_to limit w → IfSome r (λ v. v ≤ limit)
natural_within limit w None e = tt
natural_within limit w (Some v) e = within limit w v (sym e)

put_here : (l : List ℕ) (i v m : ℕ) → v ≤ m → get_or (set l i v) i 0 ≤ m
put_here [] i v m h = omega arith
put_here (x ∷ l) zero v m h = h
put_here (x ∷ l) (suc i) v m h = put_here l i v m h

pub one_within : (kinds : List Kind) (fields : List ℕ) (i v : ℕ)
    → ((k : ℕ) → k < i → get_or fields k 0 ≤ limit_of (get_or kinds k Component))
    → v ≤ limit_of (get_or kinds i Component)
    → (k : ℕ) → k < i + 1 → get_or (set fields i v) k 0 ≤ limit_of (get_or kinds k Component)
one_within kinds fields i v before h k l =
    ⊎_elim
    (λ e. subst (λ (j : ℕ). get_or (set fields i v) j 0 ≤ limit_of (get_or kinds j Component)) (sym e)
    (put_here fields i v (limit_of (get_or kinds i Component)) h))
    (λ m. rw (get_or-set_other fields i k v 0 (λ e. other e m)) (before k m))
    (eq-or-lt_of_le (le_of_suc-le-suc (rw add-one at l)))
  where
    other : k ≡ i → k < i → ⊥
    other e m = omega arith

-- ---- what they are
-- behind the numbers that were read before
abbrev behind : List ℕ → Option (List ℕ × List (List ℕ)) → Option (List ℕ × List (List ℕ))
behind before = option_map (λ (p : List ℕ × List (List ℕ)). (before ++ p.0, p.1))

none_before : (o : Option (List ℕ × List (List ℕ))) → behind [] o ≡ o
none_before None = refl
none_before (Some p) = refl

one_behind : (before : List ℕ) (v : ℕ) (o : Option (List ℕ × List (List ℕ)))
    → behind before (o >>= λ p. Some (v ∷ p.0, p.1)) ≡ behind (before ++ (v ∷ [])) o
one_behind before v None = refl
one_behind before v (Some p) = rw append_assoc refl

module _ (kinds : List Kind) (all : List (List ℕ)) where
  -- i fields are read, and these words are left
  abbrev pub Reading : List ℕ → List (List ℕ) → ℕ → Type 0
  Reading fields words i = behind (take i fields) (fields_of (drop i kinds) words) ≡ fields_of kinds all

  pub begun : (fields : List ℕ) → Reading fields all 0
  begun fields = none_before (fields_of kinds all)

  module _ (fields : List ℕ) (words : List (List ℕ)) (i : ℕ) (reading : Reading fields words i) where
    pub all_read : length kinds ≤ i → fields_of kinds all ≡ Some (take i fields, words)
    unfolding fields_of
    all_read h = sym reading ∙ rw (drop_of_length-le kinds {i = i} h, append-nil) refl

    module _ (more : i < length kinds) where
      pub no_word : words ≡ [] → fields_of kinds all ≡ None
      unfolding fields_of
      no_word e = sym reading ∙ rw (e, drop-cons kinds i Component more) refl

      module _ (w : List ℕ) (rest : List (List ℕ)) (e : words ≡ w ∷ rest) where
        pub no_number : field_of (get_or kinds i Component) w ≡ None → fields_of kinds all ≡ None
        unfolding fields_of
        no_number f = sym reading ∙ rw (e, drop-cons kinds i Component more, f) refl

        pub one_read : (v : ℕ) → i < length fields → field_of (get_or kinds i Component) w ≡ Some v
            → Reading (set fields i v) rest (i + 1)
        unfolding fields_of
        one_read v room f =
            sym (rw (e, drop-cons kinds i Component more, f, add-one i, take-suc-set fields i v room)
            (one_behind (take i fields) v (fields_of (drop (suc i) kinds) rest)))
            ∙ reading

-- ---- what was read of all of them
pub unread : (kinds : List Kind) (words left : List (List ℕ)) → fields_of kinds words ≡ None → Fields kinds words left None
unread kinds words left e =
    record {
      read = e;
      within = λ fields q. absurd (let no : ◌≡◌ {A = ℕ} 0 1 = cc in let none : ⊥ = omega arith in none);
    }

pub read_lem : (kinds : List Kind) (words left : List (List ℕ)) (fields : List ℕ)
    → fields_of kinds words ≡ Some (take (length kinds) fields, left) → Limited kinds fields
    → Fields kinds words left (Some fields)
read_lem kinds words left fields e h =
    record {
      read = e;
      within = λ others q. let same : fields ≡ others = cc in subst (λ (l : List ℕ). Limited kinds l) same h;
    }
