-- Sums over a list, as loops work them out: from the front, entry by entry or a part at a time, with what is summed so
-- far; and as a sum over the places of the list. Largest numbers and tests of a whole list are such sums.
-- Assumes nothing.
use mathlib.Core.Path.{◌≡◌, refl, sym, ap, ◌∙◌}
use mathlib.Core.Bool.{Bool, true, false, ◌||◌}
use mathlib.Core.List.{List, [], ◌∷◌, ◌++◌, map}
use Prim.Native.Nat.{ℕ, ◌+◌, ◌-◌, ◌<◌, ◌≤◌}
use native.Mathlib.Nat.{zero-max}
use native.Mathlib.Numerals.{add-one}
use native.Mathlib.Omega.{arith}
use lib.ListN.{length, get_or, take, drop, take-append-drop, drop_of_length-le}
use lib.Seq.{drop-cons, drop-drop}
use Rattle.integers.specs.Sum.{Addition, sum, on_max, on_or, over}
use Rattle.integers.specs.Tests.{some}
use Rattle.integers.proofs.Sums.{Lawful, sum_front}

pub maxima : Lawful on_max
maxima = record { idl = λ a. zero-max a; assoc = λ a b c. omega arith; comm = λ a b. omega arith }

pub tests : Lawful on_or
tests = record { idl = λ a. refl; assoc = assoc; comm = comm }
  where
    assoc : (a b c : Bool) → ((a || b) || c) ≡ (a || (b || c))
    assoc true b c = refl
    assoc false b c = refl

    comm : (a b : Bool) → (a || b) ≡ (b || a)
    comm true true = refl
    comm true false = refl
    comm false true = refl
    comm false false = refl

pub some_over : {A : Type 0} (f : A → Bool) (l : List A) → some f l ≡ over on_or f l
unfolding some over
some_over f [] = refl
some_over f (x ∷ xs) = ap (λ (t : Bool). f x || t) (some_over f xs)

module _ {A B : Type 0} (o : Addition B) (f : A → B) where
  pub over_map : {C : Type 0} (g : C → A) (l : List C) → over o f (map g l) ≡ over o (λ x. f (g x)) l
  unfolding over
  over_map g [] = refl
  over_map g (x ∷ xs) = ap (λ (y : B). o.plus (f (g x)) y) (over_map g xs)

  -- from place i on
  pub over_from : (l : List A) (i : ℕ) (d : A) → i < length l
      → over o f (drop i l) ≡ o.plus (f (get_or l i d)) (over o f (drop (i + 1) l))
  unfolding over
  over_from l i d h = rw (add-one, drop-cons l i d)

  pub over_behind : (l : List A) (i : ℕ) → length l ≤ i → over o f (drop i l) ≡ o.nought
  unfolding over
  over_behind l i h = rw (drop_of_length-le l h)

module _ {A B : Type 0} {o : Addition B} (w : Lawful o) (f : A → B) where
  over_append : (l m : List A) → over o f (l ++ m) ≡ o.plus (over o f l) (over o f m)
  unfolding over
  over_append [] m = sym (w.idl (over o f m))
  over_append (x ∷ xs) m =
      ap (λ (y : B). o.plus (f x) y) (over_append xs m) ∙ sym (w.assoc (f x) (over o f xs) (over o f m))

  -- a running sum s: one entry more
  pub over_next : (l : List A) (i : ℕ) (d : A) (s : B) → i < length l
      → o.plus (o.plus s (f (get_or l i d))) (over o f (drop (i + 1) l)) ≡ o.plus s (over o f (drop i l))
  over_next l i d s h =
      w.assoc s (f (get_or l i d)) (over o f (drop (i + 1) l))
      ∙ ap (λ (y : B). o.plus s y) (sym (over_from o f l i d h))

  -- the part from i to e, and what is behind it
  pub over_part : (l : List A) (i e : ℕ) → i ≤ e
      → over o f (drop i l) ≡ o.plus (over o f (take (e - i) (drop i l))) (over o f (drop e l))
  over_part l i e h =
      let k : i + (e - i) ≡ e = omega arith in
      ap (λ (m : List A). over o f m) (sym (take-append-drop (e - i) (drop i l)))
      ∙ over_append (take (e - i) (drop i l)) (drop (e - i) (drop i l))
      ∙ ap (λ (m : List A). o.plus (over o f (take (e - i) (drop i l))) (over o f m)) (drop-drop (e - i) i l
      ∙ ap (λ (n : ℕ). drop n l) k)

  -- and nothing more
  pub over_end : (l : List A) (i : ℕ) (s : B) → length l ≤ i → o.plus s (over o f (drop i l)) ≡ s
  over_end l i s h =
      ap (λ (y : B). o.plus s y) (over_behind o f l i h) ∙ w.comm s o.nought ∙ w.idl s

  -- over the places
  pub over_places : (l : List A) (d : A) → over o f l ≡ sum o (length l) (λ i. f (get_or l i d))
  unfolding over sum
  over_places [] d = refl
  over_places (x ∷ xs) d =
      ap (λ (y : B). o.plus (f x) y) (over_places xs d) ∙ sym (sum_front w (length xs) (λ i. f (get_or (x ∷ xs) i d)))
