-- A list whose entries a loop replaces in their places, each by itself, from the front on: one a turn, or a part a
-- turn. When all are replaced it is the map of the list that was.
-- Assumes nothing.
use mathlib.Core.Path.{◌≡◌, sym, ◌∙◌, ap}
use mathlib.Core.List.{List, ◌∷◌, ◌++◌, map, map-append, append_assoc, append-nil}
use Prim.Native.Nat.{ℕ, suc, ◌+◌, ◌<◌, ◌≤◌}
use native.Mathlib.Nat.{add-zero}
use native.Mathlib.Numerals.{add-one}
use lib.ListN.{length, get_or, set, take, drop, length-map, drop_of_length-le}
use lib.Seq.{length-take-le, take_all, take_at, drop_at, set_at, take-suc, drop-cons, take-add, drop-drop}
use lib.Seq.{get_or-drop}

-- of xs the first i are replaced, which gives ys
abbrev pub Replaced : {A : Type 0} → (A → A) → List A → ℕ → List A → Type 0
Replaced f xs i ys = ys ≡ map f (take i xs) ++ drop i xs

module _ {A : Type 0} (f : A → A) (xs ys : List A) (i : ℕ) (h : i ≤ length xs) (e : Replaced f xs i ys) where
  front : length (map f (take i xs)) ≡ i
  front = length-map (take i xs) f ∙ length-take-le i xs h

  -- those behind stand as they stood
  pub behind : drop i ys ≡ drop i xs
  behind = ap (drop i) e ∙ drop_at (map f (take i xs)) (drop i xs) i front

  pub next_is : (d : A) → get_or ys i d ≡ get_or xs i d
  next_is d =
      let front_of : (zs : List A) → get_or (drop i zs) 0 d ≡ get_or zs i d =
      λ zs. get_or-drop i zs 0 d ∙ ap (λ (k : ℕ). get_or zs k d) (add-zero i) in
      sym (front_of ys) ∙ ap (λ (zs : List A). get_or zs 0 d) behind ∙ front_of xs

  -- one more
  pub replaced_more : (d v : A) → i < length xs → v ≡ f (get_or xs i d) → Replaced f xs (i + 1) (set ys i v)
  replaced_more d v l q =
      ap (λ (zs : List A). set zs i v) (e ∙ ap (λ (zs : List A). map f (take i xs) ++ zs) (drop-cons xs i d l))
      ∙ set_at (map f (take i xs)) (get_or xs i d) (drop (suc i) xs) v i front
      ∙ ap (λ (z : A). map f (take i xs) ++ (z ∷ drop (suc i) xs)) q
      ∙ sym (rw (add-one, take-suc xs i d l, map-append, append_assoc))

  -- and a part of k more, as it stands between what is before it and what is behind
  pub replaced_part : (k : ℕ)
      → Replaced f xs (i + k) (take i ys ++ (map f (take k (drop i ys)) ++ drop k (drop i ys)))
  replaced_part k =
      let before = ap (take i) e ∙ take_at (map f (take i xs)) (drop i xs) i front in
      rw (before, behind, take-add, map-append, append_assoc, drop-drop)

  pub replaced_all : length xs ≤ i → ys ≡ map f xs
  replaced_all l = e ∙ rw (take_all i xs l, drop_of_length-le xs l) (append-nil (map f xs))
