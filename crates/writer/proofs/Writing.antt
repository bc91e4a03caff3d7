-- The list as the writer's loop fills it: the first k symbols stand, the others are those of the levels from place p
-- on, with `run` zeros before it. When all are written, it is the block's list over the one that was lent.
use mathlib.Core.Path.{◌≡◌, refl, sym, ap, subst, ◌∙◌}
use mathlib.Core.Bool.{Bool, true, false, not, cond}
use mathlib.Core.List.{List, [], ◌∷◌, ◌++◌, map, append_assoc, append-nil}
use Prim.Native.Nat.{ℕ, zero, suc, ◌+◌, ◌≤◌, ◌<◌}
use native.Mathlib.Numerals.{add-one}
use native.Mathlib.Omega.{arith}
use borrow.Author.Tests.{eq-eqb, ne_eqb}
use lib.Dec.{eqb}
use lib.ListN.{length, set, take, drop, length-set, length-drop, take-append-drop}
use lib.Seq.{drop-cons, take-suc-set, take-set-le, drop-set-lt}
use lib.IntN.{ℤ, pos}
use Rattle.integers.specs.Sum.{at, over}
use Rattle.integers.specs.Tests.{some}
use Rattle.runs.specs.declared.Symbol.{Symbol}
use Rattle.runs.specs.Packing.{packed}
use Rattle.runs.specs.Runs.{is_zero, nonzero, nonzeros, symbol_of, symbols_after, symbols_of}
use Rattle.runs.specs.Inner.Front.{is_empty}
use Rattle.runs.proofs.RoundTrip.{no_symbol, count_after, nonzeros_at_most_places}

-- ---- what is still to be written
no_more : {A : Type 0} (l : List A) → length l ≡ 0 → l ≡ []
no_more [] e = refl
no_more (x ∷ l) e = absurd (let no : ⊥ = omega arith in no)

none_left : (run : ℕ) (zs : List ℤ) → nonzeros zs ≡ 0 → symbols_after run zs ≡ []
none_left run zs e = no_more (symbols_after run zs) (count_after run zs ∙ e)

empty_by_length : {A : Type 0} (l : List A) → is_empty l ≡ eqb (length l) 0
empty_by_length [] = refl
empty_by_length (x ∷ l) = sym (ne_eqb (suc (length l)) 0 (λ e. let no : ⊥ = omega arith in no))

-- a symbol is the last one exactly if no level behind it is other than 0
last_symbol : (k count : ℕ) (zs : List ℤ) → k + 1 + nonzeros zs ≡ count → eqb (k + 1) count ≡ not (some nonzero zs)
last_symbol k count zs e =
    by (nonzeros zs) refl ∙ sym (ap (λ (m : ℕ). eqb m 0) (count_after 0 zs)) ∙ sym (empty_by_length (symbols_after 0 zs))
    ∙ no_symbol 0 zs
  where
    by : (m : ℕ) → nonzeros zs ≡ m → eqb (k + 1) count ≡ eqb m 0
    by zero q = eq-eqb (k + 1) count (omega arith)
    by (suc m) q =
        ne_eqb (k + 1) count (λ r. let no : ⊥ = omega arith in no)
        ∙ sym (ne_eqb (suc m) 0 (λ r. let no : ⊥ = omega arith in no))

module _ (bits : ℕ) (all : List ℤ) (before : List ℕ) (count : ℕ) where
  pub record Writing (list : List ℕ) (run p k : ℕ) : Type 0 where
    pub counted : k + nonzeros (drop p all) ≡ count
    pub zeros : run ≤ p
    pub is :
        map (packed bits) (symbols_of all) ≡ take k list ++ map (packed bits) (symbols_after run (drop p all))
    pub behind : drop count list ≡ drop count before
    pub room : length list ≡ length before

  pub writing_as : {list : List ℕ} {run s p k j : ℕ} → run ≡ s → k ≡ j → Writing list s p j → Writing list run p k
  writing_as {list} {run} {s} {p} {k} {j} e f w =
      subst (λ (x : ℕ). Writing list x p k) (sym e) (subst (λ (x : ℕ). Writing list s p x) (sym f) w)

  pub writing_none : count ≡ nonzeros all → Writing before 0 0 0
  unfolding symbols_of
  writing_none e = record { counted = omega (arith, e); zeros = omega arith; is = refl; behind = refl; room = refl }

  module _ (list : List ℕ) (run p k : ℕ) (w : Writing list run p k) where
    -- there is a level left where a symbol is
    pub place_left : k < count → p < length all
    place_left h = omega (arith, w.counted, nonzeros_at_most_places (drop p all), length-drop p all)

    module _ (h : k < count) (enough : count ≤ length before) (v : ℕ) where
      abbrev pub z : ℤ
      z = at all p

      abbrev rest : List ℤ
      rest = drop (p + 1) all

      next : drop p all ≡ z ∷ rest
      next = rw add-one (drop-cons all p (pos 0) (place_left h))

      still : drop count (set list k v) ≡ drop count before
      still = drop-set-lt count list k v h ∙ w.behind

      left_after : drop p all ≡ z ∷ rest → nonzeros (drop p all) ≡ cond (is_zero z) 0 1 + nonzeros rest
      unfolding nonzeros over
      left_after e = ap nonzeros e

      symbols_after_lem : symbols_after run (drop p all)
          ≡ cond (is_zero z) (symbols_after (suc run) rest)
          (symbol_of run z (not (some nonzero rest)) ∷ symbols_after 0 rest)
      unfolding symbols_after
      symbols_after_lem = ap (symbols_after run) next

      pub writing_zero : is_zero z ≡ true → Writing (set list k v) (run + 1) (p + 1) k
      writing_zero e =
          let n : nonzeros (drop p all) ≡ nonzeros rest = left_after next ∙ rw e (omega arith) in
          let q : suc run ≡ run + 1 = omega arith in
          let s : symbols_after run (drop p all) ≡ symbols_after (run + 1) rest =
          symbols_after_lem ∙ rw e (ap (λ (m : ℕ). symbols_after m rest) q) in
          record {
            counted = omega (arith, w.counted, n);
            zeros = omega (arith, w.zeros);
            is =
                w.is ∙ ap (λ (ss : List Symbol). take k list ++ map (packed bits) ss) s
                ∙ ap (λ (l : List ℕ). l ++ map (packed bits) (symbols_after (run + 1) rest))
                (sym (take-set-le k list k v (omega arith)));
            behind = still;
            room = length-set list k v ∙ w.room;
          }

      pub writing_symbol : is_zero z ≡ false → v ≡ packed bits (symbol_of run z (eqb (k + 1) count))
          → Writing (set list k v) 0 (p + 1) (k + 1)
      writing_symbol e stored =
          let n : nonzeros (drop p all) ≡ 1 + nonzeros rest = left_after next ∙ rw e refl in
          let left : k + 1 + nonzeros rest ≡ count = omega (arith, w.counted, n) in
          let here = symbol_of run z (not (some nonzero rest)) in
          let s : symbols_after run (drop p all) ≡ here ∷ symbols_after 0 rest = symbols_after_lem ∙ rw e refl in
          let is_here : packed bits here ≡ v =
          ap (λ (b : Bool). packed bits (symbol_of run z b)) (sym (last_symbol k count rest left)) ∙ sym stored in
          let behind = map (packed bits) (symbols_after 0 rest) in
          let front : take (k + 1) (set list k v) ≡ take k list ++ (v ∷ []) =
          rw add-one (take-suc-set list k v (omega (arith, w.room))) in
          record {
            counted = left;
            zeros = omega arith;
            is =
                w.is ∙ ap (λ (ss : List Symbol). take k list ++ map (packed bits) ss) s
                ∙ ap (λ (x : ℕ). take k list ++ x ∷ behind) is_here
                ∙ sym (append_assoc (take k list) (v ∷ []) behind)
                ∙ ap (λ (l : List ℕ). l ++ behind)
                (sym front);
            behind = still;
            room = length-set list k v ∙ w.room;
          }

    pub writing_all : count ≤ k → list ≡ map (packed bits) (symbols_of all) ++ drop count before
    writing_all h =
        let e : k ≡ count = omega (arith, w.counted) in
        let none : nonzeros (drop p all) ≡ 0 = omega (arith, w.counted) in
        let all_written : map (packed bits) (symbols_of all) ≡ take count list =
        w.is
        ∙ ap (λ (ss : List Symbol). take k list ++ map (packed bits) ss) (none_left run (drop p all) none)
        ∙ append-nil (take k list)
        ∙ ap (λ (m : ℕ). take m list) e in
        sym (take-append-drop count list)
        ∙ ap (λ (l : List ℕ). l ++ drop count list) (sym all_written)
        ∙ ap (λ (l : List ℕ). map (packed bits) (symbols_of all) ++ l) w.behind
