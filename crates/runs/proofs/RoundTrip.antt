-- Levels in scan order and their symbols, of any number of places and any width of the run's field: what is written is
-- accepted and read back as it was, and what is accepted and read is written back as it was, so that an accepted list
-- is the only one that tells its levels. No levels but zeros have no symbols, and there are as many symbols as levels
-- that are not 0.
use mathlib.Core.Path.{◌≡◌, refl, sym, ap, ◌∙◌}
use mathlib.Core.Logic.{◌↔◌}
use mathlib.Core.Bool.{Bool, true, false, not, cond, ◌||◌, true≢false}
use mathlib.Core.List.{List, [], ◌∷◌, ◌++◌, map, append-nil}
use Prim.Native.Nat.{ℕ, zero, suc, ◌+◌, ◌-◌, ◌^◌, ◌≤◌, zero-le}
use native.Mathlib.Nat.{add-zero, zero-add}
use native.Mathlib.Omega.{arith}
use lib.ListN.{length, replicate, length-append, length-replicate}
use lib.IntN.{ℤ, pos, negsuc, neg_ℤ, nat_abs}
use borrow.Author.Tests.{ne_eqb, eq-eqb}
use Rattle.integers.specs.Sum.{at}
use Rattle.integers.specs.Tests.{some}
use Rattle.integers.proofs.Tests.{eq_ℤ→eq}
use Rattle.runs.specs.declared.Symbol.{Symbol}
use Rattle.runs.specs.Packing.{packed, unpacked}
use Rattle.runs.specs.Runs.{is_zero, nonzero, below0, nonzeros, symbol_of, symbols_after, symbols_of}
use Rattle.runs.specs.Runs.{level_of, levels_of, misread}
use Rattle.runs.specs.Inner.Front.{is_empty}
use Rattle.runs.proofs.Packing.{Fits, packed_tells_fields, packed_not_overfull, unpacked_fits, unpacked_packs}
use Rattle.runs.proofs.Misread.{map_empty, misread_none, taken_apart, put_together}

-- so many zeros
abbrev zeros : ℕ → List ℤ
zeros n = replicate n (pos 0)

-- ---- a level
zero_is : (z : ℤ) → is_zero z ≡ true → z ≡ pos 0
zero_is z e = eq_ℤ→eq z (pos 0) (rw e tt)

is_zero_lem : (z : ℤ) → nat_abs z ≡ 0 → is_zero z ≡ true
is_zero_lem (pos n) e = eq-eqb n 0 e
is_zero_lem (negsuc n) e = absurd (let z : ⊥ = omega arith in z)

not_zero : (z : ℤ) → (nat_abs z ≡ 0 → ⊥) → is_zero z ≡ false
not_zero (pos n) h = ne_eqb n 0 h
not_zero (negsuc n) h = refl

magnitude_above_0 : (z : ℤ) → is_zero z ≡ false → nat_abs z ≡ 0 → ⊥
magnitude_above_0 z e q = true≢false (sym (is_zero_lem z q) ∙ e)

level_back : (run : ℕ) (z : ℤ) (last : Bool) → level_of (symbol_of run z last) ≡ z
level_back run (pos n) last = refl
level_back run (negsuc n) last = refl

module _ (s : Symbol) where
  level_magnitude : nat_abs (level_of s) ≡ s.magnitude
  level_magnitude = by s.negative s.magnitude
    where
      by : (b : Bool) (m : ℕ) → nat_abs (cond b (neg_ℤ (pos m)) (pos m)) ≡ m
      by true zero = refl
      by true (suc m) = refl
      by false m = refl

  level_sign : (s.magnitude ≡ 0 → ⊥) → below0 (level_of s) ≡ s.negative
  level_sign = by s.negative s.magnitude
    where
      by : (b : Bool) (m : ℕ) → (m ≡ 0 → ⊥) → below0 (cond b (neg_ℤ (pos m)) (pos m)) ≡ b
      by true zero h = absurd (h refl)
      by true (suc m) h = refl
      by false m h = refl

-- ---- zeros before levels
zeros_more : (k : ℕ) (zs : List ℤ) → zeros (suc k) ++ zs ≡ zeros k ++ pos 0 ∷ zs
zeros_more zero zs = refl
zeros_more (suc k) zs = ap (λ (l : List ℤ). pos 0 ∷ l) (zeros_more k zs)

zeros_skipped : (k r : ℕ) (zs : List ℤ) → symbols_after k (zeros r ++ zs) ≡ symbols_after (k + r) zs
unfolding symbols_after
zeros_skipped k zero zs = ap (λ (n : ℕ). symbols_after n zs) (sym (add-zero k))
zeros_skipped k (suc r) zs =
    zeros_skipped (suc k) r zs ∙ ap (λ (n : ℕ). symbols_after n zs) (let e : suc k + r ≡ k + suc r = omega arith in e)

-- no symbol where no level is other than 0
pub no_symbol : (k : ℕ) (zs : List ℤ) → is_empty (symbols_after k zs) ≡ not (some nonzero zs)
unfolding symbols_after some
no_symbol k [] = refl
no_symbol k (z ∷ zs) = by (is_zero z) _ (no_symbol (suc k) zs)
  where
    by : (t : Bool) (here : Symbol) → is_empty (symbols_after (suc k) zs) ≡ not (some nonzero zs)
        → is_empty (cond t (symbols_after (suc k) zs) (here ∷ symbols_after 0 zs)) ≡ not (not t || some nonzero zs)
    by true here e = e
    by false here e = refl

-- ---- what is written is read back
levels_back : (k : ℕ) (zs : List ℤ) → levels_of (k + length zs) (symbols_after k zs) ≡ zeros k ++ zs
unfolding symbols_after levels_of
levels_back k [] = rw add-zero (sym (append-nil (zeros k)))
levels_back k (z ∷ zs) =
    by (is_zero z) refl _ (level_back k z true) refl (levels_back (suc k) zs) (levels_back 0 zs)
  where
    by : (t : Bool) → is_zero z ≡ t → (here : Symbol) → level_of here ≡ z → here.run ≡ k
        → levels_of (suc k + length zs) (symbols_after (suc k) zs) ≡ zeros (suc k) ++ zs
        → levels_of (0 + length zs) (symbols_after 0 zs) ≡ zs
        → levels_of (k + suc (length zs)) (cond t (symbols_after (suc k) zs) (here ∷ symbols_after 0 zs))
        ≡ zeros k ++ z ∷ zs
    by true h here l r e f =
        let n : k + suc (length zs) ≡ suc k + length zs = omega arith in
        rw (n, zero_is z h) (e ∙ zeros_more k zs)
    by false h here l r e f =
        let n : k + suc (length zs) - suc k ≡ 0 + length zs = omega arith in rw (r, n, l, f)

-- each symbol of levels fits, where the run's field counts all places
module _ (bits : ℕ) where
  fitting : (k : ℕ) (zs : List ℤ) → k + length zs ≤ 2 ^ bits → ((j : ℕ) → nat_abs (at zs j) ≤ 32767)
      → map (unpacked bits) (map (packed bits) (symbols_after k zs)) ≡ symbols_after k zs
  unfolding symbols_after
  fitting k [] room small = refl
  fitting k (z ∷ zs) room small =
      by (is_zero z) _ (record { run = omega arith; magnitude = omega (arith, small 0) })
      (fitting (suc k) zs (omega arith) (λ j. small (suc j)))
      (fitting 0 zs (omega arith) (λ j. small (suc j)))
    where
      by : (t : Bool) (here : Symbol) → Fits bits here
          → map (unpacked bits) (map (packed bits) (symbols_after (suc k) zs)) ≡ symbols_after (suc k) zs
          → map (unpacked bits) (map (packed bits) (symbols_after 0 zs)) ≡ symbols_after 0 zs
          → map (unpacked bits) (map (packed bits) (cond t (symbols_after (suc k) zs) (here ∷ symbols_after 0 zs)))
          ≡ cond t (symbols_after (suc k) zs) (here ∷ symbols_after 0 zs)
      by true here fits e f = e
      by false here fits e f = rw (packed_tells_fields bits here fits, f)

  -- and the list is accepted
  written_is_accepted_after : (k : ℕ) (zs : List ℤ) → k + length zs ≤ 2 ^ bits
      → ((j : ℕ) → nat_abs (at zs j) ≤ 32767)
      → misread bits (k + length zs) (map (packed bits) (symbols_after k zs)) ≡ false
  unfolding symbols_after
  written_is_accepted_after k [] room small = misread_none bits (k + 0)
  written_is_accepted_after k (z ∷ zs) room small =
      by (is_zero z) _ (record { run = omega arith; magnitude = omega (arith, small 0) }) refl
      (magnitude_above_0 z) (sym (no_symbol 0 zs) ∙ sym (map_empty (packed bits) (symbols_after 0 zs)))
      (written_is_accepted_after (suc k) zs (omega arith) (λ j. small (suc j)))
      (written_is_accepted_after 0 zs (omega arith) (λ j. small (suc j)))
    where
      rest : List ℕ
      rest = map (packed bits) (symbols_after 0 zs)

      by : (t : Bool) (here : Symbol) → Fits bits here → here.run ≡ k → (t ≡ false → here.magnitude ≡ 0 → ⊥)
          → here.last ≡ is_empty rest
          → misread bits (suc k + length zs) (map (packed bits) (symbols_after (suc k) zs)) ≡ false
          → misread bits (0 + length zs) rest ≡ false
          → misread bits (k + suc (length zs))
          (map (packed bits) (cond t (symbols_after (suc k) zs) (here ∷ symbols_after 0 zs)))
          ≡ false
      by true here fits r m l e f = let n : k + suc (length zs) ≡ suc k + length zs = omega arith in rw n e
      by false here fits r m l e f =
          let is = packed_tells_fields bits here fits in
          let n : k + suc (length zs) - suc k ≡ 0 + length zs = omega arith in
          put_together bits (k + suc (length zs)) (packed bits here) rest
          (record {
            magnitude = rw is (m refl);
            used = packed_not_overfull bits here fits;
            room = rw (is, r) (omega arith);
            mark = rw is l;
          })
          (rw (is, r, n) f)

  module _ (zs : List ℤ) (room : length zs ≤ 2 ^ bits) (small : (j : ℕ) → nat_abs (at zs j) ≤ 32767) where
    pub written_then_read : levels_of (length zs) (map (unpacked bits) (map (packed bits) (symbols_of zs))) ≡ zs
    unfolding symbols_of
    written_then_read =
        ap (levels_of (length zs)) (fitting 0 zs (omega arith) small)
        ∙ ap (λ (n : ℕ). levels_of n (symbols_after 0 zs)) (sym (zero-add (length zs)))
        ∙ levels_back 0 zs

    pub written_is_accepted : misread bits (length zs) (map (packed bits) (symbols_of zs)) ≡ false
    unfolding symbols_of
    written_is_accepted =
        ap (λ (n : ℕ). misread bits n (map (packed bits) (symbols_after 0 zs))) (sym (zero-add (length zs)))
        ∙ written_is_accepted_after 0 zs (omega arith) small

-- ---- what is read is written back
-- the first symbol's zeros and its level
front_symbol : (s : Symbol) (zs : List ℤ) → (s.magnitude ≡ 0 → ⊥) → s.last ≡ not (some nonzero zs)
    → symbols_after 0 (zeros s.run ++ level_of s ∷ zs) ≡ s ∷ symbols_after 0 zs
unfolding symbols_after
front_symbol s zs some_magnitude marked =
    let r = zero-add s.run in
    let m = level_magnitude s in
    let z = not_zero (level_of s) (λ e. some_magnitude (sym m ∙ e)) in
    let is : symbol_of (0 + s.run) (level_of s) (not (some nonzero zs)) ≡ s =
    λ i. record { run = r i; magnitude = m i; negative = level_sign s some_magnitude i; last = sym marked i } in
    zeros_skipped 0 s.run (level_of s ∷ zs) ∙ rw (z, is)

cons_small : (z : ℤ) (zs : List ℤ) → nat_abs z ≤ 32767 → ((j : ℕ) → nat_abs (at zs j) ≤ 32767)
    → (j : ℕ) → nat_abs (at (z ∷ zs) j) ≤ 32767
cons_small z zs h f zero = h
cons_small z zs h f (suc j) = f j

small_behind : (n : ℕ) (zs : List ℤ) → ((j : ℕ) → nat_abs (at zs j) ≤ 32767)
    → (j : ℕ) → nat_abs (at (zeros n ++ zs) j) ≤ 32767
small_behind zero zs f j = f j
small_behind (suc n) zs f j = cons_small (pos 0) (zeros n ++ zs) zero-le (small_behind n zs f) j

module _ (bits : ℕ) where
  -- the levels of n places that a list tells
  abbrev pub told : (n : ℕ) → List ℕ → List ℤ
  told n us = levels_of n (map (unpacked bits) us)

  pub read_then_written : (n : ℕ) (us : List ℕ) → misread bits n us ≡ false
      → map (packed bits) (symbols_of (told n us)) ≡ us
  unfolding symbols_of symbols_after levels_of
  read_then_written n [] ok =
      ap (λ (l : List ℤ). map (packed bits) (symbols_after 0 l)) (sym (append-nil (zeros n)))
      ∙ ap (map (packed bits)) (zeros_skipped 0 n [])
  read_then_written n (u ∷ rest) ok =
      let s = unpacked bits u in
      let t = taken_apart bits n u rest ok in
      let zs = told (n - suc s.run) rest in
      let e = read_then_written (n - suc s.run) rest t.1 in
      let marked : s.last ≡ not (some nonzero zs) =
      t.0.mark ∙ ap is_empty (sym e) ∙ map_empty (packed bits) (symbols_after 0 zs) ∙ no_symbol 0 zs in
      ap (map (packed bits)) (front_symbol s zs t.0.magnitude marked)
      ∙ rw (unpacked_packs bits u t.0.used, e)

  -- so an accepted list is the only one for its levels
  pub only_list : (n : ℕ) (us vs : List ℕ) → misread bits n us ≡ false → misread bits n vs ≡ false
      → told n us ≡ told n vs → us ≡ vs
  only_list n us vs ok too e =
      sym (read_then_written n us ok)
      ∙ ap (λ (zs : List ℤ). map (packed bits) (symbols_of zs)) e
      ∙ read_then_written n vs too

  pub levels_told : (n : ℕ) (us : List ℕ) → misread bits n us ≡ false → length (told n us) ≡ n
  unfolding levels_of
  levels_told n [] ok = length-replicate n (pos 0)
  levels_told n (u ∷ rest) ok =
      let s = unpacked bits u in
      let t = taken_apart bits n u rest ok in
      let e = levels_told (n - suc s.run) rest t.1 in
      length-append (zeros s.run) (level_of s ∷ told (n - suc s.run) rest)
      ∙ omega (arith, length-replicate s.run (pos 0), e, t.0.room)

  pub level_told_small : (n : ℕ) (us : List ℕ) (j : ℕ) → nat_abs (at (told n us) j) ≤ 32767
  unfolding levels_of
  level_told_small n [] j =
      rw (← (append-nil (zeros n))) (small_behind n [] (λ i. zero-le) j)
  level_told_small n (u ∷ rest) j =
      let s = unpacked bits u in
      small_behind s.run (level_of s ∷ told (n - suc s.run) rest)
      (cons_small (level_of s) (told (n - suc s.run) rest)
      (omega (arith, level_magnitude s, (unpacked_fits bits u).magnitude))
      (level_told_small (n - suc s.run) rest))
      j

-- ---- how many symbols
pub count_after : (k : ℕ) (zs : List ℤ) → length (symbols_after k zs) ≡ nonzeros zs
unfolding symbols_after nonzeros
count_after k [] = refl
count_after k (z ∷ zs) = by (is_zero z) _ (count_after (suc k) zs) (count_after 0 zs)
  where
    by : (t : Bool) (here : Symbol) → length (symbols_after (suc k) zs) ≡ nonzeros zs
        → length (symbols_after 0 zs) ≡ nonzeros zs
        → length (cond t (symbols_after (suc k) zs) (here ∷ symbols_after 0 zs)) ≡ cond t 0 1 + nonzeros zs
    by true here e f = omega arith
    by false here e f = omega arith

pub count_of_symbols : (zs : List ℤ) → length (symbols_of zs) ≡ nonzeros zs
unfolding symbols_of
count_of_symbols zs = count_after 0 zs

pub nonzeros_at_most_places : (zs : List ℤ) → nonzeros zs ≤ length zs
unfolding nonzeros
nonzeros_at_most_places [] = omega arith
nonzeros_at_most_places (z ∷ zs) = by (is_zero z) (nonzeros_at_most_places zs)
  where
    by : (t : Bool) → nonzeros zs ≤ length zs → cond t 0 1 + nonzeros zs ≤ suc (length zs)
    by true h = omega arith
    by false h = omega arith

-- ---- no symbol
zeros_only : (k : ℕ) (zs : List ℤ) → symbols_after k zs ≡ [] → (j : ℕ) → at zs j ≡ pos 0
unfolding symbols_after
zeros_only k [] e j = refl
zeros_only k (z ∷ zs) e j = by (is_zero z) refl _ e (zeros_only (suc k) zs) j
  where
    by : (t : Bool) → is_zero z ≡ t → (here : Symbol)
        → cond t (symbols_after (suc k) zs) (here ∷ symbols_after 0 zs) ≡ []
        → (symbols_after (suc k) zs ≡ [] → (j : ℕ) → at zs j ≡ pos 0) → (j : ℕ) → at (z ∷ zs) j ≡ pos 0
    by true h here e next zero = zero_is z h
    by true h here e next (suc j) = next e j
    by false h here e next j = absurd (true≢false (sym (ap is_empty e)))

none_of_zeros : (k : ℕ) (zs : List ℤ) → ((j : ℕ) → at zs j ≡ pos 0) → symbols_after k zs ≡ []
unfolding symbols_after
none_of_zeros k [] h = refl
none_of_zeros k (z ∷ zs) h = rw (is_zero_lem z (ap nat_abs (h 0))) (none_of_zeros (suc k) zs (λ j. h (suc j)))

pub empty_iff : (zs : List ℤ) → (symbols_of zs ≡ []) ↔ ((j : ℕ) → at zs j ≡ pos 0)
unfolding symbols_of
empty_iff zs = (zeros_only 0 zs, none_of_zeros 0 zs)
