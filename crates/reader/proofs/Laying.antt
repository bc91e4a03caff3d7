-- The block as the reader's loop fills it: the first i symbols are laid, up to scan place p, and all places from there
-- on are still 0. When all are laid it is the block that the list tells.
use mathlib.Core.Path.{◌≡◌, refl, sym, ap, subst, ◌∙◌}
use mathlib.Core.Bool.{false}
use mathlib.Core.List.{List, [], ◌∷◌, ◌++◌, map}
use Prim.Native.Nat.{ℕ, zero, suc, ◌+◌, ◌-◌, ◌*◌, ◌≤◌, ◌<◌}
use native.Mathlib.Numerals.{add-one}
use native.Mathlib.Omega.{arith}
use lib.ListN.{length, get_or, set, take, drop, replicate, length-set, length-drop, length-replicate, get_or-replicate}
use lib.ListN.{take-append-drop, drop_of_length-le}
use lib.Seq.{drop-cons, drop-drop, get_or-drop, get_or-take, length-take-le, get_or-set_other, set-get_or}
use lib.IntN.{ℤ, pos}
use Rattle.integers.specs.Sum.{at}
use Rattle.scan.specs.Scan.{scan, scan_at}
use Rattle.scan.specs.Order.{laid}
use Rattle.scan.proofs.OneToOne.{scan_inside, scan_apart}
use Rattle.runs.specs.declared.Symbol.{Symbol}
use Rattle.runs.specs.Packing.{unpacked}
use Rattle.runs.specs.Runs.{level_of, levels_of, misread}
use Rattle.runs.specs.Inner.Front.{is_empty}
use Rattle.runs.proofs.Misread.{Right, taken_apart}

-- ---- values laid one list after the other, and values laid where they stand
laid_append : (ps qs : List ℕ) (vs us l : List ℤ) → length ps ≡ length vs
    → laid (ps ++ qs) (vs ++ us) l ≡ laid qs us (laid ps vs l)
unfolding laid
laid_append [] qs [] us l e = refl
laid_append [] qs (v ∷ vs) us l e = absurd (let no : ⊥ = omega arith in no)
laid_append (p ∷ ps) qs [] us l e = absurd (let no : ⊥ = omega arith in no)
laid_append (p ∷ ps) qs (v ∷ vs) us l e = laid_append ps qs vs us (set l p v) (omega arith)

zeros_laid : (m : ℕ) (ps : List ℕ) (l : List ℤ) → ((k : ℕ) → k < length ps → at l (get_or ps k 0) ≡ pos 0)
    → laid ps (replicate m (pos 0)) l ≡ l
unfolding laid
zeros_laid zero [] l z = refl
zeros_laid zero (p ∷ ps) l z = refl
zeros_laid (suc m) [] l z = refl
zeros_laid (suc m) (p ∷ ps) l z =
    ap (λ (v : ℤ). laid ps (replicate m (pos 0)) (set l p v)) (sym (z 0 (omega arith)))
    ∙ ap (laid ps (replicate m (pos 0))) (set-get_or l p (pos 0))
    ∙ zeros_laid m ps l (λ k h. z (suc k) (omega arith))

module _ (bits w h : ℕ) (list : List ℕ) (before : List ℤ) where
  abbrev ss : ℕ → List Symbol
  ss i = map (unpacked bits) (drop i list)

  pub record Laying (block : List ℤ) (p i : ℕ) : Type 0 where
    pub is :
        laid (scan w h) (levels_of (w * h) (map (unpacked bits) list)) before
        ≡ laid (drop p (scan w h)) (levels_of (w * h - p) (ss i)) block
    pub clear : (k : ℕ) → p ≤ k → k < w * h → at block (scan_at w h k) ≡ pos 0
    pub right : misread bits (w * h - p) (drop i list) ≡ false
    pub room : length block ≡ w * h
    pub inside : p ≤ w * h

  pub laying_as : {block b : List ℤ} {p q i : ℕ} → block ≡ b → p ≡ q → Laying b q i → Laying block p i
  laying_as {block} {b} {p} {q} {i} e f l =
      subst (λ (x : List ℤ). Laying x p i) (sym e) (subst (λ (x : ℕ). Laying b x i) (sym f) l)

  module _ (hw : 1 ≤ w) (hh : 1 ≤ h) (full : length (scan w h) ≡ w * h) where
    pub laying_none : misread bits (w * h) list ≡ false → before ≡ replicate (w * h) (pos 0) → Laying before 0 0
    laying_none right e =
        let n : w * h - 0 ≡ w * h = omega arith in
        record {
          is = ap (λ (m : ℕ). laid (scan w h) (levels_of m (map (unpacked bits) list)) before) (sym n);
          clear = λ k from lt.
              ap (λ (l : List ℤ). at l (scan_at w h k)) e
              ∙ get_or-replicate (w * h) (scan_at w h k) (pos 0) (pos 0) (scan_inside w h hw hh k (omega arith));
          right = ap (λ (m : ℕ). misread bits m list) n ∙ right;
          room = ap length e ∙ length-replicate (w * h) (pos 0);
          inside = omega arith;
        }

    module _ (block : List ℤ) (p i : ℕ) (l : Laying block p i) where
      abbrev pub s : Symbol
      s = unpacked bits (get_or list i 0)

      abbrev pub q : ℕ
      q = p + s.run

      -- the places from p on hold 0
      still : (k : ℕ) → p + k < w * h → at block (get_or (drop p (scan w h)) k 0) ≡ pos 0
      unfolding scan_at
      still k lt = ap (at block) (get_or-drop p (scan w h) k 0) ∙ l.clear (p + k) (omega arith) lt

      module _ (lt : i < length list) where
        next : drop i list ≡ get_or list i 0 ∷ drop (i + 1) list
        next = rw add-one (drop-cons list i 0 lt)

        -- the symbol here is right, and so is what is behind it
        apart : Right bits (w * h - p) (get_or list i 0) (is_empty (drop (i + 1) list))
            × (misread bits (w * h - p - suc s.run) (drop (i + 1) list) ≡ false)
        apart =
            taken_apart bits (w * h - p) (get_or list i 0) (drop (i + 1) list)
            (sym (ap (misread bits (w * h - p)) next) ∙ l.right)

        pub place_inside : q < w * h
        place_inside = omega (arith, apart.0.room, l.inside)

        fewer : w * h - p - suc s.run ≡ w * h - (q + 1)
        fewer = omega (arith, apart.0.room, l.inside)

        abbrev front : List ℕ
        front = take s.run (drop p (scan w h))

        front_length : length front ≡ s.run
        front_length =
            length-take-le s.run (drop p (scan w h)) (omega (arith, length-drop p (scan w h), place_inside, full))

        front_zero : (k : ℕ) → k < length front → at block (get_or front k 0) ≡ pos 0
        front_zero k lk =
            let j : k < s.run = omega (arith, lk, front_length) in
            ap (at block) (get_or-take s.run (drop p (scan w h)) k 0 j) ∙ still k (omega (arith, place_inside))

        places : drop p (scan w h) ≡ front ++ scan_at w h q ∷ drop (q + 1) (scan w h)
        unfolding scan_at
        places =
            let here : drop q (scan w h) ≡ get_or (scan w h) q 0 ∷ drop (q + 1) (scan w h) =
            rw add-one (drop-cons (scan w h) q 0 (omega (arith, place_inside, full))) in
            sym (take-append-drop s.run (drop p (scan w h)))
            ∙ ap (λ (x : List ℕ). front ++ x) (drop-drop s.run p (scan w h) ∙ here)

        levels : levels_of (w * h - p) (ss i)
            ≡ replicate s.run (pos 0) ++ level_of s ∷ levels_of (w * h - (q + 1)) (ss (i + 1))
        unfolding levels_of
        levels =
            ap (λ (x : List ℕ). levels_of (w * h - p) (map (unpacked bits) x)) next
            ∙ ap (λ (m : ℕ). replicate s.run (pos 0) ++ level_of s ∷ levels_of m (ss (i + 1))) fewer

        -- the zeros before it stand already, and its level is put
        laid_here : laid (drop p (scan w h)) (levels_of (w * h - p) (ss i)) block
            ≡ laid (drop (q + 1) (scan w h)) (levels_of (w * h - (q + 1)) (ss (i + 1)))
            (set block (scan_at w h q) (level_of s))
        unfolding laid
        laid_here =
            let behind = level_of s ∷ levels_of (w * h - (q + 1)) (ss (i + 1)) in
            let on = scan_at w h q ∷ drop (q + 1) (scan w h) in
            ap (λ (x : List ℕ). laid x (levels_of (w * h - p) (ss i)) block) places
            ∙ ap (λ (x : List ℤ). laid (front ++ on) x block) levels
            ∙ laid_append front on (replicate s.run (pos 0)) behind block
            (front_length ∙ sym (length-replicate s.run (pos 0)))
            ∙ ap (laid on behind) (zeros_laid s.run front block front_zero)

        pub laying_more : Laying (set block (scan_at w h q) (level_of s)) (q + 1) (i + 1)
        laying_more =
            record {
              is = l.is ∙ laid_here;
              clear = λ k from lk.
                  get_or-set_other block (scan_at w h q) (scan_at w h k) (level_of s) (pos 0)
                  (λ e.
                  let same = scan_apart w h hw hh k q (omega (arith, full)) (omega (arith, place_inside, full)) e in
                  let no : ⊥ = omega arith in no)
                  ∙ l.clear k (omega arith) lk;
              right = ap (λ (m : ℕ). misread bits m (drop (i + 1) list)) (sym fewer) ∙ apart.1;
              room = length-set block (scan_at w h q) (level_of s) ∙ l.room;
              inside = omega (arith, place_inside);
            }

      pub laying_all : length list ≤ i → block ≡ laid (scan w h) (levels_of (w * h) (map (unpacked bits) list)) before
      unfolding levels_of
      laying_all done =
          sym
          (l.is
          ∙ ap (λ (x : List ℕ). laid (drop p (scan w h)) (levels_of (w * h - p) (map (unpacked bits) x)) block)
          (drop_of_length-le list done)
          ∙ zeros_laid (w * h - p) (drop p (scan w h)) block
          (λ k lk. still k (omega (arith, lk, length-drop p (scan w h), full, l.inside))))
