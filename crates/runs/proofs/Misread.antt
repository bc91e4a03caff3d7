-- What a list has wrong, from its front: the first symbol is wrong where it stands, or what is behind it is wrong in
-- the places that are left. This is how code looks through a list, and how an accepted list is taken apart.
use mathlib.Core.Path.{◌≡◌, refl, sym, ap, ◌∙◌}
use mathlib.Core.Bool.{Bool, true, false, not, ◌&&◌, ◌||◌}
use mathlib.Core.List.{List, [], ◌∷◌, map}
use mathlib.Core.Logic.{⊎_elim}
use Prim.Native.Nat.{ℕ, suc, ◌+◌, ◌-◌, ◌<◌, ◌≤◌}
use native.Mathlib.Omega.{arith}
use lib.Dec.{eqb, ltb}
use borrow.Author.Tests.{lt-ltb, le-ltb, ltb-false, eqb-false, ne_eqb, not-false}
use Rattle.integers.specs.Tests.{some}
use Rattle.integers.proofs.Order.{below_or_not}
use Rattle.integers.proofs.Tests.{neither}
use Rattle.runs.specs.declared.Symbol.{Symbol}
use Rattle.runs.specs.Packing.{unpacked, overfull}
use Rattle.runs.specs.Runs.{taken, ends_marked, misread}
use Rattle.runs.specs.Inner.Front.{is_empty, wrong_mark, wrong_here}

-- n places hold two numbers of places, if they hold the first, and what is left the second
past_both : (n a b : ℕ) → ltb n (a + b) ≡ (ltb n a || ltb (n - a) b)
past_both n a b = ⊎_elim short (λ h. ⊎_elim (less h) (more h) (below_or_not (n - a) b)) (below_or_not n a)
  where
    short : n < a → ltb n (a + b) ≡ (ltb n a || ltb (n - a) b)
    short h = rw (lt-ltb n a h, lt-ltb n (a + b) (omega arith))

    less : a ≤ n → n - a < b → ltb n (a + b) ≡ (ltb n a || ltb (n - a) b)
    less h k = rw (le-ltb n a h, lt-ltb (n - a) b k, lt-ltb n (a + b) (omega arith))

    more : a ≤ n → b ≤ n - a → ltb n (a + b) ≡ (ltb n a || ltb (n - a) b)
    more h k = rw (le-ltb n a h, le-ltb (n - a) b k, le-ltb n (a + b) (omega arith))

mark_of_the_first : (s : Symbol) (rest : List Symbol)
    → not (ends_marked (s ∷ rest)) ≡ (wrong_mark s.last (is_empty rest) || not (ends_marked rest))
unfolding ends_marked
mark_of_the_first s [] = no_more (not s.last)
  where
    no_more : (b : Bool) → b ≡ (b || false)
    no_more true = refl
    no_more false = refl
mark_of_the_first s (t ∷ rest) = by s.last
  where
    by : (b : Bool) → not (not b && ends_marked (t ∷ rest)) ≡ (b || not (ends_marked (t ∷ rest)))
    by true = refl
    by false = refl

pub map_empty : {A B : Type 0} (f : A → B) (l : List A) → is_empty (map f l) ≡ is_empty l
map_empty f [] = refl
map_empty f (x ∷ xs) = refl

-- tests of the first and of the rest, put together
exchange : (a b c d : Bool) → ((a || b) || (c || d)) ≡ ((a || c) || (b || d))
exchange true b c d = refl
exchange false true true d = refl
exchange false true false d = refl
exchange false false c d = refl

all_four : (a e b f c g d h : Bool)
    → ((((a || e) || (b || f)) || (c || g)) || (d || h)) ≡ ((((a || b) || c) || d) || (((e || f) || g) || h))
all_four a e b f c g d h =
    ap (λ (t : Bool). (t || (c || g)) || (d || h)) (exchange a e b f)
    ∙ ap (λ (t : Bool). t || (d || h)) (exchange (a || b) (e || f) c g)
    ∙ exchange ((a || b) || c) ((e || f) || g) d h

pub misread_none : (bits n : ℕ) → misread bits n [] ≡ false
unfolding misread
misread_none bits n = rw (le-ltb n 0 (omega arith))

pub misread_step : (bits n u : ℕ) (rest : List ℕ)
    → misread bits n (u ∷ rest)
    ≡ (wrong_here bits n u (is_empty rest) || misread bits (n - suc (unpacked bits u).run) rest)
unfolding misread wrong_here
misread_step bits n u rest =
    let s = unpacked bits u in
    let ss = map (unpacked bits) rest in
    -- each test, of the first symbol and of those behind it
    let a = eqb s.magnitude 0 in
    let e = some (λ s. eqb s.magnitude 0) ss in
    let b = overfull bits u in
    let f = some (overfull bits) rest in
    let c = ltb n (suc s.run) in
    let g = ltb (n - suc s.run) (taken ss) in
    let d = wrong_mark s.last (is_empty rest) in
    let h = not (ends_marked ss) in
    let mark : not (ends_marked (s ∷ ss)) ≡ (d || h) =
    mark_of_the_first s ss ∙ ap (λ (t : Bool). wrong_mark s.last t || h) (map_empty (unpacked bits) rest) in
    ap (λ (t : Bool). (a || e) || (b || f) || t || not (ends_marked (s ∷ ss))) (past_both n (suc s.run) (taken ss))
    ∙ ap (λ (t : Bool). (a || e) || (b || f) || (c || g) || t) mark
    ∙ all_four a e b f c g d h

-- ---- nothing wrong
-- u is right with n places left, as the list's final symbol or as another
pub record Right (bits n u : ℕ) (final : Bool) : Type 0 where
  pub magnitude : (unpacked bits u).magnitude ≡ 0 → ⊥
  pub used : overfull bits u ≡ false
  pub room : suc (unpacked bits u).run ≤ n
  pub mark : (unpacked bits u).last ≡ final

right_mark : (last final : Bool) → wrong_mark last final ≡ false → last ≡ final
right_mark last true e = not-false last e
right_mark last false e = e

not_wrong_mark : (b : Bool) → wrong_mark b b ≡ false
not_wrong_mark true = refl
not_wrong_mark false = refl

module _ (bits n u : ℕ) where
  pub right_here : (final : Bool) → wrong_here bits n u final ≡ false → Right bits n u final
  unfolding wrong_here
  right_here final e =
      let s = unpacked bits u in
      let a = eqb s.magnitude 0 in
      let b = overfull bits u in
      let c = ltb n (suc s.run) in
      let first = neither (a || b || c) (wrong_mark s.last final) e in
      let second = neither (a || b) c first.0 in
      let third = neither a b second.0 in
      record {
        magnitude = eqb-false s.magnitude 0 third.0;
        used = third.1;
        room = ltb-false n (suc s.run) second.1;
        mark = right_mark s.last final first.1;
      }

  pub not_wrong : (final : Bool) → Right bits n u final → wrong_here bits n u final ≡ false
  unfolding wrong_here
  not_wrong final r =
      let s = unpacked bits u in
      rw (ne_eqb s.magnitude 0 r.magnitude, r.used, le-ltb n (suc s.run) r.room, r.mark)
      (not_wrong_mark final)

  module _ (rest : List ℕ) where
    abbrev left : ℕ
    left = n - suc (unpacked bits u).run

    pub taken_apart : misread bits n (u ∷ rest) ≡ false
        → Right bits n u (is_empty rest) × (misread bits left rest ≡ false)
    taken_apart e =
        let b = neither (wrong_here bits n u (is_empty rest)) (misread bits left rest)
        (sym (misread_step bits n u rest) ∙ e) in
        (right_here (is_empty rest) b.0, b.1)

    pub put_together : Right bits n u (is_empty rest) → misread bits left rest ≡ false
        → misread bits n (u ∷ rest) ≡ false
    put_together r e = misread_step bits n u rest ∙ rw (not_wrong (is_empty rest) r) e
