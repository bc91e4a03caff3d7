-- A list looked through from its front: what is wrong with the rest of it, from a place on.
use mathlib.Core.Path.{◌≡◌, refl, sym, ap, ◌∙◌}
use mathlib.Core.Bool.{Bool, false, ◌||◌}
use mathlib.Core.List.{List, [], ◌∷◌}
use Prim.Native.Nat.{ℕ, suc, ◌+◌, ◌-◌, ◌≤◌, ◌<◌}
use native.Mathlib.Numerals.{add-one}
use native.Mathlib.Omega.{arith}
use borrow.Author.Tests.{eq-eqb, ne_eqb}
use lib.Dec.{eqb}
use lib.ListN.{length, get_or, drop, length-drop, drop_of_length-le}
use lib.Seq.{drop-cons}
use Rattle.runs.specs.Packing.{unpacked}
use Rattle.runs.specs.Runs.{misread}
use Rattle.runs.specs.Inner.Front.{is_empty, wrong_here}
use Rattle.runs.proofs.Misread.{misread_none, misread_step}

-- nothing comes behind place i exactly if it is the list's last
last_place : {A : Type 0} (l : List A) (i : ℕ) → i < length l → is_empty (drop (i + 1) l) ≡ eqb (i + 1) (length l)
last_place {A = A} l i h = by (drop (i + 1) l) refl
  where
    by : (rest : List A) → drop (i + 1) l ≡ rest → is_empty rest ≡ eqb (i + 1) (length l)
    by [] e = sym (eq-eqb (i + 1) (length l) (omega (arith, length-drop (i + 1) l, ap length e)))
    by (x ∷ rest) e =
        sym (ne_eqb (i + 1) (length l)
        (λ q. let no : ⊥ = omega (arith, length-drop (i + 1) l, ap length e) in no))

-- from place i on, with n places left
pub misread_from : (bits n : ℕ) (us : List ℕ) (i : ℕ) → i < length us
    → misread bits n (drop i us)
    ≡ (wrong_here bits n (get_or us i 0) (eqb (i + 1) (length us))
    || misread bits (n - suc (unpacked bits (get_or us i 0)).run) (drop (i + 1) us))
misread_from bits n us i h =
    let u = get_or us i 0 in
    let rest = drop (i + 1) us in
    let e : drop i us ≡ u ∷ rest = rw add-one (drop-cons us i 0 h) in
    ap (misread bits n) e
    ∙ misread_step bits n u rest
    ∙ ap (λ (b : Bool). wrong_here bits n u b || misread bits (n - suc (unpacked bits u).run) rest) (last_place us i h)

pub nothing_left : (bits n : ℕ) (us : List ℕ) (i : ℕ) → length us ≤ i → misread bits n (drop i us) ≡ false
nothing_left bits n us i h = ap (misread bits n) (drop_of_length-le us h) ∙ misread_none bits n
