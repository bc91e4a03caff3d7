-- A symbol's tests, one after the other, come to what is wrong with it where it stands.
use mathlib.Core.Path.{◌≡◌, refl, sym, ap, ◌∙◌}
use mathlib.Core.Bool.{Bool, true, false, not, ◌||◌, beq}
use Prim.Native.Nat.{ℕ, suc, ◌≤◌, ◌<◌}
use native.Mathlib.Omega.{arith}
use mathlib.Core.Logic.{⊎_elim}
use borrow.Author.Tests.{lt-ltb, le-ltb, le-leb, lt-leb, ltb-false}
use Rattle.integers.proofs.Order.{below_or_not}
use lib.Dec.{eqb, leb, ltb}
use Rattle.integers.proofs.Tests.{neither}
use Rattle.runs.specs.declared.Symbol.{Symbol}
use Rattle.runs.specs.Packing.{unpacked, overfull}
use Rattle.runs.specs.Inner.Front.{wrong_mark, wrong_here}

mark_wrong : (last final : Bool) → not (beq last final) ≡ wrong_mark last final
mark_wrong true true = refl
mark_wrong true false = refl
mark_wrong false true = refl
mark_wrong false false = refl

-- a run past the places that are left
pub past : (n r : ℕ) → leb n r ≡ ltb n (suc r)
past n r =
    ⊎_elim (λ (h : n < suc r). rw (lt-ltb n (suc r) h, le-leb n r (omega arith)) refl)
    (λ (h : suc r ≤ n). rw (le-ltb n (suc r) h, lt-leb n r (omega arith)) refl)
    (below_or_not n (suc r))

module _ (bits n u : ℕ) (final : Bool) where
  -- the tests of the symbol, one after the other
  pub tests : (s : Symbol) → s ≡ unpacked bits u
      → (((eqb s.magnitude 0 || overfull bits u) || ltb n (suc s.run)) || not (beq s.last final))
      ≡ wrong_here bits n u final
  unfolding wrong_here
  tests s e =
      ap (λ (x : Symbol). (eqb x.magnitude 0 || overfull bits u || ltb n (suc x.run)) || not (beq x.last final)) e
      ∙ ap (λ (b : Bool). (let s = unpacked bits u in eqb s.magnitude 0 || overfull bits u || ltb n (suc s.run)) || b)
      (mark_wrong (unpacked bits u).last final)

  -- found by the first three
  pub found : (s : Symbol) → s ≡ unpacked bits u → ((eqb s.magnitude 0 || overfull bits u) || ltb n (suc s.run)) ≡ true
      → true ≡ wrong_here bits n u final
  found s e h = ap (λ (b : Bool). b || not (beq s.last final)) (sym h) ∙ tests s e

  -- or left to the last
  pub by_mark : (s : Symbol) → s ≡ unpacked bits u
      → ((eqb s.magnitude 0 || overfull bits u) || ltb n (suc s.run)) ≡ false
      → not (beq s.last final) ≡ wrong_here bits n u final
  by_mark s e h = ap (λ (b : Bool). b || not (beq s.last final)) (sym h) ∙ tests s e

  -- what is left is enough for a symbol that is not wrong
  pub right_run : wrong_here bits n u final ≡ false → suc (unpacked bits u).run ≤ n
  unfolding wrong_here
  right_run e =
      let s = unpacked bits u in
      let a = eqb s.magnitude 0 || overfull bits u in
      let b = ltb n (suc s.run) in
      ltb-false n (suc s.run) (neither a b (neither (a || b) (wrong_mark s.last final) e).0).1
