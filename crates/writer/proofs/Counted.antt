-- The levels that are not 0, counted: one by one as a loop meets them, and by the symbols that are still to come.
use mathlib.Core.Path.{◌≡◌, refl, sym, ap, ◌∙◌}
use mathlib.Core.Bool.{Bool, true, false, cond}
use mathlib.Core.List.{List}
use Prim.Native.Nat.{ℕ, zero, suc, ◌+◌, ◌≤◌, ◌<◌}
use native.Mathlib.Numerals.{add-one}
use native.Mathlib.Omega.{arith}
use lib.ListN.{length, drop}
use lib.Seq.{drop-cons}
use lib.IntN.{ℤ, pos, negsuc}
use mir.Syntax.{w16}
use mir.Val.{to_z, of_z, SFits}
use mir.Facts.{to_z-of_z}
use borrow.Author.Tests.{ne_eqb}
use Rattle.integers.specs.Sum.{at, over, on_ℕ}
use Rattle.runs.specs.Runs.{is_zero}

-- 1 for a level that is not 0
abbrev pub ones : ℤ → ℕ
ones z = cond (is_zero z) 0 1

pub ones_few : (z : ℤ) → ones z ≤ 1
ones_few z = by (is_zero z)
  where
    by : (b : Bool) → cond b 0 1 ≤ 1
    by true = omega arith
    by false = omega arith

-- the machine's test of a level that it holds in 16 bits
pub is_0 : (z : ℤ) → SFits w16 z → of_z w16 z ≡ 0 → is_zero z ≡ true
is_0 z f e = ap is_zero (sym (to_z-of_z f) ∙ ap (to_z w16) e)

pub is_not_0 : (z : ℤ) → (of_z w16 z ≡ 0 → ⊥) → is_zero z ≡ false
is_not_0 (pos zero) h = absurd (h refl)
is_not_0 (pos (suc n)) h = ne_eqb (suc n) 0 (λ e. let no : ⊥ = omega arith in no)
is_not_0 (negsuc n) h = refl

-- a level at place i of a block, beside what is left to count behind it
module _ (block : List ℤ) (i : ℕ) (h : i < length block) where
  by_test : (b : Bool) → is_zero (at block i) ≡ b
      → over on_ℕ ones (drop i block) ≡ cond b 0 1 + over on_ℕ ones (drop (i + 1) block)
  unfolding over
  by_test b e =
      rw (add-one, drop-cons block i (pos 0) h) (ap (λ (c : Bool). cond c 0 1 + over on_ℕ ones (drop (suc i) block)) e)

  pub level_counted : (of_z w16 (at block i) ≡ 0 → ⊥)
      → over on_ℕ ones (drop i block) ≡ 1 + over on_ℕ ones (drop (i + 1) block)
  level_counted e = by_test false (is_not_0 (at block i) e)

  pub zero_counted : SFits w16 (at block i) → of_z w16 (at block i) ≡ 0
      → over on_ℕ ones (drop i block) ≡ over on_ℕ ones (drop (i + 1) block)
  zero_counted f e = omega (arith, by_test true (is_0 (at block i) f e))
