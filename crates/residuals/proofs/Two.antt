-- A block of 2 by 2, once its four places hold what was settled: it is the definition's list.
use mathlib.Core.Path.{◌≡◌, sym, ◌∙◌, ap}
use mathlib.Core.List.{List}
use Prim.Native.Nat.{ℕ, zero, suc, ◌/◌, ◌%◌, ◌<◌}
use native.Mathlib.Omega.{arith}
use lib.ListN.{length, set, length-set}
use lib.Seq.{get_or-set_same, get_or-set_other}
use lib.IntN.{ℤ, pos, ◌+ℤ◌, ◌-ℤ◌, ◌*ℤ◌}
use Rattle.integers.specs.Sum.{at}
use Rattle.integers.specs.Floor.{rounded}
use Rattle.integers.specs.Clip.{clipped}
use Rattle.decoding.specs.Inverse.{product_back, residuals}
use Rattle.decoding.proofs.Two.{product00, product01, product10, product11}
use Rattle.residuals.proofs.Whole.{listed_is}

-- 4096 times z, settled
abbrev pub settled_to : ℤ → ℤ
settled_to z = clipped (rounded (pos 4096 *ℤ z) 17)

module _ (c : List ℤ) (long : length c ≡ 4) (r00 r01 r10 r11 : ℤ)
    (e00 : r00 ≡ settled_to ((at c 0 +ℤ at c 1) +ℤ (at c 2 +ℤ at c 3)))
    (e01 : r01 ≡ settled_to ((at c 0 -ℤ at c 1) +ℤ (at c 2 -ℤ at c 3)))
    (e10 : r10 ≡ settled_to ((at c 0 +ℤ at c 1) -ℤ (at c 2 +ℤ at c 3)))
    (e11 : r11 ≡ settled_to ((at c 0 -ℤ at c 1) -ℤ (at c 2 -ℤ at c 3))) where
  abbrev out : List ℤ
  out = set (set (set (set c 0 r00) 1 r01) 2 r10) 3 r11

  -- the list after each store
  abbrev first : List ℤ
  first = set c 0 r00

  abbrev second : List ℤ
  second = set first 1 r01

  abbrev third : List ℤ
  third = set second 2 r10

  abbrev residual_at : ℕ → ℤ
  residual_at i = clipped (rounded (product_back c 2 2 (i / 2) (i % 2)) 17)

  place : (i : ℕ) → i < 4 → at out i ≡ residual_at i
  place zero h =
      get_or-set_other third 3 0 r11 (pos 0) (λ e. omega arith)
      ∙ get_or-set_other second 2 0 r10 (pos 0) (λ e. omega arith)
      ∙ get_or-set_other first 1 0 r01 (pos 0) (λ e. omega arith)
      ∙ get_or-set_same c 0 r00 (pos 0) (omega arith)
      ∙ e00
      ∙ ap (λ (z : ℤ). clipped (rounded z 17)) (sym (product00 c))
  place (suc zero) h =
      get_or-set_other third 3 1 r11 (pos 0) (λ e. omega arith)
      ∙ get_or-set_other second 2 1 r10 (pos 0) (λ e. omega arith)
      ∙ get_or-set_same first 1 r01 (pos 0) (simp length-set (omega arith))
      ∙ e01
      ∙ ap (λ (z : ℤ). clipped (rounded z 17)) (sym (product01 c))
  place (suc (suc zero)) h =
      get_or-set_other third 3 2 r11 (pos 0) (λ e. omega arith)
      ∙ get_or-set_same second 2 r10 (pos 0) (simp length-set (omega arith))
      ∙ e10
      ∙ ap (λ (z : ℤ). clipped (rounded z 17)) (sym (product10 c))
  place (suc (suc (suc zero))) h =
      get_or-set_same third 3 r11 (pos 0) (simp length-set (omega arith))
      ∙ e11
      ∙ ap (λ (z : ℤ). clipped (rounded z 17)) (sym (product11 c))
  place (suc (suc (suc (suc i)))) h = absurd (let no : ⊥ = omega arith in no)

  pub two_settled : out ≡ residuals c 1 1
  two_settled = listed_is 1 1 c out (simp length-set long) place
