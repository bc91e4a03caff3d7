-- A block whose largest magnitude is 0 is all 0, and has no D: there is nothing to clear, and nothing to add up.
--
use mathlib.Core.Path.{◌≡◌, refl, sym, ap, ◌∙◌}
use mathlib.Core.List.{List, [], ◌∷◌}
use Prim.Native.Nat.{ℕ, zero, suc}
use native.Mathlib.Nat.{le-max_left, le-max_right}
use native.Mathlib.Omega.{arith}
use lib.ListN.{length, replicate}
use lib.IntN.{ℤ, pos, negsuc, nat_abs}
use Rattle.integers.specs.Sum.{over, on_ℕ, on_max}
use Rattle.price.specs.Level.{square}
use Rattle.scaling.specs.declared.scale.Scale.{Scale}
use Rattle.coefficients.specs.Inner.Coefficients.{zero_distortion}
use Rattle.coefficients.proofs.Uncoding.{zero_error, zero_distortion_lem}

is_zero_lem : (z : ℤ) → nat_abs z ≡ 0 → z ≡ pos 0
is_zero_lem (pos zero) e = refl
is_zero_lem (pos (suc n)) e = absurd (omega arith)
is_zero_lem (negsuc n) e = absurd (omega arith)

pub blank_is_zeros : (l : List ℤ) → over on_max nat_abs l ≡ 0 → l ≡ replicate (length l) (pos 0)
unfolding over
blank_is_zeros [] e = refl
blank_is_zeros (z ∷ zs) e =
    let first : nat_abs z ≡ 0 = omega (arith, le-max_left (nat_abs z) (over on_max nat_abs zs)) in
    let others : over on_max nat_abs zs ≡ 0 = omega (arith, le-max_right (nat_abs z) (over on_max nat_abs zs)) in
    ap (λ (x : ℤ). x ∷ zs) (is_zero_lem z first) ∙ ap (λ (l : List ℤ). pos 0 ∷ l) (blank_is_zeros zs others)

module _ (g : Scale) where
  nothing : zero_distortion g (pos 0) ≡ 0
  nothing = sym (zero_distortion_lem g (pos 0)) ∙ ap square (let e : zero_error g 0 ≡ 0 = omega arith in e)

  of_zeros : (n : ℕ) → over on_ℕ (zero_distortion g) (replicate n (pos 0)) ≡ 0
  unfolding over
  of_zeros zero = refl
  of_zeros (suc n) = omega (arith, nothing, of_zeros n)

  pub blank_has_no_d : (l : List ℤ) → over on_max nat_abs l ≡ 0 → over on_ℕ (zero_distortion g) l ≡ 0
  blank_has_no_d l e = ap (over on_ℕ (zero_distortion g)) (blank_is_zeros l e) ∙ of_zeros (length l)
