-- How large a coefficient of accepted residuals can be, of the list that the call leaves: so none is -32768, and the
-- quantiser's test for it cannot fail on what the transform made.
use mathlib.Core.Path.{◌≡◌, refl, sym, ap, subst, ◌∙◌}
use mathlib.Core.Bool.{false}
use mathlib.Core.List.{List}
use Prim.Native.Nat.{ℕ, ◌*◌, ◌/◌, ◌%◌, ◌^◌, ◌≤◌, ◌<◌}
use native.Mathlib.Omega.{arith}
use native.Mathlib.Nat.{mul_comm}
use borrow.Author.Tests.{ne_eqb}
use lib.Pow.{pow_pos}
use lib.ListN.{length, get_or, take}
use lib.Seq.{take_all}
use lib.IntN.{ℤ, pos, negsuc, nat_abs}
use Rattle.integers.specs.Tests.{some, eq_ℤ}
use Rattle.integers.proofs.Grid.{row_inside, column_inside}
use Rattle.integers.proofs.Lists.{passed_by_none}
use Rattle.integers.proofs.Some.{none_above}
use Rattle.integers.proofs.Tests.{listed_at, listed_length}
use Rattle.refusals.specs.Sides.{most_log2}
use Rattle.transform.specs.Coefficients.{coefficient, coefficients}
use Rattle.transform.specs.Call.{wild}
use Rattle.transform.proofs.Whole.{coefficient_bound}

pub coefficients_long : (r : List ℤ) (lw lh : ℕ) → length (coefficients r lw lh) ≡ 2 ^ lw * 2 ^ lh
unfolding coefficients
coefficients_long r lw lh = listed_length (λ i. coefficient r lw lh (i / 2 ^ lw) (i % 2 ^ lw)) 0 (2 ^ lw * 2 ^ lh)

-- far from -32768
not_least : (z : ℤ) → nat_abs z ≤ 32736 → eq_ℤ z (negsuc 32767) ≡ false
not_least (pos a) h = refl
not_least (negsuc a) h = ne_eqb a 32767 (λ e. let no : ⊥ = omega arith in no)

module _ (lw lh : ℕ) (hw : lw ≤ most_log2) (hh : lh ≤ most_log2) (r : List ℤ)
    (lr : length r ≡ 2 ^ lw * 2 ^ lh) (tame : some wild r ≡ false) where
  pub coefficients_small : (k : ℕ) → k < 2 ^ lw * 2 ^ lh → nat_abs (get_or (coefficients r lw lh) k (pos 0)) ≤ 32736
  unfolding coefficients
  coefficients_small k h =
      subst
      (λ (z : ℤ). nat_abs z ≤ 32736)
      (sym (listed_at (pos 0) (λ i. coefficient r lw lh (i / 2 ^ lw) (i % 2 ^ lw)) (2 ^ lw * 2 ^ lh) k h))
      (coefficient_bound lw lh hw hh r lr (none_above 1023 r tame) (k / 2 ^ lw) (k % 2 ^ lw)
      (row_inside (2 ^ lw) (2 ^ lh) k (pow_pos lw) (omega (arith, mul_comm (2 ^ lw) (2 ^ lh))))
      (column_inside (2 ^ lw) (2 ^ lh) k (pow_pos lw) (omega (arith, mul_comm (2 ^ lw) (2 ^ lh)))))

  pub none_is_least : some (λ z. eq_ℤ z (negsuc 32767)) (take (2 ^ lw * 2 ^ lh) (coefficients r lw lh)) ≡ false
  none_is_least =
      ap (λ (l : List ℤ). some (λ z. eq_ℤ z (negsuc 32767)) l)
      (take_all (2 ^ lw * 2 ^ lh) (coefficients r lw lh) (omega (arith, coefficients_long r lw lh)))
      ∙ passed_by_none (pos 0) (λ z. eq_ℤ z (negsuc 32767)) (coefficients r lw lh)
      (λ k h. not_least (get_or (coefficients r lw lh) k (pos 0))
      (coefficients_small k (omega (arith, coefficients_long r lw lh))))
