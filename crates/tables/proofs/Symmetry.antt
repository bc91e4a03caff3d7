-- The matrices have the symmetry that a butterfly needs, at every side. Each of its three facts by one computed test
-- over the sides.
use mathlib.Core.Bool.{Bool}
use Prim.Native.Nat.{ℕ, ◌+◌, ◌-◌, ◌*◌, ◌^◌, ◌<◌}
use lib.Dec.{T}
use lib.IntN.{neg_ℤ}
use Rattle.integers.specs.Tests.{all, eq_ℤ}
use Rattle.integers.proofs.Tests.{all_at, eq_ℤ→eq}
use Rattle.refusals.specs.Sides.{most_log2}
use Rattle.tables.specs.Matrix.{matrix}
use Rattle.tables.specs.Inner.Symmetry.{Symmetric}

-- a test at every row and column of the halves of sides 2, 4, 8, 16 and 32
everywhere : (ℕ → ℕ → ℕ → Bool) → Bool
everywhere test = all most_log2 (λ l. all (2 ^ l) (λ k. all (2 ^ l) (λ n. test (2 ^ l) k n)))

even_test : ℕ → ℕ → ℕ → Bool
even_test h k n = eq_ℤ (matrix (h + h) (2 * k) (h + h - 1 - n)) (matrix (h + h) (2 * k) n)

odd_test : ℕ → ℕ → ℕ → Bool
odd_test h k n = eq_ℤ (matrix (h + h) (2 * k + 1) (h + h - 1 - n)) (neg_ℤ (matrix (h + h) (2 * k + 1) n))

nested_test : ℕ → ℕ → ℕ → Bool
nested_test h k n = eq_ℤ (matrix (h + h) (2 * k) n) (matrix h k n)

module _ (l : ℕ) (hl : l < most_log2) where
  passed : (test : ℕ → ℕ → ℕ → Bool) → T (everywhere test) → (k n : ℕ) → k < 2 ^ l → n < 2 ^ l → T (test (2 ^ l) k n)
  unfolding everywhere
  passed test t k n hk hn =
      all_at (2 ^ l) (λ n. test (2 ^ l) k n)
      (all_at (2 ^ l) (λ k. all (2 ^ l) (λ n. test (2 ^ l) k n))
      (all_at most_log2 (λ l. all (2 ^ l) (λ k. all (2 ^ l) (λ n. test (2 ^ l) k n))) t l hl) k hk)
      n hn

  pub matrix_symmetric : Symmetric matrix (2 ^ l)
  unfolding everywhere all even_test odd_test nested_test matrix
  matrix_symmetric =
      record {
        even = λ k n hk hn. eq_ℤ→eq _ _ (passed even_test tt k n hk hn);
        odd = λ k n hk hn. eq_ℤ→eq _ _ (passed odd_test tt k n hk hn);
        nested = λ k n hk hn. eq_ℤ→eq _ _ (passed nested_test tt k n hk hn);
      }
