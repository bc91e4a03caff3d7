-- The lemma of every butterfly. A row of weights that reads the same from both ends meets the sums of the values that
-- stand equally far from the two ends; one that changes its sign, the differences: half as many products do.
-- Assumes nothing.
use mathlib.Core.Path.{◌≡◌, sym, ◌∙◌, ap}
use Prim.Native.Nat.{ℕ, ◌+◌, ◌-◌, ◌<◌}
use lib.IntN.{ℤ, neg_ℤ, ◌+ℤ◌, ◌-ℤ◌, ◌*ℤ◌, *ℤ-zero}
use Rattle.integers.specs.Sum.{on_ℤ, sum_ℤ}
use Rattle.integers.proofs.Ring.{dist_left, neg-*, *-neg}
use Rattle.integers.proofs.Sums.{ints, sum_ext, sum_halves, sum_map}

-- a factor of every term
pub sum_times : (n : ℕ) (m : ℤ) (f : ℕ → ℤ) → sum_ℤ n (λ i. m *ℤ f i) ≡ m *ℤ sum_ℤ n f
sum_times n m f = sum_map on_ℤ on_ℤ (λ (z : ℤ). m *ℤ z) (*ℤ-zero m) (dist_left m) n f

module _ (h : ℕ) (t x : ℕ → ℤ) where
  -- one law for both kinds of row: what a pair of terms comes to is all that differs
  folded : (g : ℤ → ℤ → ℤ)
      → ((i : ℕ) → i < h → t i *ℤ x i +ℤ t (h + h - 1 - i) *ℤ x (h + h - 1 - i) ≡ t i *ℤ g (x i) (x (h + h - 1 - i)))
      → sum_ℤ (h + h) (λ i. t i *ℤ x i) ≡ sum_ℤ h (λ i. t i *ℤ g (x i) (x (h + h - 1 - i)))
  folded g e =
      sum_halves ints h (λ i. t i *ℤ x i)
      ∙ sum_ext on_ℤ h (λ i. t i *ℤ x i +ℤ t (h + h - 1 - i) *ℤ x (h + h - 1 - i))
      (λ i. t i *ℤ g (x i) (x (h + h - 1 - i))) e

  pub fold_symmetric : ((i : ℕ) → i < h → t (h + h - 1 - i) ≡ t i)
      → sum_ℤ (h + h) (λ i. t i *ℤ x i) ≡ sum_ℤ h (λ i. t i *ℤ (x i +ℤ x (h + h - 1 - i)))
  fold_symmetric s =
      folded ◌+ℤ◌
      (λ i k.
      ap (λ (y : ℤ). t i *ℤ x i +ℤ y *ℤ x (h + h - 1 - i)) (s i k)
      ∙ sym (dist_left (t i) (x i) (x (h + h - 1 - i))))

  pub fold_antisymmetric : ((i : ℕ) → i < h → t (h + h - 1 - i) ≡ neg_ℤ (t i))
      → sum_ℤ (h + h) (λ i. t i *ℤ x i) ≡ sum_ℤ h (λ i. t i *ℤ (x i -ℤ x (h + h - 1 - i)))
  fold_antisymmetric s =
      folded ◌-ℤ◌
      (λ i k.
      ap (λ (y : ℤ). t i *ℤ x i +ℤ y *ℤ x (h + h - 1 - i)) (s i k)
      ∙ ap (λ (y : ℤ). t i *ℤ x i +ℤ y) (neg-* (t i) (x (h + h - 1 - i)) ∙ sym (*-neg (t i) (x (h + h - 1 - i))))
      ∙ sym (dist_left (t i) (x i) (neg_ℤ (x (h + h - 1 - i)))))
