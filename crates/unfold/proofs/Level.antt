-- One level of the inverse's butterfly, as a law over the half side 2^l and over any family of matrices that is
-- symmetric there: a value is what the even coefficients give plus what the odd ones give, and its mirror image the same
-- with a minus. It is the forward level read the other way: the same symmetry, with rows for columns.
use mathlib.Core.Path.{◌≡◌, sym, ◌∙◌, ap, refl}
use Prim.Native.Nat.{ℕ, ◌+◌, ◌-◌, ◌*◌, ◌^◌, ◌<◌, ◌≤◌}
use native.Mathlib.Nat.{mul-le-mul_right}
use native.Mathlib.Omega.{arith}
use lib.IntN.{ℤ, nat_abs, neg_ℤ, ◌+ℤ◌, ◌-ℤ◌, ◌*ℤ◌, *ℤ_comm}
use Rattle.integers.specs.Sum.{on_ℤ, sum_ℤ}
use Rattle.integers.proofs.Ring.{dist_left, neg-*, neg-+, *-assoc}
use Rattle.integers.proofs.Sums.{ints, sum_ext, sum_plus, sum_by_parity, sum_map}
use Rattle.integers.proofs.Fold.{sum_times}
use Rattle.integers.proofs.Dot.{magnitude_dot}
use Rattle.refusals.specs.Sides.{most_log2}
use Rattle.tables.specs.Matrix.{Matrices, matrix}
use Rattle.tables.specs.Inner.Symmetry.{Symmetric}
use Rattle.tables.proofs.Turned.{column_sum}
use Rattle.unfold.specs.Inner.Back.{value_at, odd_at}

module _ (M : Matrices) (h : ℕ) (mirrored : Symmetric M h) (x : ℕ → ℤ) (n : ℕ) (hn : n < h) where
  pub near_value : value_at M h (λ k. x (2 * k)) n +ℤ odd_at M h (λ k. x (2 * k + 1)) n ≡ value_at M (h + h) x n
  unfolding odd_at value_at
  near_value =
      ap (λ (z : ℤ). z +ℤ sum_ℤ h (λ k. M (h + h) (2 * k + 1) n *ℤ x (2 * k + 1)))
      (sum_ext on_ℤ h (λ k. M h k n *ℤ x (2 * k)) (λ k. M (h + h) (2 * k) n *ℤ x (2 * k))
      (λ k hk. ap (λ (z : ℤ). z *ℤ x (2 * k)) (sym (mirrored.nested k n hk hn))))
      ∙ sym (sum_by_parity ints h (λ k. M (h + h) k n *ℤ x k))

  pub far_value : value_at M h (λ k. x (2 * k)) n -ℤ odd_at M h (λ k. x (2 * k + 1)) n ≡ value_at M (h + h) x (h + h - 1 - n)
  unfolding odd_at value_at
  far_value =
      let m = h + h - 1 - n in
      ap (λ (z : ℤ). z +ℤ neg_ℤ (sum_ℤ h (λ k. M (h + h) (2 * k + 1) n *ℤ x (2 * k + 1))))
      (sum_ext on_ℤ h (λ k. M h k n *ℤ x (2 * k)) (λ k. M (h + h) (2 * k) m *ℤ x (2 * k))
      (λ k hk. ap (λ (z : ℤ). z *ℤ x (2 * k)) (sym (mirrored.even k n hk hn ∙ mirrored.nested k n hk hn))))
      ∙ ap (λ (z : ℤ). sum_ℤ h (λ k. M (h + h) (2 * k) m *ℤ x (2 * k)) +ℤ z)
      (sym (sum_map on_ℤ on_ℤ neg_ℤ refl neg-+ h (λ k. M (h + h) (2 * k + 1) n *ℤ x (2 * k + 1)))
      ∙ sum_ext on_ℤ h (λ k. neg_ℤ (M (h + h) (2 * k + 1) n *ℤ x (2 * k + 1)))
      (λ k. M (h + h) (2 * k + 1) m *ℤ x (2 * k + 1))
      (λ k hk. sym (neg-* (M (h + h) (2 * k + 1) n) (x (2 * k + 1)))
      ∙ ap (λ (z : ℤ). z *ℤ x (2 * k + 1)) (sym (mirrored.odd k n hk hn))))
      ∙ sym (sum_by_parity ints h (λ k. M (h + h) k m *ℤ x k))

-- the values of coefficients that are the sum of m times a and b
pub value_of_sum : (M : Matrices) (N : ℕ) (m : ℤ) (a b : ℕ → ℤ) (n : ℕ)
    → m *ℤ value_at M N a n +ℤ value_at M N b n ≡ value_at M N (λ k. m *ℤ a k +ℤ b k) n
unfolding value_at
value_of_sum M N m a b n =
    ap (λ (z : ℤ). z +ℤ sum_ℤ N (λ k. M N k n *ℤ b k)) (sym (sum_times N m (λ k. M N k n *ℤ a k)))
    ∙ sym (sum_plus ints N (λ k. m *ℤ (M N k n *ℤ a k)) (λ k. M N k n *ℤ b k))
    ∙ sum_ext on_ℤ N (λ k. m *ℤ (M N k n *ℤ a k) +ℤ M N k n *ℤ b k) (λ k. M N k n *ℤ (m *ℤ a k +ℤ b k))
    (λ k hk.
    ap (λ (z : ℤ). z +ℤ M N k n *ℤ b k)
    (sym (*-assoc m (M N k n) (a k)) ∙ ap (λ (z : ℤ). z *ℤ a k) (*ℤ_comm m (M N k n)) ∙ *-assoc (M N k n) m (a k))
    ∙ sym (dist_left (M N k n) (m *ℤ a k) (b k)))

-- no value of coefficients that are at most b is above 1864·b
pub value_bound : (l : ℕ) → l ≤ most_log2 → (x : ℕ → ℤ) (b : ℕ) → ((k : ℕ) → k < 2 ^ l → nat_abs (x k) ≤ b) → (n : ℕ)
    → n < 2 ^ l → nat_abs (value_at matrix (2 ^ l) x n) ≤ 1864 * b
unfolding value_at
value_bound l hl x b each n hn =
    omega
    (arith, magnitude_dot (2 ^ l) b (λ k. matrix (2 ^ l) k n) x each, mul-le-mul_right b (column_sum l hl n hn))
