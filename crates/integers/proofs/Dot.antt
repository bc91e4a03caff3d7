-- How large a sum can be: by the magnitudes of its terms, and a sum of products by its weights and the largest value.
-- Assumes nothing.
use mathlib.Core.Path.{◌≡◌, subst, sym}
use Prim.Native.Nat.{ℕ, zero, suc, ◌*◌, ◌<◌, ◌≤◌}
use native.Mathlib.Nat.{mul-le-mul_left, add-mul, le_of_suc-le-suc, eq-or-lt_of_le}
use native.Mathlib.Omega.{arith}
use mathlib.Core.Logic.{⊎_elim}
use lib.IntN.{ℤ, nat_abs, ◌*ℤ◌}
use Rattle.integers.specs.Sum.{sum, sum_ℤ, sum_ℕ}
use Rattle.integers.proofs.Magnitude.{magnitude-+, magnitude-*}

-- each term is at most another's
pub sum_below : (n : ℕ) (f g : ℕ → ℕ) → ((i : ℕ) → i < n → f i ≤ g i) → sum_ℕ n f ≤ sum_ℕ n g
unfolding sum
sum_below zero f g h = omega arith
sum_below (suc n) f g h = omega (arith, sum_below n f g (λ i l. h i (omega arith)), h n (omega arith))

-- each term is at most b
pub sum_within : (n b : ℕ) (f : ℕ → ℕ) → ((i : ℕ) → i < n → f i ≤ b) → sum_ℕ n f ≤ n * b
unfolding sum
sum_within zero b f h = omega arith
sum_within (suc n) b f h =
    omega (arith, sum_within n b f (λ i l. h i (omega arith)), h n (omega arith), native.Mathlib.Nat.suc-mul n b)

-- a part of a sum of naturals
pub sum_part : (m n : ℕ) (f : ℕ → ℕ) → m ≤ n → sum_ℕ m f ≤ sum_ℕ n f
unfolding sum
sum_part m zero f h = subst (λ (k : ℕ). sum_ℕ k f ≤ 0) (let e : 0 ≡ m = omega arith in e) (omega arith)
sum_part m (suc n) f h =
    ⊎_elim (λ (e : m ≡ suc n). subst (λ (k : ℕ). sum_ℕ k f ≤ sum_ℕ (suc n) f) (sym e) (omega arith))
    (λ (l : m < suc n). omega (arith, sum_part m n f (le_of_suc-le-suc l)))
    (eq-or-lt_of_le h)

pub magnitude_sum : (n : ℕ) (f : ℕ → ℤ) → nat_abs (sum_ℤ n f) ≤ sum_ℕ n (λ i. nat_abs (f i))
unfolding sum
magnitude_sum zero f = omega arith
magnitude_sum (suc n) f = omega (arith, magnitude_sum n f, magnitude-+ (sum_ℤ n f) (f n))

-- weights t and values x of which none is larger than b
pub magnitude_dot : (n b : ℕ) (t x : ℕ → ℤ) → ((i : ℕ) → i < n → nat_abs (x i) ≤ b)
    → nat_abs (sum_ℤ n (λ i. t i *ℤ x i)) ≤ sum_ℕ n (λ i. nat_abs (t i)) * b
unfolding sum
magnitude_dot zero b t x h = omega arith
magnitude_dot (suc n) b t x h =
    let k : nat_abs (t n) * nat_abs (x n) ≤ nat_abs (t n) * b = mul-le-mul_left (nat_abs (t n)) (h n (omega arith)) in
    omega (
      arith,
      magnitude_dot n b t x (λ i l. h i (omega arith)),
      magnitude-+ (sum_ℤ n (λ i. t i *ℤ x i)) (t n *ℤ x n),
      magnitude-* (t n) (x n),
      add-mul (sum_ℕ n (λ i. nat_abs (t i))) (nat_abs (t n)) b,
    )

-- the same of naturals: weights w and values c
pub weighted_within : (n b : ℕ) (w c : ℕ → ℕ) → ((i : ℕ) → i < n → c i ≤ b) → sum_ℕ n (λ i. w i * c i) ≤ sum_ℕ n w * b
unfolding sum
weighted_within zero b w c h = omega arith
weighted_within (suc n) b w c h =
    let k : w n * c n ≤ w n * b = mul-le-mul_left (w n) (h n (omega arith)) in
    omega (arith, weighted_within n b w c (λ i l. h i (omega arith)), add-mul (sum_ℕ n w) (w n) b)

-- a sum of products by its magnitudes
pub magnitude_products : (n : ℕ) (t x : ℕ → ℤ)
    → nat_abs (sum_ℤ n (λ i. t i *ℤ x i)) ≤ sum_ℕ n (λ i. nat_abs (t i) * nat_abs (x i))
unfolding sum
magnitude_products zero t x = omega arith
magnitude_products (suc n) t x =
    omega
    (arith, magnitude_products n t x, magnitude-+ (sum_ℤ n (λ i. t i *ℤ x i)) (t n *ℤ x n), magnitude-* (t n) (x n))
