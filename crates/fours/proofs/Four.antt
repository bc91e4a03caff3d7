-- Four sums back to values, as the machine works them out in 64 bits: 64 times the sum and the difference of the even
-- ones, and what the odd ones give, added and taken away. Every step fits, and the four are the values.
use mathlib.Core.Path.{◌≡◌, sym, ◌∙◌, ap}
use mathlib.Core.List.{[], ◌∷◌}
use Prim.Native.Nat.{ℕ, zero, suc, ◌+◌, ◌*◌, ◌^◌, ◌<◌, ◌≤◌}
use native.Mathlib.Nat.{mul-le-mul}
use native.Mathlib.Omega.{arith}
use lib.Dec.{lit<, lit≤}
use lib.IntN.{ℤ, pos, negsuc, neg_ℤ, nat_abs, ◌+ℤ◌, ◌-ℤ◌, ◌*ℤ◌, +ℤ_idl}
use mir.Syntax.{w32, w64}
use mir.Val.{SFits}
use Rattle.integers.specs.Sum.{at}
use Rattle.integers.proofs.Magnitude.{magnitude-*, magnitude-+, magnitude--}
use Rattle.integers.proofs.Ring.{dist_left, neg-*, *-neg}
use Rattle.integers.proofs.Fit.{fits_within}
use Rattle.tables.specs.Matrix.{matrix}
use Rattle.tables.proofs.Symmetry.{matrix_symmetric}
use Rattle.unfold.specs.Inner.Back.{value_at, odd_at, most_value}
use Rattle.unfold.proofs.Level.{near_value, far_value}

-- f of equal numbers
both : (f : ℤ → ℤ → ℤ) (p q r s : ℤ) → p ≡ q → r ≡ s → f p r ≡ f q s
both f p q r s e d = ap (λ (z : ℤ). f z r) e ∙ ap (f q) d

-- a sum or a difference
abbrev pub Bounded : (ℤ → ℤ → ℤ) → Type 0
Bounded f = (p q : ℤ) → nat_abs (f p q) ≤ nat_abs p + nat_abs q

module _ (z : ℤ) (h : nat_abs z ≤ most_value) where
  narrow : SFits w32 z
  narrow = fits_within z most_value h (lit< tt)

  wide : SFits w64 z
  wide = fits_within z most_value h (lit< tt)

  module _ (m : ℕ) (hm : m ≤ 84) where
    product_bound : nat_abs (pos m *ℤ z) ≤ 84 * most_value
    product_bound = omega (arith, magnitude-* (pos m) z, mul-le-mul hm h)

    product : SFits w64 (pos m *ℤ z)
    product = fits_within (pos m *ℤ z) (84 * most_value) product_bound (lit< tt)

-- what the even sums give, and the odd ones: g is the sum, for the first value and the last, or the difference, for the
-- two between; m and n are what the odd rows have there
abbrev pub evens : (g : ℤ → ℤ → ℤ) (x : ℕ → ℤ) → ℤ
evens g x = pos 64 *ℤ g (x 0) (x 2)

abbrev pub odds : (g : ℤ → ℤ → ℤ) (m n : ℕ) (x : ℕ → ℤ) → ℤ
odds g m n x = g (pos m *ℤ x 1) (pos n *ℤ x 3)

-- every step of both fits, and so do their sum and their difference
pub record Steps (g : ℤ → ℤ → ℤ) (m n : ℕ) (x : ℕ → ℤ) : Type 0 where
  pub pair : SFits w64 (g (x 0) (x 2))
  pub even : SFits w64 (evens g x)
  pub first : SFits w64 (pos m *ℤ x 1)
  pub second : SFits w64 (pos n *ℤ x 3)
  pub odd : SFits w64 (odds g m n x)
  pub sum : SFits w64 (evens g x +ℤ odds g m n x)
  pub difference : SFits w64 (evens g x -ℤ odds g m n x)
  pub sum_small : nat_abs (evens g x +ℤ odds g m n x) ≤ 2 ^ 40
  pub difference_small : nat_abs (evens g x -ℤ odds g m n x) ≤ 2 ^ 40

-- the four sums fit, and the steps to the values of either kind
pub record Fits (x : ℕ → ℤ) : Type 0 where
  pub narrow0 : SFits w32 (x 0)
  pub narrow1 : SFits w32 (x 1)
  pub narrow2 : SFits w32 (x 2)
  pub narrow3 : SFits w32 (x 3)
  pub wide0 : SFits w64 (x 0)
  pub wide1 : SFits w64 (x 1)
  pub wide2 : SFits w64 (x 2)
  pub wide3 : SFits w64 (x 3)
  pub outer : Steps ◌+ℤ◌ 84 35 x
  pub inner : Steps ◌-ℤ◌ 35 84 x

module _ (x : ℕ → ℤ) (each : (k : ℕ) → k < 4 → nat_abs (x k) ≤ most_value) where
  h₀ : nat_abs (x 0) ≤ most_value
  h₀ = each 0 (lit< tt)

  h₁ : nat_abs (x 1) ≤ most_value
  h₁ = each 1 (lit< tt)

  h₂ : nat_abs (x 2) ≤ most_value
  h₂ = each 2 (lit< tt)

  h₃ : nat_abs (x 3) ≤ most_value
  h₃ = each 3 (lit< tt)

  module _ (g : ℤ → ℤ → ℤ) (hg : Bounded g) (m n : ℕ) (hm : m ≤ 84) (hn : n ≤ 84) where
    evens_bound : nat_abs (evens g x) ≤ 2 ^ 39
    evens_bound = omega (arith, magnitude-* (pos 64) (g (x 0) (x 2)), hg (x 0) (x 2), h₀, h₂)

    odds_bound : nat_abs (odds g m n x) ≤ 2 ^ 39
    odds_bound =
        omega
        (arith, hg (pos m *ℤ x 1) (pos n *ℤ x 3), product_bound (x 1) h₁ m hm, product_bound (x 3) h₃ n hn)

    value_bound : (f : ℤ → ℤ → ℤ) → Bounded f → nat_abs (f (evens g x) (odds g m n x)) ≤ 2 ^ 40
    value_bound f hf = omega (arith, hf (evens g x) (odds g m n x), evens_bound, odds_bound)

    steps : Steps g m n x
    steps =
        record {
          pair = fits_within (g (x 0) (x 2)) (2 * most_value) (omega (arith, hg (x 0) (x 2), h₀, h₂)) (lit< tt);
          even = fits_within (evens g x) (2 ^ 39) evens_bound (lit< tt);
          first = product (x 1) h₁ m hm;
          second = product (x 3) h₃ n hn;
          odd = fits_within (odds g m n x) (2 ^ 39) odds_bound (lit< tt);
          sum = fits_within (evens g x +ℤ odds g m n x) (2 ^ 40) (value_bound ◌+ℤ◌ magnitude-+) (lit< tt);
          difference = fits_within (evens g x -ℤ odds g m n x) (2 ^ 40) (value_bound ◌-ℤ◌ magnitude--) (lit< tt);
          sum_small = value_bound ◌+ℤ◌ magnitude-+;
          difference_small = value_bound ◌-ℤ◌ magnitude--;
        }

  pub all_fit : Fits x
  all_fit =
      record {
        narrow0 = narrow (x 0) h₀;
        narrow1 = narrow (x 1) h₁;
        narrow2 = narrow (x 2) h₂;
        narrow3 = narrow (x 3) h₃;
        wide0 = wide (x 0) h₀;
        wide1 = wide (x 1) h₁;
        wide2 = wide (x 2) h₂;
        wide3 = wide (x 3) h₃;
        outer = steps ◌+ℤ◌ magnitude-+ 84 35 (lit≤ tt) (lit≤ tt);
        inner = steps ◌-ℤ◌ magnitude-- 35 84 (lit≤ tt) (lit≤ tt);
      }

-- ---- the values
evens_first : (g : ℕ → ℤ) → pos 64 *ℤ (g 0 +ℤ g 1) ≡ value_at matrix 2 g 0
unfolding value_at matrix
evens_first g =
    dist_left (pos 64) (g 0) (g 1) ∙ ap (λ (z : ℤ). z +ℤ pos 64 *ℤ g 1) (sym (+ℤ_idl (pos 64 *ℤ g 0)))

evens_second : (g : ℕ → ℤ) → pos 64 *ℤ (g 0 -ℤ g 1) ≡ value_at matrix 2 g 1
unfolding value_at matrix
evens_second g =
    dist_left (pos 64) (g 0) (neg_ℤ (g 1))
    ∙ ap (λ (z : ℤ). pos 64 *ℤ g 0 +ℤ z) (*-neg (pos 64) (g 1) ∙ sym (neg-* (pos 64) (g 1)))
    ∙ ap (λ (z : ℤ). z +ℤ negsuc 63 *ℤ g 1) (sym (+ℤ_idl (pos 64 *ℤ g 0)))

odds_first : (g : ℕ → ℤ) → pos 84 *ℤ g 0 +ℤ pos 35 *ℤ g 1 ≡ odd_at matrix 2 g 0
unfolding odd_at matrix
odds_first g = ap (λ (z : ℤ). z +ℤ pos 35 *ℤ g 1) (sym (+ℤ_idl (pos 84 *ℤ g 0)))

odds_second : (g : ℕ → ℤ) → pos 35 *ℤ g 0 -ℤ pos 84 *ℤ g 1 ≡ odd_at matrix 2 g 1
unfolding odd_at matrix
odds_second g =
    ap (λ (z : ℤ). pos 35 *ℤ g 0 +ℤ z) (sym (neg-* (pos 84) (g 1)))
    ∙ ap (λ (z : ℤ). z +ℤ negsuc 83 *ℤ g 1) (sym (+ℤ_idl (pos 35 *ℤ g 0)))

module _ (x : ℕ → ℤ) where
  pub value_0 : pos 64 *ℤ (x 0 +ℤ x 2) +ℤ (pos 84 *ℤ x 1 +ℤ pos 35 *ℤ x 3) ≡ value_at matrix 4 x 0
  value_0 =
      both ◌+ℤ◌ _ _ _ _ (evens_first (λ k. x (2 * k))) (odds_first (λ k. x (2 * k + 1)))
      ∙ near_value matrix 2 (matrix_symmetric 1 (lit< tt)) x 0 (lit< tt)

  pub value_1 : pos 64 *ℤ (x 0 -ℤ x 2) +ℤ (pos 35 *ℤ x 1 -ℤ pos 84 *ℤ x 3) ≡ value_at matrix 4 x 1
  value_1 =
      both ◌+ℤ◌ _ _ _ _ (evens_second (λ k. x (2 * k))) (odds_second (λ k. x (2 * k + 1)))
      ∙ near_value matrix 2 (matrix_symmetric 1 (lit< tt)) x 1 (lit< tt)

  pub value_2 : pos 64 *ℤ (x 0 -ℤ x 2) -ℤ (pos 35 *ℤ x 1 -ℤ pos 84 *ℤ x 3) ≡ value_at matrix 4 x 2
  value_2 =
      both ◌-ℤ◌ _ _ _ _ (evens_second (λ k. x (2 * k))) (odds_second (λ k. x (2 * k + 1)))
      ∙ far_value matrix 2 (matrix_symmetric 1 (lit< tt)) x 1 (lit< tt)

  pub value_3 : pos 64 *ℤ (x 0 +ℤ x 2) -ℤ (pos 84 *ℤ x 1 +ℤ pos 35 *ℤ x 3) ≡ value_at matrix 4 x 3
  value_3 =
      both ◌-ℤ◌ _ _ _ _ (evens_first (λ k. x (2 * k))) (odds_first (λ k. x (2 * k + 1)))
      ∙ far_value matrix 2 (matrix_symmetric 1 (lit< tt)) x 0 (lit< tt)

-- a list of four
pub four_listed : (f : ℕ → ℤ) (r₀ r₁ r₂ r₃ : ℤ) → r₀ ≡ f 0 → r₁ ≡ f 1 → r₂ ≡ f 2 → r₃ ≡ f 3 → (n : ℕ) → n < 4
    → at (r₀ ∷ r₁ ∷ r₂ ∷ r₃ ∷ []) n ≡ f n
four_listed f r₀ r₁ r₂ r₃ e₀ e₁ e₂ e₃ zero h = e₀
four_listed f r₀ r₁ r₂ r₃ e₀ e₁ e₂ e₃ (suc zero) h = e₁
four_listed f r₀ r₁ r₂ r₃ e₀ e₁ e₂ e₃ (suc (suc zero)) h = e₂
four_listed f r₀ r₁ r₂ r₃ e₀ e₁ e₂ e₃ (suc (suc (suc zero))) h = e₃
four_listed f r₀ r₁ r₂ r₃ e₀ e₁ e₂ e₃ (suc (suc (suc (suc n)))) h = absurd (let no : ⊥ = omega arith in no)
