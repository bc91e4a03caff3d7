-- How far a number of 16 bits lies above another, by a test of which is larger: their difference, which fits 16 bits
-- without a sign, or 0. And one place more of the largest such distance.
use mathlib.Core.Path.{◌≡◌, refl, sym, ap, subst, ◌∙◌}
use mathlib.Core.Bool.{Bool, true, false, not}
use mathlib.Core.List.{List}
use Prim.Native.Nat.{ℕ, ◌+◌, ◌≤◌, ◌<◌, max}
use native.Mathlib.Omega.{arith}
use lib.Dec.{T}
use lib.IntN.{ℤ, pos, negsuc, ◌-ℤ◌}
use lib.Signed.{lt_z, lt_z_no, ◌≤ℤ◌}
use mir.Syntax.{w16}
use mir.Val.{SFits}
use Rattle.integers.specs.Sum.{on_max, at}
use Rattle.integers.proofs.Parts as parts
use Rattle.integers.proofs.Sums.{sum_more}
use Rattle.heights.specs.Extremes.{positive, above, darker, lighter}
use Rattle.heights.proofs.Shown.{parts_of_lt, difference}

-- ---- a difference z by its parts, where m and n are in balance
no_sign : (z : ℤ) (m n : ℕ) → parts.above z + m ≡ parts.below z + n → m ≤ n → z ≡ pos (positive z)
unfolding parts.above parts.below
no_sign (pos k) m n e h = refl
no_sign (negsuc k) m n e h = absurd (let no : ⊥ = omega arith in no)

nothing : (z : ℤ) (m n : ℕ) → parts.above z + m ≡ parts.below z + n → n ≤ m → positive z ≡ 0
unfolding parts.above parts.below
nothing (pos k) m n e h = omega arith
nothing (negsuc k) m n e h = refl

at_most : (z : ℤ) (m n : ℕ) → parts.above z + m ≡ parts.below z + n → positive z ≤ n
unfolding parts.above parts.below
at_most (pos k) m n e = omega arith
at_most (negsuc k) m n e = omega arith

up_small : (z : ℤ) → SFits w16 z → parts.above z ≤ 32767
unfolding parts.above
up_small (pos n) f = let b : n < 32768 = f.sfits in omega arith
up_small (negsuc n) f = omega arith

down_small : (z : ℤ) → SFits w16 z → parts.below z ≤ 32768
unfolding parts.below
down_small (pos n) f = omega arith
down_small (negsuc n) f = let b : n < 32768 = f.sfits in omega arith

module _ (a b : ℤ) where
  pub difference_is : lt_z b a ≡ true → a -ℤ b ≡ pos (above a b)
  unfolding above
  difference_is t =
      let less = parts_of_lt b a (subst (λ (u : Bool). T u) (sym t) tt) in
      no_sign (a -ℤ b) _ _ (difference a b) (omega (arith, less))

  pub nothing_above : lt_z b a ≡ false → above a b ≡ 0
  unfolding above
  nothing_above t =
      let lower : a ≤ℤ b = lt_z_no (subst (λ (u : Bool). T (not u)) (sym t) tt) in
      nothing (a -ℤ b) _ _ (difference a b) (omega (arith, parts.parts_of_le lower))

  pub above_small : SFits w16 a → SFits w16 b → above a b ≤ 65535
  unfolding above
  above_small f g = omega (arith, at_most (a -ℤ b) _ _ (difference a b), up_small a f, down_small b g)

-- ---- one place more
module _ (r r' : List ℤ) (i : ℕ) where
  pub darker_more : (d a m : ℕ) → d ≡ darker i r r' → a ≡ above (at r i) (at r' i) → m ≡ max d a
      → m ≡ darker (i + 1) r r'
  unfolding darker
  darker_more d a m ed ea em =
      em ∙ ap (λ (x : ℕ). max d x) ea ∙ sum_more on_max i (λ j. above (at r j) (at r' j)) ed

  pub lighter_more : (d a m : ℕ) → d ≡ lighter i r r' → a ≡ above (at r' i) (at r i) → m ≡ max d a
      → m ≡ lighter (i + 1) r r'
  unfolding lighter
  lighter_more d a m ed ea em =
      em ∙ ap (λ (x : ℕ). max d x) ea ∙ sum_more on_max i (λ j. above (at r' j) (at r j)) ed
