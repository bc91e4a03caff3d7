-- The extremes are the exact ones: at no sample is what is decoded farther off than they say, and each is 0 or is
-- reached at a sample. A block is within heights if neither extreme is above its own.
-- Assumes nothing.
use mathlib.Core.Path.{◌≡◌, refl, sym, ap, ◌∙◌}
use mathlib.Core.Logic.{◌⊎◌, inl, inr, ⊎_elim, ◌↔◌}
use mathlib.Core.Bool.{true}
use mathlib.Core.List.{List}
use Prim.Native.Nat.{ℕ, zero, suc, ◌≤◌, ◌<◌}
use native.Mathlib.Nat.{le-max_left, le-max_right, eq-or-lt_of_le, le_of_suc-le-suc, not-suc-le-zero}
use native.Mathlib.Omega.{arith}
use lib.Dec.{leb}
use borrow.Author.Tests.{leb-true, le-leb}
use lib.IntN.{ℤ, pos, negsuc, neg_ℤ, ◌+ℤ◌, ◌-ℤ◌}
use lib.Signed.{◌≤ℤ◌}
use Rattle.integers.specs.Sum.{sum, on_max, at}
use Rattle.integers.proofs.Order.{below_or_not}
use Rattle.integers.proofs.Tests.{both}
use Rattle.integers.proofs.Parts as part
use Rattle.integers.proofs.Parts.{+-parts, neg_above, neg_below, le_of_parts}
use Rattle.heights.specs.declared.Extremes.{Extremes}
use Rattle.heights.specs.declared.Heights.{Heights}
use Rattle.heights.specs.Extremes.{positive, above, darker, lighter, within}

-- ---- the largest of f 0, .., f (n - 1): none is above it, what none is above is not below it, and it is one of them
pub none_larger : (n : ℕ) (f : ℕ → ℕ) (i : ℕ) → i < n → f i ≤ sum on_max n f
unfolding sum
none_larger zero f i h = absurd (not-suc-le-zero h)
none_larger (suc n) f i h =
    ⊎_elim (λ (e : i ≡ n). omega (arith, ap f e, le-max_right (sum on_max n f) (f n)))
    (λ (l : i < n). omega (arith, none_larger n f i l, le-max_left (sum on_max n f) (f n)))
    (eq-or-lt_of_le (le_of_suc-le-suc h))

pub largest_within : (n b : ℕ) (f : ℕ → ℕ) → ((i : ℕ) → i < n → f i ≤ b) → sum on_max n f ≤ b
unfolding sum
largest_within zero b f h = omega arith
largest_within (suc n) b f h = omega (arith, largest_within n b f (λ i l. h i (omega arith)), h n (omega arith))

pub largest_reached : (n : ℕ) (f : ℕ → ℕ) → (sum on_max n f ≡ 0) ⊎ ((i : ℕ) × (i < n) × (f i ≡ sum on_max n f))
unfolding sum
largest_reached zero f = inl refl
largest_reached (suc n) f =
    ⊎_elim (λ (l : sum on_max n f < f n). inr (n, omega arith, omega arith))
    (λ (l : f n ≤ sum on_max n f). ⊎_elim (λ (e : sum on_max n f ≡ 0). inl (omega arith))
    (λ (q : (i : ℕ) × (i < n) × (f i ≡ sum on_max n f)). inr (q.0, omega (arith, q.1), omega (arith, q.2)))
    (largest_reached n f))
    (below_or_not (sum on_max n f) (f n))

-- ---- a - b, 0 at least, in integers
above_is : (a b : ℤ) → above a b ≡ part.above (a -ℤ b)
unfolding above part.above
above_is a b = go (a -ℤ b)
  where
    go : (z : ℤ) → positive z ≡ part.above z
    go (pos n) = refl
    go (negsuc n) = refl

-- a is at most n above b
pub lowered : (a b : ℤ) (n : ℕ) → above a b ≤ n → (a -ℤ pos n) ≤ℤ b
unfolding part.above part.below
lowered a b n h =
    le_of_parts (a -ℤ pos n) b
    (omega (
      arith,
      above_is a b,
      +-parts a (neg_ℤ b),
      neg_above b,
      neg_below b,
      +-parts a (neg_ℤ (pos n)),
      neg_above (pos n),
      neg_below (pos n),
    ))

pub raised : (a b : ℤ) (n : ℕ) → above a b ≤ n → a ≤ℤ (b +ℤ pos n)
unfolding part.above part.below
raised a b n h =
    le_of_parts a (b +ℤ pos n)
    (omega (arith, above_is a b, +-parts a (neg_ℤ b), neg_above b, neg_below b, +-parts b (pos n)))

pub above_difference : (a b : ℤ) (n : ℕ) → above a b ≡ suc n → a -ℤ b ≡ pos (suc n)
unfolding above
above_difference a b n e = go (a -ℤ b) e
  where
    go : (z : ℤ) → positive z ≡ suc n → z ≡ pos (suc n)
    go (pos m) q = ap pos q
    go (negsuc m) q = absurd (let no : ⊥ = omega arith in no)

-- an extreme of n samples: of a largest a - b, one or the other holds
reached : (n : ℕ) (a b : ℕ → ℤ)
    → (sum on_max n (λ i. above (a i) (b i)) ≡ 0)
    ⊎ ((i : ℕ) × (i < n) × (a i -ℤ b i ≡ pos (sum on_max n (λ i. above (a i) (b i)))))
reached n a b =
    let f : ℕ → ℕ = λ i. above (a i) (b i) in
    ⊎_elim inl (λ (q : (i : ℕ) × (i < n) × (f i ≡ sum on_max n f)). go q.0 q.1 q.2 (sum on_max n f) refl)
    (largest_reached n f)
  where
    go : (i : ℕ) → i < n → above (a i) (b i) ≡ sum on_max n (λ i. above (a i) (b i))
        → (m : ℕ) → sum on_max n (λ i. above (a i) (b i)) ≡ m
        → (sum on_max n (λ i. above (a i) (b i)) ≡ 0)
        ⊎ ((i : ℕ) × (i < n) × (a i -ℤ b i ≡ pos (sum on_max n (λ i. above (a i) (b i)))))
    go i l e zero z = inl z
    go i l e (suc m) z = inr (i, l, above_difference (a i) (b i) m (e ∙ z) ∙ ap pos (sym z))

-- ---- the two extremes of residuals r and what is decoded r'
module _ (n : ℕ) (r r' : List ℤ) where
  pub none_darker : (i : ℕ) → i < n → above (at r i) (at r' i) ≤ darker n r r'
  unfolding darker
  none_darker i h = none_larger n (λ i. above (at r i) (at r' i)) i h

  pub none_lighter : (i : ℕ) → i < n → above (at r' i) (at r i) ≤ lighter n r r'
  unfolding lighter
  none_lighter i h = none_larger n (λ i. above (at r' i) (at r i)) i h

  pub not_below : (i : ℕ) → i < n → (at r i -ℤ pos (darker n r r')) ≤ℤ at r' i
  not_below i h = lowered (at r i) (at r' i) (darker n r r') (none_darker i h)

  pub not_above : (i : ℕ) → i < n → at r' i ≤ℤ (at r i +ℤ pos (lighter n r r'))
  not_above i h = raised (at r' i) (at r i) (lighter n r r') (none_lighter i h)

  pub darkest_reached : (darker n r r' ≡ 0) ⊎ ((i : ℕ) × (i < n) × (at r i -ℤ at r' i ≡ pos (darker n r r')))
  unfolding darker
  darkest_reached = reached n (λ i. at r i) (λ i. at r' i)

  pub lightest_reached : (lighter n r r' ≡ 0) ⊎ ((i : ℕ) × (i < n) × (at r' i -ℤ at r i ≡ pos (lighter n r r')))
  unfolding lighter
  lightest_reached = reached n (λ i. at r' i) (λ i. at r i)

-- ---- within heights
pub within_means : (e : Extremes) (h : Heights)
    → (within e h ≡ true) ↔ ((e.darker ≤ h.darker) × (e.lighter ≤ h.lighter))
unfolding within
within_means e h = (there, back)
  where
    there : within e h ≡ true → (e.darker ≤ h.darker) × (e.lighter ≤ h.lighter)
    there t =
        let b = both (leb e.darker h.darker) (leb e.lighter h.lighter) t in
        (leb-true e.darker h.darker b.0, leb-true e.lighter h.lighter b.1)

    back : (e.darker ≤ h.darker) × (e.lighter ≤ h.lighter) → within e h ≡ true
    back q = rw (le-leb e.darker h.darker q.0, le-leb e.lighter h.lighter q.1)
