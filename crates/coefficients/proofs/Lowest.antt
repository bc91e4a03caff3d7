-- The one coefficient, -32768, that has no negation in 16 bits: its magnitude is 32768, and no other's is.
--
use mathlib.Core.Path.{◌≡◌, refl, sym, ap, ◌∙◌}
use mathlib.Core.List.{List, [], ◌∷◌}
use mathlib.Core.Bool.{Bool, true, false, ◌||◌}
use Prim.Native.Nat.{ℕ, suc, ◌≤◌, ◌<◌, max}
use native.Mathlib.Omega.{arith}
use borrow.Author.Tests.{eqb-true, eqb-false, eq-eqb, ne_eqb}
use lib.Dec.{eqb, eqb-suc-suc}
use lib.ListN.{length}
use lib.IntN.{ℤ, pos, negsuc, nat_abs}
use mir.Syntax.{w16}
use mir.Val.{SFits}
use Rattle.integers.specs.Sum.{at, over, on_max}
use Rattle.integers.specs.Tests.{some, eq_ℤ}

largest_or : (t a : ℕ) → t ≤ 32768 → a ≤ 32768 → eqb (max t a) 32768 ≡ (eqb t 32768 || eqb a 32768)
largest_or t a ht ha = go (eqb t 32768) (eqb a 32768) refl refl
  where
    go : (b c : Bool) → eqb t 32768 ≡ b → eqb a 32768 ≡ c → eqb (max t a) 32768 ≡ (b || c)
    go true c e f = let k = eqb-true t 32768 e in eq-eqb (max t a) 32768 (omega arith)
    go false true e f = let k = eqb-true a 32768 f in eq-eqb (max t a) 32768 (omega arith)
    go false false e f = ne_eqb (max t a) 32768 (λ q. apart q (eqb-false t 32768 e) (eqb-false a 32768 f))
      where
        apart : max t a ≡ 32768 → (t ≡ 32768 → ⊥) → (a ≡ 32768 → ⊥) → ⊥
        apart q m n = omega arith

is_lowest : (z : ℤ) → SFits w16 z → eqb (nat_abs z) 32768 ≡ eq_ℤ z (negsuc 32767)
is_lowest (pos n) f = let b : n < 32768 = f.sfits in ne_eqb n 32768 (λ q. let no : ⊥ = omega arith in no)
is_lowest (negsuc n) f = eqb-suc-suc n 32767

-- ---- several coefficients
-- each fits 16 bits
abbrev pub Fitting : List ℤ → ℕ → Type 0
Fitting l n = (k : ℕ) → k < n → SFits w16 (at l k)

behind : (z : ℤ) (zs : List ℤ) → Fitting (z ∷ zs) (length (z ∷ zs)) → Fitting zs (length zs)
behind z zs h k lt = h (suc k) (omega arith)

-- none of the magnitudes is above 32768
pub at_most_lowest : (l : List ℤ) → Fitting l (length l) → over on_max nat_abs l ≤ 32768
unfolding over
at_most_lowest [] h = omega arith
at_most_lowest (z ∷ zs) h = omega (arith, small z (h 0 (omega arith)), at_most_lowest zs (behind z zs h))
  where
    small : (z : ℤ) → SFits w16 z → nat_abs z ≤ 32768
    small (pos n) f = let b : n < 32768 = f.sfits in omega arith
    small (negsuc n) f = let b : n < 32768 = f.sfits in omega arith

-- the largest tells whether -32768 is one of them
pub lowest_is : (l : List ℤ) → Fitting l (length l)
    → some (λ z. eq_ℤ z (negsuc 32767)) l ≡ eqb (over on_max nat_abs l) 32768
unfolding some over
lowest_is [] h = refl
lowest_is (z ∷ zs) h =
    let rest = at_most_lowest zs (behind z zs h) in
    let whole : max (nat_abs z) (over on_max nat_abs zs) ≤ 32768 = at_most_lowest (z ∷ zs) h in
    ap (λ (t : Bool). eq_ℤ z (negsuc 32767) || t) (lowest_is zs (behind z zs h))
    ∙ ap (λ (t : Bool). t || eqb (over on_max nat_abs zs) 32768) (sym (is_lowest z (h 0 (omega arith))))
    ∙ sym (largest_or (nat_abs z) (over on_max nat_abs zs) (omega arith) rest)
