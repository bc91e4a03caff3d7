-- The largest magnitude of some coefficients tells whether one of them reaches a threshold, and has their largest m:
-- both only grow with the magnitude.
use mathlib.Core.Path.{◌≡◌, refl, sym, ap, ◌∙◌}
use mathlib.Core.Logic.{⊎_elim}
use mathlib.Core.Bool.{Bool, true, false, ◌||◌}
use mathlib.Core.List.{List, [], ◌∷◌}
use Prim.Native.Nat.{ℕ, zero, suc, ◌*◌, ◌≤◌, ◌<◌, max}
use native.Mathlib.Nat.{mul-le-mul_right, max-eq_left, max-eq_right, le-max_left, le-max_right}
use native.Mathlib.Omega.{arith}
use lib.Dec.{leb}
use lib.Pow.{shr_mono}
use lib.IntN.{ℤ, pos, negsuc, nat_abs}
use borrow.Author.Tests.{leb-true, leb-false, le-leb, lt-leb}
use Rattle.integers.specs.Sum.{over, on_max, on_or}
use Rattle.integers.specs.Tests.{some, eq_ℤ}
use Rattle.integers.proofs.Order.{below_or_not}
use Rattle.price.specs.Level.{scaled, nearest}
use Rattle.scaling.proofs.Scaling.{nearest_of_0}
use Rattle.coefficients.specs.Inner.Coefficients.{Within}

-- ---- a threshold
larger_reaches : (t q a b : ℕ) → (leb t (a * q) || leb t (b * q)) ≡ leb t (max a b * q)
larger_reaches t q a b = ⊎_elim (λ (h : a < b). second h) (λ (h : b ≤ a). first h) (below_or_not a b)
  where
    or_first : (x y : Bool) → (y ≡ true → x ≡ true) → (x || y) ≡ x
    or_first true y h = refl
    or_first false true h = sym (h refl)
    or_first false false h = refl

    or_second : (x y : Bool) → (x ≡ true → y ≡ true) → (x || y) ≡ y
    or_second true y h = sym (h refl)
    or_second false y h = refl

    up : (x y : ℕ) → x ≤ y → leb t (x * q) ≡ true → leb t (y * q) ≡ true
    up x y h e = le-leb t (y * q) (omega (arith, leb-true t (x * q) e, mul-le-mul_right q h))

    first : b ≤ a → (leb t (a * q) || leb t (b * q)) ≡ leb t (max a b * q)
    first h = or_first (leb t (a * q)) (leb t (b * q)) (up b a h) ∙ ap (λ (m : ℕ). leb t (m * q)) (sym (max-eq_left h))

    second : a < b → (leb t (a * q) || leb t (b * q)) ≡ leb t (max a b * q)
    second h =
        let le : a ≤ b = omega arith in
        or_second (leb t (a * q)) (leb t (b * q)) (up a b le) ∙ ap (λ (m : ℕ). leb t (m * q)) (sym (max-eq_right le))

pub reaches : (t q : ℕ) → 1 ≤ t → (l : List ℤ)
    → over on_or (λ z. leb t (scaled q z)) l ≡ leb t (over on_max nat_abs l * q)
unfolding over scaled
reaches t q h [] = sym (lt-leb t (0 * q) (omega arith))
reaches t q h (z ∷ zs) =
    ap (λ (b : Bool). leb t (nat_abs z * q) || b) (reaches t q h zs)
    ∙ larger_reaches t q (nat_abs z) (over on_max nat_abs zs)

-- -32768 reaches every threshold
pub lowest_reaches : (t q : ℕ) → t ≤ 32768 * q → (l : List ℤ) → some (λ z. leb t (scaled q z)) l ≡ false
    → some (λ z. eq_ℤ z (negsuc 32767)) l ≡ false
unfolding some scaled
lowest_reaches t q h [] e = refl
lowest_reaches t q h (z ∷ zs) e =
    let n = neither (leb t (nat_abs z * q)) (some (λ z. leb t (nat_abs z * q)) zs) e in
    both (eq_ℤ z (negsuc 32767)) (some (λ z. eq_ℤ z (negsuc 32767)) zs) (other z n.0) (lowest_reaches t q h zs n.1)
  where
    neither : (a b : Bool) → (a || b) ≡ false → (a ≡ false) × (b ≡ false)
    neither false b e = (refl, e)
    neither true b e = absurd (mathlib.Core.Bool.true≢false e)

    both : (a b : Bool) → a ≡ false → b ≡ false → (a || b) ≡ false
    both false b e f = f
    both true b e f = absurd (mathlib.Core.Bool.true≢false e)

    other : (z : ℤ) → leb t (nat_abs z * q) ≡ false → eq_ℤ z (negsuc 32767) ≡ false
    other (pos n) e = refl
    other (negsuc n) e =
        borrow.Author.Tests.ne_eqb n 32767
        (λ i. let z : ⊥ = omega (arith, leb-false t (suc n * q) e, ap (λ (k : ℕ). suc k * q) i) in z)

-- ---- m
pub nearest_grows : (b L K : ℕ) → L ≤ K → nearest b L ≤ nearest b K
unfolding nearest
nearest_grows b L K h = shr_mono b (omega arith)

pub largest_is : (b q : ℕ) → 1 ≤ b → (l : List ℤ)
    → over on_max (λ z. nearest b (scaled q z)) l ≡ nearest b (over on_max nat_abs l * q)
unfolding over scaled
largest_is b q h [] = sym (ap (nearest b) (let e : 0 * q ≡ 0 = omega arith in e) ∙ nearest_of_0 b h)
largest_is b q h (z ∷ zs) =
    ap (λ (n : ℕ). max (nearest b (nat_abs z * q)) n) (largest_is b q h zs) ∙ grows (nat_abs z) (over on_max nat_abs zs)
  where
    grows : (x y : ℕ) → max (nearest b (x * q)) (nearest b (y * q)) ≡ nearest b (max x y * q)
    grows x y =
        ⊎_elim
        (λ (h : x < y).
        let le : x ≤ y = omega arith in
        max-eq_right (nearest_grows b (x * q) (y * q) (mul-le-mul_right q le))
        ∙ ap (λ (m : ℕ). nearest b (m * q)) (sym (max-eq_right le)))
        (λ (h : y ≤ x).
        max-eq_left (nearest_grows b (y * q) (x * q) (mul-le-mul_right q h))
        ∙ ap (λ (m : ℕ). nearest b (m * q)) (sym (max-eq_left h)))
        (below_or_not x y)

-- every magnitude is at most the largest
pub within_largest : (l : List ℤ) → Within l (over on_max nat_abs l)
unfolding over
within_largest [] k = omega arith
within_largest (z ∷ zs) zero = le-max_left (nat_abs z) (over on_max nat_abs zs)
within_largest (z ∷ zs) (suc k) = omega (arith, within_largest zs k, le-max_right (nat_abs z) (over on_max nat_abs zs))
