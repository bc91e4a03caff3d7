-- The shift that floors, and the one that rounds: what is left of the argument says which number the result is, and how
-- large it can be. A larger argument has no smaller result, and 0 rounds to 0. A factor that argument and unit share
-- goes out of both, whatever less than it was added.
-- Assumes nothing.
use mathlib.Core.Path.{◌≡◌, sym, ◌∙◌, ap, subst}
use Prim.Native.Nat.{ℕ, suc, ◌+◌, ◌*◌, ◌-◌, ◌/◌, ◌%◌, ◌^◌, ◌<◌, ◌≤◌}
use native.Mathlib.Nat.{div-lt_iff_lt-mul, le-div_iff_mul-le, div-mul-le_self, div-eq_of_lt, div-add-mod', mod-lt}
use native.Mathlib.Nat.{add-mul, suc-mul, mul_assoc}
use native.Mathlib.Omega.{arith}
use lib.Dec.{ltb, ltb→lt, leb→le, le→leb}
use lib.Pow.{pow-lt, pow_pos}
use lib.IntN.{ℤ, pos, negsuc, nat_abs, ◌+ℤ◌, ◌*ℤ◌, +ℤ_idr}
use lib.Signed.{shr_z, ◌≤ℤ◌}
use Rattle.integers.specs.Floor.{rounded}
use Rattle.integers.proofs.Parts.{above, below, of_choice, eq_of_parts, le_of_parts, parts_of_le, +-parts}
use Rattle.integers.proofs.Parts.{times_above, times_below}
use Rattle.integers.proofs.Grid.{row_of, inside}

quotient_below : (x y m : ℕ) → 0 < m → x < y * m → x / m < y
quotient_below x y m p h = (div-lt_iff_lt-mul p).1 h

-- h less than a unit m is added before the fraction is dropped
pub floor_bound : (z : ℤ) (h m q : ℕ) → h < m → nat_abs z ≤ q * m → nat_abs (shr_z (z +ℤ pos h) m) ≤ q
floor_bound (pos a) h m q l b =
    let r : (a + h) / m < q + 1 = quotient_below (a + h) (q + 1) m (omega arith) (omega (arith, add-mul q 1 m)) in
    omega arith
floor_bound (negsuc a) h m q l b =
    of_choice (ltb h (suc a)) (negsuc (suc a - suc h)) (pos (h - suc a)) (λ (y : ℤ). nat_abs (shr_z y m) ≤ q)
    (λ t.
    let r : (suc a - suc h) / m < q = quotient_below (suc a - suc h) q m (omega arith)
    (omega (arith, ltb→lt h (suc a) t)) in
    omega arith)
    (λ t. let r : (h - suc a) / m < 1 = quotient_below (h - suc a) 1 m (omega arith) (omega arith) in omega arith)

pub rounded_bound : (z : ℤ) (s q : ℕ) → 1 ≤ s → nat_abs z ≤ q * 2 ^ s → nat_abs (rounded z s) ≤ q
rounded_bound z s q p b = floor_bound z (2 ^ (s - 1)) (2 ^ s) q (pow-lt {i = s - 1} {j = s} (omega arith)) b

pub shift_bound : (z : ℤ) (m q : ℕ) → 0 < m → nat_abs z ≤ q * m → nat_abs (shr_z z m) ≤ q
shift_bound z m q p b = subst (λ (y : ℤ). nat_abs (shr_z y m) ≤ q) (+ℤ_idr z) (floor_bound z 0 m q p b)

-- z is f times m and a rest below m
pub record Left (z f : ℤ) (m : ℕ) : Type 0 where
  pub rest : ℕ
  pub less : rest < m
  pub whole : above z + below f * m ≡ below z + above f * m + rest

pub floor_left : (z : ℤ) (m : ℕ) → 0 < m → Left z (shr_z z m) m
unfolding above below
floor_left (pos n) m p = record { rest = n % m; less = mod-lt n p; whole = omega (arith, div-add-mod' n m) }
floor_left (negsuc n) m p =
    record {
      rest = m - 1 - n % m;
      less = omega arith;
      whole = omega (arith, div-add-mod' n m, suc-mul (n / m) m, mod-lt n p);
    }

pub floor_unique : (z f : ℤ) (m : ℕ) → Left z f m → shr_z z m ≡ f
floor_unique z f m l =
    let g = shr_z z m in
    let k = floor_left z m (omega (arith, l.less)) in
    let same : (below f + above g) * m + k.rest ≡ (below g + above f) * m + l.rest =
    omega (arith, l.whole, k.whole, add-mul (below f) (above g) m, add-mul (below g) (above f) m) in
    let e : below f + above g ≡ below g + above f =
    sym (row_of m (below f + above g) k.rest k.less) ∙ ap (λ (i : ℕ). i / m) same
    ∙ row_of m (below g + above f) l.rest l.less in
    eq_of_parts g f (omega arith)

-- ---- a factor n of the argument and of the unit, and less than it beside
pub floor_cancel : (z : ℤ) (m n r : ℕ) → 0 < m → r < n → shr_z (z *ℤ pos n +ℤ pos r) (m * n) ≡ shr_z z m
unfolding above below
floor_cancel z m n r p h =
    let f = shr_z z m in
    let k = floor_left z m p in
    floor_unique (z *ℤ pos n +ℤ pos r) f (m * n)
    (record {
      rest = k.rest * n + r;
      less = inside n k.rest r h m k.less;
      whole =
          omega (
            arith,
            +-parts (z *ℤ pos n) (pos r),
            times_above z n,
            times_below z n,
            ap (λ (i : ℕ). i * n) k.whole,
            add-mul (above z) (below f * m) n,
            add-mul (below z + above f * m) k.rest n,
            add-mul (below z) (above f * m) n,
            mul_assoc (below f) m n,
            mul_assoc (above f) m n,
          );
    })

-- ---- order, and 0
quotient_monotone : (a b m : ℕ) → 0 < m → a ≤ b → a / m ≤ b / m
quotient_monotone a b m p h = (le-div_iff_mul-le p).1 (omega (arith, div-mul-le_self a m))

pub floor_monotone : (a b : ℤ) (m : ℕ) → 0 < m → a ≤ℤ b → shr_z a m ≤ℤ shr_z b m
floor_monotone (pos a) (pos b) m p h = record { le = le→leb _ _ (quotient_monotone a b m p (leb→le a b h.le)) }
floor_monotone (pos a) (negsuc b) m p h = absurd h.le
floor_monotone (negsuc a) (pos b) m p h = record { le = tt }
floor_monotone (negsuc a) (negsuc b) m p h =
    record { le = le→leb _ _ (quotient_monotone b a m p (leb→le b a h.le)) }

pub rounded_monotone : (a b : ℤ) (s : ℕ) → a ≤ℤ b → rounded a s ≤ℤ rounded b s
unfolding above below
rounded_monotone a b s h =
    let u = pos (2 ^ (s - 1)) in
    floor_monotone (a +ℤ u) (b +ℤ u) (2 ^ s) (pow_pos s)
    (le_of_parts (a +ℤ u) (b +ℤ u) (omega (arith, +-parts a u, +-parts b u, parts_of_le h)))

pub rounded_zero : (s : ℕ) → 1 ≤ s → rounded (pos 0) s ≡ pos 0
rounded_zero s p =
    let l : 2 ^ (s - 1) < 2 ^ s = pow-lt {i = s - 1} {j = s} (omega arith) in ap pos (div-eq_of_lt (omega arith))
