-- Lambda's whole number is what the paper says in two ways: the fraction of the sum dropped, and the greatest whole
-- number from 0 to 2^28 that isn't above the sum. An accepted d is from 0 to 8192, so the sum is from 1/2 to 2^28 +
-- 1/2, and no end of u64 cuts it.
use Rattle.std.proofs.Common.{◌≡◌, ℕ, ◌+◌, ◌-◌, ◌*◌, ◌/◌, ◌^◌, ◌<◌, ◌≤◌, min, Bool, true, false, cond, not}
use Rattle.std.proofs.Common.{◌&&◌, ◌||◌, T, eqb, ltb, pos, negsuc, sym, refl, ap, ◌∙◌, subst, ⊎_elim}
use Rattle.std.proofs.Common.{true≢false, le_trans, le_of_eq, le_refl, le_of_lt, lt_irrefl, mul-le-mul_right}
use Rattle.std.proofs.Common.{eq-zero-or-pos, le_antisymm, mul-pos, le-div_iff_mul-le, zero-mul, mul-one}
use Rattle.std.proofs.Common.{mul_right_comm, not-le_of_lt, le_of_mul-le-mul_right, arith, lit<, lit≤, eqb→eq}
use Rattle.std.proofs.Common.{ltb→lt, lt→ltb, nltb→le}
use mathlib.Core.Bool.{false≢true}
use mir.Facts.{or_yes, or_no}
use lib.Dec.{not_T}
use lib.Ieee.{Float, nan, inf, fin, binary64, low, up, down, lt, le, add, mul, round, sum, of_int, to_unsigned}
use lib.Ieee.Fits.{up_pos, down_pos, and_l}
use lib.Ieee.Bits.{is_false}
use lib.Ieee.Exact.{HasValue, round_exact}
use lib.Ieee.Order.{transfer, round_mono}
use lib.Ieee.Back.{round_whole}
use lib.Ieee.Positive.{positive, num, den, between, le→cross}
use Rattle.price.specs.Lambda.{none, most, scale, half, lambda_refused, lambda_sum, lambda_of, Greatest}

-- ---- an accepted d is from 0 to 8192
-- x is at most a, and at least 0, where -0 counts
abbrev Upto : ℕ → Float → Type 0
Upto a nan = ⊥
Upto a (inf s) = ⊥
Upto a (fin false m e) = m * up e ≤ a * down e
Upto a (fin true m e) = m ≡ 0

no_factor : (m u : ℕ) → 0 < u → m * u ≡ 0 → m ≡ 0
no_factor m u p h =
    ⊎_elim (λ z. z) (λ q. absurd (lt_irrefl 0 (subst (λ (k : ℕ). 0 < k) h (mul-pos q p)))) (eq-zero-or-pos m)

upto_8192 : (d : Float) → T (not (lambda_refused d)) → Upto 8192 d
unfolding lambda_refused
upto_8192 nan t = absurd t
upto_8192 (inf true) t = absurd t
upto_8192 (inf false) t = absurd t
upto_8192 (fin true m e) t =
    no_factor m (up e) (up_pos e)
    (flat (m * up e) (down e)
    (nltb→le 0 (m * up e * 1 + 0 * down e) (or_no (lt (fin true m e) none) (lt most (fin true m e)) t).0))
  where
    flat : (a b : ℕ) → a * 1 + 0 * b ≤ 0 → a ≡ 0
    flat a b h = omega arith
upto_8192 (fin false m e) t =
    let h : m * up e * 1 ≤ 1 * 8192 * down e = nltb→le (1 * 8192 * down e) (m * up e * 1)
    (or_no (lt (fin false m e) none) (lt most (fin false m e)) t).1 in
    omega arith

-- ---- the product d·32768 is from 0 to 2^28: rounding keeps an order, and 0 and 2^28 are f64s
is_0 : round binary64 false 0 1 ≡ none
unfolding round
is_0 = refl

is_2^28 : round binary64 false 268435456 1 ≡ fin false 1 (pos 28)
unfolding round
is_2^28 = refl

upto_2^28 : (z : Float) → T (le none z) → T (le z (fin false 1 (pos 28))) → Upto 268435456 z
unfolding le
upto_2^28 nan l u = absurd l
upto_2^28 (inf true) l u = absurd l
upto_2^28 (inf false) l u = absurd u
upto_2^28 (fin true m e) l u =
    no_factor m (up e) (up_pos e)
    (flat (m * up e) (down e)
    (eqb→eq (0 * down e) (m * up e * 1) (and_l (eqb (0 * down e) (m * up e * 1)) (eqb (0 * down e) 0) l)))
  where
    flat : (a b : ℕ) → 0 * b ≡ a * 1 → a ≡ 0
    flat a b h = omega arith
upto_2^28 (fin false m e) l u = let h : m * up e * 1 ≤ 1 * 268435456 * down e =
    less_or_equal (m * up e * 1) (1 * 268435456 * down e) u in omega arith
  where
    less_or_equal : (a b : ℕ) → T (ltb a b || (eqb a b && true)) → a ≤ b
    less_or_equal a b t =
        ⊎_elim (λ u. le_of_lt (ltb→lt a b u)) (λ u. le_of_eq (eqb→eq a b (and_l (eqb a b) true u)))
        (or_yes (ltb a b) (eqb a b && true) t)

rounded : (n c : ℕ) → 0 < c → n ≤ 268435456 * c → Upto 268435456 (round binary64 false n c)
rounded n c p h =
    upto_2^28 (round binary64 false n c)
    (subst (λ (z : Float). T (le z (round binary64 false n c))) is_0
    (round_mono binary64 0 1 n c (lit< tt) p (omega arith)))
    (subst (λ (z : Float). T (le (round binary64 false n c) z)) is_2^28
    (round_mono binary64 n c 268435456 1 p (lit< tt) (omega arith)))

-- -0 / c is -0
rounded_zero : (n c : ℕ) → 0 < c → n ≡ 0 → Upto 268435456 (round binary64 true n c)
rounded_zero n c p z =
    of_value (round binary64 true n c)
    (round_exact binary64 true n c 0 0 p (lit< tt) (lit< tt) (ap (λ (k : ℕ). k * 2 ^ low binary64) z
    ∙ zero-mul (2 ^ low binary64) ∙ sym (zero-mul c)))
  where
    of_value : (x : Float) → HasValue x true n c → Upto 268435456 x
    of_value nan v = elim v [ ]
    of_value (inf _) v = elim v [ ]
    of_value (fin true m e) v =
        no_factor m (up e) (up_pos e) (no_factor (m * up e) c p (v.1 ∙ ap (λ (k : ℕ). k * down e) z
        ∙ zero-mul (down e)))
    of_value (fin false m e) v = absurd (false≢true v.0)

product_upto : (d : Float) → Upto 8192 d → Upto 268435456 (mul binary64 d scale)
unfolding mul
product_upto nan h = elim h [ ]
product_upto (inf _) h = elim h [ ]
product_upto (fin true m e) h =
    rounded_zero (m * up e * 32768) (down e * 1) (mul-pos (down_pos e) (lit< tt))
    (ap (λ (k : ℕ). k * up e * 32768) h ∙ ap (λ (k : ℕ). k * 32768) (zero-mul (up e)) ∙ zero-mul 32768)
product_upto (fin false m e) h = rounded (m * up e * 32768) (down e * 1) (mul-pos (down_pos e) (lit< tt)) (omega arith)

-- ---- the sum is from 1/2 to 2^28 + 1/2
abbrev Summed : Float → Type 0
Summed x = T (positive x) × (num x * 2 ≤ 536870913 * den x)

is_half : round binary64 false 1 2 ≡ half
unfolding round
is_half = refl

is_2^28_and_half : round binary64 false 536870913 2 ≡ fin false 536870913 (negsuc 0)
unfolding round
is_2^28_and_half = refl

summed : (n c : ℕ) → 0 < c → c ≤ n * 2 → n * 2 ≤ 536870913 * c → Summed (round binary64 false n c)
summed n c p l u =
    let x = round binary64 false n c in
    let top = fin false 536870913 (negsuc 0) in
    let a : T (le half x) = subst (λ (z : Float). T (le z x)) is_half
    (round_mono binary64 1 2 n c (lit< tt) p (omega arith)) in
    let b : T (le x top) = subst (λ (z : Float). T (le x z)) is_2^28_and_half
    (round_mono binary64 n c 536870913 2 p (lit< tt) u) in
    let q : T (positive x) = between half x top tt tt a b in
    (q, le→cross x top q tt b)

sum_summed : (p : Float) → Upto 268435456 p → Summed (add binary64 p half)
unfolding add sum
sum_summed nan h = elim h [ ]
sum_summed (inf _) h = elim h [ ]
sum_summed (fin false m e) h =
    summed (m * up e * 2 + 1 * 1 * down e) (down e * 2) (mul-pos (down_pos e) (lit< tt)) (omega arith) (omega arith)
sum_summed (fin true m e) h =
    let z : m * up e ≡ 0 = ap (λ (k : ℕ). k * up e) h ∙ zero-mul (up e) in
    pick (ltb (m * up e * 2) (1 * 1 * down e)) (nltb→le (m * up e * 2) (1 * 1 * down e))
    (summed (1 * 1 * down e - m * up e * 2) (down e * 2) (mul-pos (down_pos e) (lit< tt)) (omega arith)
    (omega arith)) z (down_pos e)
  where
    clash : (a b : ℕ) → 1 * 1 * b ≤ a * 2 → a ≡ 0 → 0 < b → ⊥
    clash a b h z p = omega arith

    pick : (t : Bool) → (T (not t) → 1 * 1 * down e ≤ m * up e * 2)
        → Summed (round binary64 false (1 * 1 * down e - m * up e * 2) (down e * 2)) → m * up e ≡ 0 → 0 < down e
        → Summed (cond t (round binary64 false (1 * 1 * down e - m * up e * 2) (down e * 2))
        (round binary64 (true && ltb (1 * 1 * down e) (m * up e * 2)) (m * up e * 2 - 1 * 1 * down e) (down e * 2)))
    pick true k v z p = v
    pick false k v z p = absurd (clash (m * up e) (down e) (k tt) z p)

-- ---- the fraction dropped: the whole part is at most 2^28
whole_small : (n c : ℕ) → 0 < c → n * 2 ≤ 536870913 * c → n / c ≤ 268435456
whole_small n c p h =
    let w = n / c in
    let k : w * 2 * c ≤ n * 2 = le_trans (le_of_eq (mul_right_comm w 2 c))
    (mul-le-mul_right 2 ((le-div_iff_mul-le p).0 (le_refl w))) in
    let g : w * 2 ≤ 536870913 = le_of_mul-le-mul_right (le_trans k h) p in
    omega arith

dropped : (x : Float) → Summed x → (to_unsigned 64 x ≡ num x / den x) × (num x / den x ≤ 268435456)
unfolding to_unsigned
dropped (fin false m e) s =
    let b = whole_small (m * up e) (down e) (down_pos e) s.1 in
    (uncut (m * up e / down e) b, b)
  where
    uncut : (w : ℕ) → w ≤ 268435456 → min w (2 ^ 64 - 1) ≡ w
    uncut w h = omega arith
dropped (fin true m e) s = absurd s.0
dropped nan s = absurd s.0
dropped (inf b) s = absurd s.0

-- above -1, and below 2^64
in_range : (x : Float) → Summed x → T (lt (fin true 1 (pos 0)) x) × T (lt x (fin false 1 (pos 64)))
unfolding lt
in_range nan s = absurd s.0
in_range (inf b) s = absurd s.0
in_range (fin true m e) s = absurd s.0
in_range (fin false m e) s = (
  lt→ltb 0 (1 * 1 * down e + m * up e * 1) (omega (arith, down_pos e)),
  lt→ltb (m * up e * 1) (1 * 2 ^ 64 * down e) (omega (arith, down_pos e, s.1)),
)

-- ---- a whole number k, as an f64 y, isn't above x exactly when the whole part of x is at least k
whole_if_not_above : (x y : Float) (k : ℕ) → T (positive x) → HasValue y false k 1 → T (not (lt x y))
    → k ≤ num x / den x
unfolding lt
whole_if_not_above nan y k p v t = elim p [ ]
whole_if_not_above (inf _) y k p v t = elim p [ ]
whole_if_not_above (fin false m e) nan k p v t = elim v [ ]
whole_if_not_above (fin false m e) (inf _) k p v t = elim v [ ]
whole_if_not_above (fin true m e) y k p v t = absurd p
whole_if_not_above (fin false m e) (fin true n d) k p v t = absurd (true≢false v.0)
whole_if_not_above (fin false m e) (fin false n d) k p v t =
    (le-div_iff_mul-le (down_pos e)).1
    (le_trans
    (transfer k (m * up e) 1 (down e) (n * up d) (m * up e) (down d) (down e) (down_pos d) (down_pos e) (sym v.1)
    refl (nltb→le (m * up e * down d) (n * up d * down e) t))
    (le_of_eq (mul-one (m * up e))))

not_above_if_whole : (x y : Float) (k : ℕ) → T (positive x) → HasValue y false k 1 → k ≤ num x / den x
    → T (not (lt x y))
unfolding lt
not_above_if_whole nan y k p v h = elim p [ ]
not_above_if_whole (inf _) y k p v h = elim p [ ]
not_above_if_whole (fin false m e) nan k p v h = elim v [ ]
not_above_if_whole (fin false m e) (inf _) k p v h = elim v [ ]
not_above_if_whole (fin true m e) y k p v h = absurd p
not_above_if_whole (fin false m e) (fin true n d) k p v h = absurd (true≢false v.0)
not_above_if_whole (fin false m e) (fin false n d) k p v h =
    let b : n * up d * down e ≤ m * up e * down d =
    transfer (n * up d) (m * up e) (down d) (down e) k (m * up e) 1 (down e) (lit< tt) (down_pos e) v.1 refl
    (le_trans ((le-div_iff_mul-le (down_pos e)).0 h) (le_of_eq (sym (mul-one (m * up e))))) in
    not_T (ltb (m * up e * down d) (n * up d * down e))
    (λ t. not-le_of_lt (ltb→lt (m * up e * down d) (n * up d * down e) t) b)

-- ---- what the functions and a reader of document 01 cite
module _ (d : Float) (accepted : lambda_refused d ≡ false) where
  sum_is : Summed (lambda_sum d)
  unfolding lambda_sum
  sum_is = sum_summed (mul binary64 d scale)
      (product_upto d (upto_8192 d (subst (λ (b : Bool). T (not b)) (sym accepted) tt)))

  -- what `std::num::truncating_f64_to_u64` asks of the sum
  pub sum_in_range : T (lt (fin true 1 (pos 0)) (lambda_sum d)) × T (lt (lambda_sum d) (fin false 1 (pos 64)))
  sum_in_range = in_range (lambda_sum d) sum_is

  whole_is : lambda_of d ≡ num (lambda_sum d) / den (lambda_sum d)
  unfolding lambda_of
  whole_is = (dropped (lambda_sum d) sum_is).0

  pub lambda_below : lambda_of d ≤ 2 ^ 28
  lambda_below = subst (λ (w : ℕ). w ≤ 268435456) (sym whole_is) (dropped (lambda_sum d) sum_is).1

  not_above : lt (lambda_sum d) (of_int binary64 (pos (lambda_of d))) ≡ false
  unfolding of_int
  not_above =
      is_false _
      (not_above_if_whole (lambda_sum d) (round binary64 false (lambda_of d) 1) (lambda_of d) sum_is.0
      (round_whole binary64 false (lambda_of d) (le_trans lambda_below (lit≤ tt))) (le_of_eq whole_is))

  at_most_lambda : (k : ℕ) → k ≤ 2 ^ 28 → lt (lambda_sum d) (of_int binary64 (pos k)) ≡ false → k ≤ lambda_of d
  unfolding of_int
  at_most_lambda k h t =
      subst (λ (w : ℕ). k ≤ w) (sym whole_is)
      (whole_if_not_above (lambda_sum d) (round binary64 false k 1) k sum_is.0
      (round_whole binary64 false k (le_trans h (lit≤ tt)))
      (subst (λ (b : Bool). T (not b)) (sym t) tt))

  pub lambda_greatest : Greatest (lambda_sum d) (lambda_of d)
  lambda_greatest = record { within = lambda_below; under = not_above; last = at_most_lambda }

-- there is one such number
pub one_greatest : (x : Float) (r s : ℕ) → Greatest x r → Greatest x s → r ≡ s
one_greatest x r s g h = le_antisymm (h.last r g.within g.under) (g.last s h.within h.under)
