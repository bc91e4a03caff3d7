-- Two integers at most d apart, by their parts: what sums, products, floors and clips make of that.
use mathlib.Core.Path.{◌≡◌, sym, ap, subst, ◌∙◌}
use mathlib.Core.Logic.{⊎_elim}
use Prim.Native.Nat.{ℕ, suc, ◌+◌, ◌-◌, ◌*◌, ◌/◌, ◌^◌, ◌≤◌, ◌<◌}
use native.Mathlib.Nat.{mul-add, mul_comm, mul-le-mul_left, le-div_iff_mul-le, pow-suc}
use native.Mathlib.Omega.{arith}
use lib.Dec.{ltb, ltb→lt}
use lib.Pow.{pow_pos}
use lib.IntN.{ℤ, pos, negsuc, neg_ℤ, nat_abs, ◌+ℤ◌, ◌-ℤ◌, ◌*ℤ◌, *ℤ_comm}
use Rattle.integers.specs.Floor.{rounded}
use Rattle.integers.specs.Clip.{clipped}
use Rattle.integers.proofs.Order.{below_or_not}
use Rattle.integers.proofs.Parts.{above, below, of_choice, +-parts, neg_above, neg_below}
use Rattle.integers.proofs.Ring.{neg-*}
use Rattle.integers.proofs.Split.{multiple_above, multiple_below}
use Rattle.integers.proofs.Floor.{floor_left}
use Rattle.heights.specs.Extremes as heights

pub record Near (a b : ℤ) (d : ℕ) : Type 0 where
  pub up : above a + below b ≤ above b + below a + d
  pub down : above b + below a ≤ above a + below b + d

-- ---- of any two
pub near_is : {a a' b b' : ℤ} {d : ℕ} → a ≡ a' → b ≡ b' → Near a b d → Near a' b' d
near_is {a} {a'} {b} {b'} {d} p q h = subst (λ (x : ℤ). Near x b' d) p (subst (λ (y : ℤ). Near a y d) q h)

pub near_within : {a b : ℤ} {d e : ℕ} → Near a b d → d ≤ e → Near a b e
near_within h l = record { up = omega arith; down = omega arith }

pub near_through : {a b c : ℤ} {d e : ℕ} → Near a b d → Near b c e → Near a c (d + e)
near_through h k = record { up = omega arith; down = omega arith }

size : (z : ℤ) → above z + below z ≡ nat_abs z
unfolding above below
size (pos n) = omega arith
size (negsuc n) = omega arith

pub near_difference : (a b : ℤ) → Near a b (nat_abs (a -ℤ b))
near_difference a b =
    let s = +-parts a (neg_ℤ b) in
    let u = neg_above b in
    let v = neg_below b in
    let z = size (a -ℤ b) in
    record { up = omega arith; down = omega arith }

pub near_size : (a b : ℤ) {d : ℕ} → Near a b d → nat_abs a ≤ nat_abs b + d
unfolding above below
near_size (pos a) b h = omega (arith, size b, h.up)
near_size (negsuc a) b h = omega (arith, size b, h.down)

-- ---- sums and products
pub near-+ : {a b a' b' : ℤ} {d e : ℕ} → Near a b d → Near a' b' e → Near (a +ℤ a') (b +ℤ b') (d + e)
near-+ {a} {b} {a'} {b'} h k =
    let s = +-parts a a' in let t = +-parts b b' in record { up = omega arith; down = omega arith }

pub near_neg : {a b : ℤ} {d : ℕ} → Near a b d → Near (neg_ℤ a) (neg_ℤ b) d
near_neg {a} {b} h =
    let p = neg_above a in
    let q = neg_below a in
    let s = neg_above b in
    let t = neg_below b in
    record { up = omega arith; down = omega arith }

stretched : (n x y z w d : ℕ) → x + y ≤ z + w + d → n * x + n * y ≤ n * z + n * w + n * d
stretched n x y z w d h =
    omega (arith, mul-le-mul_left n h, mul-add n x y, mul-add n (z + w) d, mul-add n z w)

pub near_times : (n : ℕ) {a b : ℤ} {d : ℕ} → Near a b d → Near (pos n *ℤ a) (pos n *ℤ b) (n * d)
near_times n {a} {b} {d} h =
    let p = multiple_above n a in
    let q = multiple_below n a in
    let s = multiple_above n b in
    let t = multiple_below n b in
    record {
      up = omega (arith, stretched n (above a) (below b) (above b) (below a) d h.up);
      down = omega (arith, stretched n (above b) (below a) (above a) (below b) d h.down);
    }

pub near_left : (t : ℤ) {a b : ℤ} {d : ℕ} → Near a b d → Near (t *ℤ a) (t *ℤ b) (nat_abs t * d)
near_left (pos n) h = near_times n h
near_left (negsuc n) {a} {b} h =
    near_is (sym (neg-* (pos (suc n)) a)) (sym (neg-* (pos (suc n)) b)) (near_neg (near_times (suc n) h))

pub near_right : {a b : ℤ} {d : ℕ} (t : ℤ) → Near a b d → Near (a *ℤ t) (b *ℤ t) (d * nat_abs t)
near_right {a} {b} {d} t h =
    near_within (near_is (*ℤ_comm t a) (*ℤ_comm t b) (near_left t h)) (omega (arith, mul_comm (nat_abs t) d))

-- ---- a factor taken away
quotient : (m x y d : ℕ) → 0 < m → m * x ≤ m * y + d → x ≤ y + d / m
quotient m x y d p h =
    ⊎_elim (λ (l : x < y). omega arith)
    (λ (l : y ≤ x).
    let e : m * x ≡ m * y + m * (x - y) =
    ap (λ (k : ℕ). m * k) (let f : x ≡ y + (x - y) = omega arith in f) ∙ mul-add m y (x - y) in
    let k : x - y ≤ d / m = (le-div_iff_mul-le p).1 (omega (arith, mul_comm m (x - y))) in
    omega arith)
    (below_or_not x y)

pub near_cancel : (m : ℕ) (a b : ℤ) (d : ℕ) → 0 < m → Near (pos m *ℤ a) (pos m *ℤ b) d → Near a b (d / m)
near_cancel m a b d p h =
    let s = multiple_above m a in
    let t = multiple_below m a in
    let u = multiple_above m b in
    let v = multiple_below m b in
    let one : above a + below b ≤ above b + below a + d / m =
    quotient m (above a + below b) (above b + below a) d p
    (omega (arith, h.up, mul-add m (above a) (below b), mul-add m (above b) (below a))) in
    let two : above b + below a ≤ above a + below b + d / m =
    quotient m (above b + below a) (above a + below b) d p
    (omega (arith, h.down, mul-add m (above a) (below b), mul-add m (above b) (below a))) in
    record { up = one; down = two }

-- ---- rounded, clipped
pub halves : (s : ℕ) → 1 ≤ s → 2 ^ s ≡ 2 ^ (s - 1) + 2 ^ (s - 1)
halves s h =
    ap (λ (k : ℕ). 2 ^ k) (let e : s ≡ suc (s - 1) = omega arith in e)
    ∙ pow-suc 2 (s - 1)
    ∙ (let e : 2 ^ (s - 1) * 2 ≡ 2 ^ (s - 1) + 2 ^ (s - 1) = omega arith in e)

pub near_rounded : (z : ℤ) (s : ℕ) → 1 ≤ s → Near (pos (2 ^ s) *ℤ rounded z s) z (2 ^ (s - 1))
unfolding above below
near_rounded z s h =
    let H = 2 ^ (s - 1) in
    let m = 2 ^ s in
    let f = rounded z s in
    let e : m ≡ H + H = halves s h in
    let k = floor_left (z +ℤ pos H) m (pow_pos s) in
    let p = +-parts z (pos H) in
    let u = multiple_above m f in
    let v = multiple_below m f in
    let a = mul_comm m (above f) in
    let b = mul_comm m (below f) in
    let w = k.whole in
    let r = k.less in
    record { up = omega arith; down = omega arith }

pub near_clipped : (z r : ℤ) {d : ℕ} → nat_abs r ≤ 32767 → Near z r d → Near (clipped z) r d
unfolding clipped above below
near_clipped (pos a) (pos r) {d} l h =
    of_choice (ltb 32767 a) (pos 32767) (pos a) (λ (y : ℤ). Near y (pos r) d)
    (λ t.
    let g = ltb→lt 32767 a t in
    record { up = omega (arith, h.up); down = omega (arith, h.down) })
    (λ t. h)
near_clipped (pos a) (negsuc r) {d} l h =
    of_choice (ltb 32767 a) (pos 32767) (pos a) (λ (y : ℤ). Near y (negsuc r) d)
    (λ t.
    let g = ltb→lt 32767 a t in
    record { up = omega (arith, h.up); down = omega (arith, h.down) })
    (λ t. h)
near_clipped (negsuc a) (pos r) {d} l h =
    of_choice (ltb 32767 a) (negsuc 32767) (negsuc a) (λ (y : ℤ). Near y (pos r) d)
    (λ t.
    let g = ltb→lt 32767 a t in
    record { up = omega (arith, h.up); down = omega (arith, h.down) })
    (λ t. h)
near_clipped (negsuc a) (negsuc r) {d} l h =
    of_choice (ltb 32767 a) (negsuc 32767) (negsuc a) (λ (y : ℤ). Near y (negsuc r) d)
    (λ t.
    let g = ltb→lt 32767 a t in
    record { up = omega (arith, h.up); down = omega (arith, h.down) })
    (λ t. h)

-- ---- the extremes' distances
over : (a b : ℤ) (d : ℕ) → above a + below b ≤ above b + below a + d → heights.above a b ≤ d
unfolding heights.above above below
over a b d h = go (a -ℤ b) (omega (arith, +-parts a (neg_ℤ b), neg_above b, neg_below b))
  where
    go : (z : ℤ) → above z ≤ below z + d → heights.positive z ≤ d
    go (pos n) k = omega arith
    go (negsuc n) k = omega arith

pub near_above : {a b : ℤ} {d : ℕ} → Near a b d → (heights.above a b ≤ d) × (heights.above b a ≤ d)
near_above {a} {b} {d} h = (over a b d h.up, over b a d h.down)
