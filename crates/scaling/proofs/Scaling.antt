-- The scale of a block is sound by any row of scales that code can hold, and document 01's is one: the shift lies
-- between 14 and 28, and q·E leaves less than q of front·2^20. Code works in 32 and 64 bits by these bounds.
use mathlib.Core.Path.{◌≡◌, refl, sym, ap, ◌∙◌}
use mathlib.Core.List.{List}
use Prim.Native.Nat.{ℕ, zero, suc, ◌+◌, ◌-◌, ◌*◌, ◌/◌, ◌%◌, ◌^◌, ◌≤◌, ◌<◌}
use native.Mathlib.Nat.{div-eq_of_lt, mul-div-le, lt-mul-div-succ, mul-add, mul-le-mul, pow-suc}
use native.Mathlib.Nat.{mul-le-mul_right, mul-one, div-le_of_le-mul}
use native.Mathlib.Omega.{arith}
use lib.Pow.{pow-add, pow_mono, pow-lt, pow_pos}
use Rattle.tables.specs.Scales.{forward, scale_of, error_scale}
use Rattle.tables.proofs.Range.{scale_range}
use Rattle.refusals.specs.Sides.{most_log2}
use Rattle.price.specs.Level.{shift_of, nearest}
use Rattle.scaling.specs.declared.scale.Scale.{Scale}
use Rattle.scaling.specs.Inner.Sound.{SoundNumbers}
use Rattle.scaling.specs.Inner.Scale.{Usable}

pub forward_usable : Usable forward
forward_usable =
    record { low = λ qp. omega (arith, (scale_range qp).0); high = λ qp. omega (arith, (scale_range qp).1) }

-- 2^(28+l) in units of 2^20
pub units : (l : ℕ) → 2 ^ (28 + l) ≡ 2 ^ (8 + l) * 2 ^ 20
units l = omega (arith, pow-add 2 28 l, pow-add 2 8 l)

pub front_range : (l : ℕ) → l ≤ most_log2 → (256 ≤ 2 ^ (8 + l)) × (2 ^ (8 + l) ≤ 8192)
front_range l h = (
  omega (arith, pow_mono {i = 8} {j = 8 + l} (omega arith)),
  omega (arith, pow_mono {i = 8 + l} {j = 13} (omega arith)),
)

module _ (l qp : ℕ) (lo : 1 ≤ l) (hi : l ≤ most_log2) (hq : qp ≤ 63) where
  pub shift_range : (14 ≤ shift_of l qp) × (shift_of l qp ≤ 28)
  unfolding shift_of
  shift_range = (omega arith, omega arith)

module _ (row : List ℕ) (u : Usable row) (l qp : ℕ) (hi : l ≤ most_log2) where
  pub error_range :
      (1 ≤ error_scale l (scale_of row qp))
      × (scale_of row qp * error_scale l (scale_of row qp) ≤ 2 ^ (8 + l) * 2 ^ 20)
      × (2 ^ (8 + l) * 2 ^ 20 < scale_of row qp * error_scale l (scale_of row qp) + scale_of row qp)
  unfolding error_scale
  error_range =
      let q = scale_of row qp in
      let n = 2 ^ (28 + l) in
      let some_q = u.low qp in
      let wide_q = u.high qp in
      let above : n < q * (n / q + 1) = lt-mul-div-succ n (omega arith) in
      let split : q * (n / q + 1) ≡ q * (n / q) + q = mul-add q (n / q) 1
      ∙ ap (λ (x : ℕ). q * (n / q) + x) (mul-one q) in
      let under : q * (n / q) ≤ n = mul-div-le n q in
      let some : 1 ≤ n / q = positive (n / q) refl (omega (arith, units l, front_range l hi)) in
      (some, omega (arith, units l), omega (arith, units l))
    where
      positive : (e : ℕ) → e ≡ 2 ^ (28 + l) / scale_of row qp → scale_of row qp < 2 ^ (28 + l) → 1 ≤ e
      positive zero i h =
          absurd
          (let z : ⊥ = omega (
            arith,
            lt-mul-div-succ (2 ^ (28 + l)) {b = scale_of row qp}
                (omega (arith, u.low qp)),
            ap (λ (x : ℕ). scale_of row qp * (x + 1)) (sym i),
            mul-one (scale_of row qp),
          ) in z)
      positive (suc e) i h = omega arith

-- a power that a shift makes in 64 bits
pub bit : (k : ℕ) → k ≤ 63 → 1 * 2 ^ k % 18446744073709551616 ≡ 2 ^ k
bit k h = omega (arith, pow_mono {i = k} {j = 63} h)

-- half a unit
pub halves : (b : ℕ) → 1 ≤ b → 2 ^ (b - 1) + 2 ^ (b - 1) ≡ 2 ^ b
halves b h = let e : suc (b - 1) ≡ b = omega arith in omega (arith, pow-suc 2 (b - 1), ap (λ (k : ℕ). 2 ^ k) e)

pub unit_range : (b : ℕ) → b ≤ 28 → (1 ≤ 2 ^ b) × (2 ^ b ≤ 2 ^ 28)
unit_range b h = (pow_pos b, pow_mono {i = b} {j = 28} h)

pub half_range : (l qp : ℕ) → 1 ≤ l → l ≤ most_log2 → qp ≤ 63 → 2 ^ (shift_of l qp - 1) ≤ 2 ^ 27
half_range l qp lo hi hq = pow_mono {i = shift_of l qp - 1} {j = 27} (omega (arith, shift_range l qp lo hi hq))

-- the smallest |c| whose L reaches half a unit
pub least_range : (half q : ℕ) → 4096 ≤ q → half ≤ 2 ^ 27 → (half + q - 1) / q ≤ 32769
least_range half q h b = div-le_of_le-mul q (omega arith)

pub scale_sound : (row : List ℕ) → Usable row → (l qp : ℕ) → 1 ≤ l → l ≤ most_log2 → qp ≤ 63
    → (q b u h e f r c : ℕ)
    → q ≡ scale_of row qp → b ≡ shift_of l qp → u ≡ 2 ^ b → h ≡ 2 ^ (b - 1) → e ≡ error_scale l q → f ≡ 2 ^ (8 + l)
    → r ≡ f * 2 ^ 20 - q * e → c ≡ (h + q - 1) / q
    → SoundNumbers q b u h e f r c
scale_sound row usable l qp lo hi hq q b u h e f r c eq es eu eh ee ef er el =
    let some_q = usable.low qp in
    let wide_q = usable.high qp in
    let s = shift_range l qp lo hi hq in
    let i : e ≡ error_scale l (scale_of row qp) = ee ∙ ap (error_scale l) eq in
    let x = error_range row usable l qp hi in
    let product : q * e ≡ scale_of row qp * error_scale l (scale_of row qp) = rw (i, eq) in
    let front = front_range l hi in
    record {
      some_q = omega arith;
      wide_q = omega arith;
      low = omega arith;
      high = omega arith;
      unit = eu;
      half = eh;
      twice = omega (arith, halves b (omega arith));
      some_error = omega arith;
      exact = omega arith;
      some_front = omega arith;
      wide_front = omega arith;
      wide_rest = omega arith;
      least = el;
    }

-- ---- the threshold
-- a 512th of a unit
pub part_of_unit : (b : ℕ) → 9 ≤ b → (2 ^ b ≡ 512 * 2 ^ (b - 9)) × (1 ≤ 2 ^ (b - 9))
part_of_unit b h =
    let e : 9 + (b - 9) ≡ b = omega arith in
    (ap (λ (k : ℕ). 2 ^ k) (sym e) ∙ omega (arith, pow-add 2 9 (b - 9)), pow_pos (b - 9))

pub threshold_range : (b : ℕ) → 9 ≤ b → b ≤ 28 → (unit f : ℕ) → unit ≡ 2 ^ b → f ≤ 201
    → (unit - f * (unit / 512) ≡ 2 ^ b - f * 2 ^ (b - 9))
    × (1 ≤ unit - f * (unit / 512)) × (f * (unit / 512) ≤ unit) × (unit ≤ 2 ^ 28)
threshold_range b lo hi unit f u h =
    let p = part_of_unit b lo in
    let e : unit / 512 ≡ 2 ^ (b - 9) = omega arith in
    let m : f * (unit / 512) ≤ 201 * (unit / 512) = mul-le-mul_right (unit / 512) h in
    (rw (e, u), omega arith, omega arith, omega (arith, unit_range b hi))

-- ---- m
pub rounding : (g : Scale) (L : ℕ) → (L + g.half) / 2 ^ g.shift ≡ nearest g.shift L
unfolding nearest
rounding g L = ap (λ (k : ℕ). (L + k) / 2 ^ g.shift) g.sound.half

pub rounded_range : (g : Scale) (c : ℕ) → c ≤ 32768
    → ((c * g.q + g.half) / 2 ^ g.shift ≡ nearest g.shift (c * g.q))
    × ((c * g.q + g.half) / 2 ^ g.shift ≤ 4194304)
rounded_range g c h =
    let x : c * g.q ≤ 32768 * 32767 = mul-le-mul h g.sound.wide_q in
    let u = unit_range g.shift g.sound.high in
    let low = pow_mono {i = 9} {j = g.shift} g.sound.low in
    (rounding g (c * g.q), div-le_of_le-mul (2 ^ g.shift) (many (omega (arith, g.sound.twice, g.sound.unit))))
  where
    many : c * g.q + g.half ≤ 512 * 4194304 → c * g.q + g.half ≤ 2 ^ g.shift * 4194304
    many b = omega (arith, pow_mono {i = 9} {j = g.shift} g.sound.low)

-- nothing is left of a coefficient of 0
pub nearest_of_0 : (b : ℕ) → 1 ≤ b → nearest b 0 ≡ 0
unfolding nearest
nearest_of_0 b h = div-eq_of_lt (omega (arith, pow-lt {i = b - 1} {j = b} (omega arith)))
