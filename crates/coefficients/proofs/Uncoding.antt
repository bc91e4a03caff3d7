-- D as code adds it up. The error of magnitude 0 in 32 bits: q·E and the rest are front·2^20, so that |c|·q·E / 2^20 is
-- |c|·front less |c|·rest / 2^20, rounded up. And the sum that is no longer added once past 2^60.
use mathlib.Core.Path.{◌≡◌, refl, sym, ap, ◌∙◌}
use mathlib.Core.Bool.{Bool, true, false, cond}
use mathlib.Core.Logic.{◌⊎◌, inl, inr}
use mathlib.Core.List.{List}
use Prim.Native.Nat.{ℕ, zero, suc, ◌+◌, ◌-◌, ◌*◌, ◌/◌, ◌≤◌, ◌<◌, ◌^◌}
use native.Mathlib.Omega.{arith}
use native.Mathlib.Nat.{mul-le-mul_left, mul-le-mul_right, mul-le-mul, mul-mul-mul_comm, suc-mul}
use native.Mathlib.Numerals.{add-one}
use lib.Dec.{leb}
use borrow.Author.Tests.{leb-true, leb-false}
use lib.ListN.{take, drop}
use lib.IntN.{ℤ, nat_abs}
use Rattle.integers.specs.Sum.{over, on_ℕ}
use Rattle.integers.proofs.Sums.{nats}
use Rattle.integers.proofs.Over.{over_part}
use Rattle.price.specs.Level.{scaled, square}
use Rattle.price.proofs.Level.{distortion_of_0}
use Rattle.scaling.specs.declared.scale.Scale.{Scale}
use Rattle.coefficients.specs.Inner.Coefficients.{added, Held, zero_distortion}

abbrev pub zero_error : Scale → ℕ → ℕ
zero_error g a = a * g.front - (a * g.rest + 1048575) / 1048576

-- no square of an error of magnitude 0 is above this
abbrev pub most_square : Scale → ℕ
most_square g = 2 ^ 30 * (g.front * g.front)

-- what the parts of the error come to
pub record Parts (g : Scale) (a : ℕ) : Type 0 where
  pub first : a * g.front ≤ 2 ^ 29
  pub second : a * g.rest ≤ 2 ^ 30
  pub room : (a * g.rest + 1048575) / 1048576 ≤ a * g.front
  pub error : zero_error g a ≤ 2 ^ 29
  pub square : zero_error g a * zero_error g a ≤ most_square g
  pub fits : most_square g ≤ 2 ^ 58

pub parts : (g : Scale) (a : ℕ) → a ≤ 32767 → Parts g a
parts g a h =
    let m : a ≤ 32768 = omega arith in
    let x : a * g.front ≤ 32768 * 16384 = mul-le-mul m g.sound.wide_front in
    let small : g.rest ≤ 32768 = omega (arith, g.sound.wide_rest) in
    let y : a * g.rest ≤ 32768 * 32768 = mul-le-mul m small in
    let under : g.rest ≤ g.front * 1048576 = omega (arith, g.sound.some_front) in
    let t : a * g.rest ≤ a * (g.front * 1048576) = mul-le-mul_left a under in
    let u : a * (g.front * 1048576) ≡ a * g.front * 1048576 = law a in
    let v : a * g.front ≤ 32768 * g.front = mul-le-mul_right g.front m in
    let e : zero_error g a ≤ 32768 * g.front = omega (arith, v) in
    record {
      first = omega (arith, x);
      second = omega (arith, y);
      room = omega (arith, t, u);
      error = omega (arith, x);
      square = omega (arith, mul-le-mul e e, mul-mul-mul_comm 32768 g.front 32768 g.front);
      fits = omega (arith, mul-le-mul g.sound.wide_front g.sound.wide_front);
    }
  where
    law : (n : ℕ) → n * (g.front * 1048576) ≡ n * g.front * 1048576
    law zero = omega arith
    law (suc n) = omega (arith, law n)

-- the sum of the squares of a part
pub squares_next : (i k s x : ℕ) → s ≤ i * k → x ≤ k → s + x ≤ (i + 1) * k
squares_next i k s x h l = omega (arith, ap (λ (n : ℕ). n * k) (add-one i), suc-mul i k)

pub squares_fit : (g : Scale) (n i : ℕ) → i ≤ n → n * (g.front * g.front) ≤ 2 ^ 33 → i * most_square g ≤ 2 ^ 63
squares_fit g n i h f = omega (arith, mul-le-mul_right (most_square g) h, law n)
  where
    law : (k : ℕ) → k * most_square g ≡ k * (g.front * g.front) * 2 ^ 30
    law zero = omega arith
    law (suc k) = omega (arith, law k, suc-mul k (most_square g), suc-mul k (g.front * g.front))

error_is : (g : Scale) (a : ℕ) → a * g.q * g.error / 2 ^ 20 ≡ zero_error g a
error_is g a = omega (arith, law a)
  where
    law : (n : ℕ) → n * g.q * g.error + n * g.rest ≡ n * g.front * 2 ^ 20
    law zero = omega arith
    law (suc n) = omega (arith, law n, g.sound.exact)

pub zero_distortion_lem : (g : Scale) (z : ℤ) → zero_error g (nat_abs z) * zero_error g (nat_abs z)
    ≡ zero_distortion g z
unfolding scaled
zero_distortion_lem g z =
    ap square (sym (error_is g (nat_abs z))) ∙ sym (distortion_of_0 g.shift g.error (nat_abs z * g.q))

-- a part, and what is behind it
pub part_and_rest : (f : ℤ → ℕ) (block : List ℤ) (i e : ℕ) → i ≤ e
    → over on_ℕ f (take (e - i) (drop i block)) + over on_ℕ f (drop e block) ≡ over on_ℕ f (drop i block)
part_and_rest f block i e h = sym (over_part nats f block i e h)

-- ---- the sum held: what is added up, with what is left, is the whole sum, or both are past the limit
abbrev pub Adding : ℕ → ℕ → ℕ → Type 0
Adding d left s = (d + left ≡ s) ⊎ ((2 ^ 60 < d) × (2 ^ 60 < s))

pub adding_next : (d x left rest s : ℕ) → left ≡ x + rest → Adding d left s → Adding (added d x) rest s
adding_next d x left rest s e a = go (leb d (2 ^ 60)) refl a
  where
    go : (t : Bool) → leb d (2 ^ 60) ≡ t → Adding d left s → Adding (cond t (d + x) d) rest s
    go true i (inl p) = inl (omega arith)
    go true i (inr p) = let h = leb-true d (2 ^ 60) i in absurd (omega arith)
    go false i (inl p) = let h = leb-false d (2 ^ 60) i in inr (omega arith, omega arith)
    go false i (inr p) = inr p

pub adding_done : (d s : ℕ) → Adding d 0 s → Held s d
adding_done d s (inl p) = record { within = λ h. omega arith; beyond = λ h. omega arith }
adding_done d s (inr p) = record { within = λ h. absurd (omega arith); beyond = λ h. omega arith }
