-- D by three sums: with y the part of an error that is rounded up, (|c|·front - y)² and 2·front·|c|·y are front²·|c|²
-- and y², place by place and so in their sums. y is at most |c|, so that no sum is above that of the squared
-- coefficients.
--
use mathlib.Core.Path.{◌≡◌, sym, ap, ◌∙◌}
use mathlib.Core.List.{List, [], ◌∷◌}
use Prim.Native.Nat.{ℕ, ◌+◌, ◌-◌, ◌*◌, ◌/◌, ◌≤◌}
use native.Mathlib.Nat.{mul-add, add-mul, mul_assoc, mul_comm, mul_left_comm, mul-mul-mul_comm, mul-le-mul}
use native.Mathlib.Nat.{mul-le-mul_left}
use native.Mathlib.Omega.{arith}
use lib.ListN.{length, get_or}
use lib.IntN.{ℤ, pos, nat_abs}
use Rattle.integers.specs.Sum.{over, on_ℕ}
use Rattle.integers.proofs.Sums.{nats}
use Rattle.integers.proofs.Over.{over_places}
use Rattle.integers.proofs.Dot.{sum_below, sum_within}
use Rattle.price.specs.Level.{square}
use Rattle.coefficients.specs.Inner.Coefficients.{Within, energy}

-- y
abbrev pub rounded_up : (rest a : ℕ) → ℕ
rounded_up rest a = (a * rest + 1048575) / 1048576

abbrev pub crossed : ℕ → ℤ → ℕ
crossed rest z = nat_abs z * rounded_up rest (nat_abs z)

abbrev pub up_square : ℕ → ℤ → ℕ
up_square rest z = square (rounded_up rest (nat_abs z))

abbrev pub error_square : (front rest : ℕ) → ℤ → ℕ
error_square front rest z = square (nat_abs z * front - rounded_up rest (nat_abs z))

-- a sum is at most another one, where its entries are
sum_grows : (f g : ℤ → ℕ) → ((z : ℤ) → f z ≤ g z) → (l : List ℤ) → over on_ℕ f l ≤ over on_ℕ g l
sum_grows f g h l =
    rw (over_places nats f l (pos 0), over_places nats g l (pos 0))
    (sum_below (length l) (λ k. f (get_or l k (pos 0))) (λ k. g (get_or l k (pos 0))) (λ k lt. h (get_or l k (pos 0))))

module _ (rest : ℕ) (few : rest ≤ 32767) where
  pub up_at_most : (a : ℕ) → rounded_up rest a ≤ a
  up_at_most a =
      let h : a * rest ≤ a * 1048576 = mul-le-mul_left a (let z : rest ≤ 1048576 = omega arith in z) in
      omega (arith, h)

  pub crossed_within : (l : List ℤ) → over on_ℕ (crossed rest) l ≤ over on_ℕ energy l
  crossed_within = sum_grows (crossed rest) energy (λ z. mul-le-mul_left (nat_abs z) (up_at_most (nat_abs z)))

  pub up_within : (l : List ℤ) → over on_ℕ (up_square rest) l ≤ over on_ℕ energy l
  up_within = sum_grows (up_square rest) energy (λ z. mul-le-mul (up_at_most (nat_abs z)) (up_at_most (nat_abs z)))

-- the squared coefficients, where none is above t
pub energy_at_most : (l : List ℤ) (t : ℕ) → Within l t → over on_ℕ energy l ≤ length l * (t * t)
energy_at_most l t h =
    rw (over_places nats energy l (pos 0))
    (sum_within (length l) (t * t) (λ k. energy (get_or l k (pos 0))) (λ k lt. mul-le-mul (h k) (h k)))

-- one place: u and y are |c|·front
square_of_sum : (u y : ℕ) → square (u + y) ≡ square u + (u * y + u * y) + square y
square_of_sum u y = omega (arith, mul-add (u + y) u y, add-mul u y u, add-mul u y y, mul_comm y u)

module _ (front rest : ℕ) (some : 1 ≤ front) (few : rest ≤ 32767) where
  one : (a : ℕ) → square (a * front - rounded_up rest a) + 2 * front * (a * rounded_up rest a)
      ≡ front * front * (a * a) + square (rounded_up rest a)
  one a =
      let y = rounded_up rest a in
      let u = a * front - y in
      let room : y ≤ a * front = omega (arith, up_at_most rest few a, mul-le-mul_left a some) in
      let whole : u + y ≡ a * front = omega arith in
      let first : front * front * (a * a) ≡ square (a * front) =
      mul-mul-mul_comm front front a a ∙ ap square (mul_comm front a) in
      let second : 2 * front * (a * y) ≡ 2 * ((a * front) * y) =
      mul_assoc 2 front (a * y) ∙ ap (λ (n : ℕ). 2 * n) (mul_left_comm front a y ∙ sym (mul_assoc a front y)) in
      let third : (a * front) * y ≡ u * y + square y = ap (λ (n : ℕ). n * y) (sym whole) ∙ add-mul u y y in
      let fourth : square (a * front) ≡ square u + (u * y + u * y) + square y =
      ap square (sym whole) ∙ square_of_sum u y in
      omega arith

  pub by_three_sums : (l : List ℤ)
      → over on_ℕ (error_square front rest) l + 2 * front * over on_ℕ (crossed rest) l
      ≡ front * front * over on_ℕ energy l + over on_ℕ (up_square rest) l
  unfolding over
  by_three_sums [] = omega arith
  by_three_sums (z ∷ zs) =
      omega (
        arith,
        one (nat_abs z),
        by_three_sums zs,
        mul-add (2 * front) (crossed rest z) (over on_ℕ (crossed rest) zs),
        mul-add (front * front) (energy z) (over on_ℕ energy zs),
      )
