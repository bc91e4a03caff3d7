-- The price of a magnitude as code works it out, and its bound; a level that is not 0 is told by its test.
use mathlib.Core.Path.{◌≡◌, refl}
use mathlib.Core.Bool.{false}
use Prim.Native.Nat.{ℕ, zero, suc, ◌+◌, ◌-◌, ◌*◌, ◌^◌, ◌≤◌}
use native.Mathlib.Nat.{mul-le-mul_right}
use native.Mathlib.Omega.{arith}
use Rattle.price.specs.Rule.{is_zero}
use Rattle.weights.specs.declared.prices.Prices.{Prices}
use Rattle.weights.specs.Inner.Prices.{level_price, Priced}

pub after_level_lem : (a : ℕ) → (a ≡ 0 → ⊥) → is_zero a ≡ false
after_level_lem zero h = absurd (h refl)
after_level_lem (suc a) h = refl

pub price_one : (p : Prices) (a : ℕ) → a ≡ 1 → Priced p a p.one
unfolding level_price
price_one p a e = record { is = rw e; small = omega (arith, p.modest.one) }

pub price_more : (p : Prices) (a : ℕ) → 1 ≤ a → (a ≡ 1 → ⊥) → a * p.each ≤ 2 ^ 61
    → Priced p a (p.two + (a - 2) * p.each)
unfolding level_price
price_more p zero h n c = absurd (omega arith)
price_more p (suc zero) h n c = absurd (n refl)
price_more p (suc (suc k)) h n c =
    let e : suc (suc k) - 2 ≡ k = omega arith in
    let q : k * p.each ≤ suc (suc k) * p.each = mul-le-mul_right p.each (omega arith) in
    rw e (record { is = refl; small = omega (arith, q, p.modest.two) })
