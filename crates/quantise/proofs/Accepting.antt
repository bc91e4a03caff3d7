-- What refusals 6 to 9 leave: coefficients of at most 32767, magnitudes of at most 32767 that cost at most 2^61, and a
-- D of at most 2^60. By these the walk's totals stay below 2^62, and so does the price. And what the skip leaves: small
-- coefficients.
use mathlib.Core.Path.{◌≡◌, sym, ◌∙◌}
use mathlib.Core.Logic.{⊎_elim}
use mathlib.Core.List.{List}
use Prim.Native.Nat.{ℕ, suc, ◌+◌, ◌-◌, ◌*◌, ◌/◌, ◌^◌, ◌≤◌, ◌<◌}
use native.Mathlib.Omega.{arith}
use native.Mathlib.Nat.{mul-le-mul, mul-le-mul_left, mul-le-mul_right, mul_assoc, mul_left_comm, mul-mul-mul_comm}
use lib.Pow.{pow_mono, pow-add}
use lib.IntN.{ℤ, nat_abs}
use Rattle.integers.specs.Sum.{at, over, on_max}
use Rattle.integers.proofs.Order.{below_or_not}
use Rattle.price.specs.Level.{shift_of, scaled, nearest}
use Rattle.price.specs.declared.Costs.{Costs}
use Rattle.price.specs.Costs.{InRange, Rows, entry}
use Rattle.scaling.specs.declared.scale.Scale.{Scale}
use Rattle.weights.specs.declared.prices.Prices.{Prices}
use Rattle.weights.specs.Inner.Prices.{Fine}
use Rattle.contexts.specs.Inner.Reading.{PricesOf}
use Rattle.coefficients.specs.Inner.Coefficients.{Held, Within}
use Rattle.coefficients.proofs.Reaching.{nearest_grows, within_largest}

-- one step of a level costs at most lambda·2^20
pub each_small : (sign lambda : ℕ) (t : Costs) (rows : Rows) (p : Prices) → InRange t → PricesOf sign lambda t rows p
    → p.each ≤ lambda * 1048576
unfolding entry
each_small sign lambda t rows p h e =
    omega (arith, e.each, mul-le-mul_left lambda (h.level (2 * (rows.level + 1) + 1)))

module _ (B : List ℤ) (top : ℕ) (e : top ≡ over on_max nat_abs B) (few : top ≤ 32767) where
  pub all_few : Within B 32767
  all_few k = omega (arith, within_largest B k)

  pub all_fine : (g : Scale) (p : Prices) (lambda m : ℕ) → m ≡ nearest g.shift (top * g.q) → m ≤ 32767
      → lambda * suc m ≤ 2 ^ 41
      → p.each ≤ lambda * 1048576 → (k : ℕ) → Fine p g (scaled g.q (at B k))
  unfolding scaled
  all_fine g p lambda m em hm hp he k =
      let a = nat_abs (at B k) in
      let le : a ≤ top = omega (arith, within_largest B k) in
      let grown : nearest g.shift (a * g.q) ≤ m =
      omega (arith, nearest_grows g.shift (a * g.q) (top * g.q) (mul-le-mul_right g.q le)) in
      let wide : g.q * g.error ≤ 16384 * 2 ^ 20 =
      omega (arith, g.sound.exact, mul-le-mul_right (2 ^ 20) g.sound.wide_front) in
      let near : a * (g.q * g.error) ≤ 32767 * (16384 * 2 ^ 20) = mul-le-mul (all_few k) wide in
      let dear : nearest g.shift (a * g.q) * p.each ≤ m * (lambda * 1048576) = mul-le-mul grown he in
      let split : m * (lambda * 1048576) ≡ lambda * m * 1048576 = mul_left_comm m lambda 1048576
      ∙ sym (mul_assoc lambda m 1048576) in
      let below : lambda * m ≤ lambda * suc m = mul-le-mul_left lambda (omega arith) in
      record {
        near = omega (arith, mul_assoc a g.q g.error);
        level = omega arith;
        price = omega arith;
      }

-- the coefficients of a skipped block: L below 2^b leaves the side times |c| at most 2^29/14564, whatever the side and
-- QP, so that the squares of all come to at most 2^31
pub skipped_energy : (l qp q top : ℕ) → l ≤ 19 → qp ≤ 63 → 14564 ≤ q → top * q ≤ 2 ^ shift_of l qp
    → 2 ^ l * 2 ^ l * (top * top) ≤ 2 ^ 31
unfolding shift_of
skipped_energy l qp q top hl hq low h =
    let b = 19 - l + qp / 6 in
    let w = 2 ^ l * top in
    let near : 2 ^ l * (top * 14564) ≤ 2 ^ l * 2 ^ b =
    mul-le-mul_left (2 ^ l) (let z : top * 14564 ≤ 2 ^ b = omega (arith, mul-le-mul_left top low) in z) in
    let most : 2 ^ (l + b) ≤ 2 ^ 29 = pow_mono {i = l + b} {j = 29} (omega arith) in
    let few : w ≤ 36863 = omega (arith, near, most, pow-add 2 l b, mul_assoc (2 ^ l) top 14564) in
    omega (arith, mul-le-mul few few, mul-mul-mul_comm (2 ^ l) (2 ^ l) top top)

-- the sum that code holds is D where it is at most 2^60
pub held_is : (s r : ℕ) → Held s r → r ≤ 2 ^ 60 → (r ≡ s) × (s ≤ 2 ^ 60)
held_is s r h le =
    ⊎_elim (λ (q : 2 ^ 60 < s). absurd (let z : ⊥ = omega (arith, h.beyond q) in z))
    (λ (q : s ≤ 2 ^ 60). (h.within q, q)) (below_or_not (2 ^ 60) s)

pub held_beyond : (s r : ℕ) → Held s r → 2 ^ 60 < r → 2 ^ 60 < s
held_beyond s r h lt =
    ⊎_elim (λ (q : 2 ^ 60 < s). q) (λ (q : s ≤ 2 ^ 60). absurd (let z : ⊥ = omega (arith, h.within q) in z))
    (below_or_not (2 ^ 60) s)
