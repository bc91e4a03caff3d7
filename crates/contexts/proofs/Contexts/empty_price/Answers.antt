-- `contexts::Contexts::empty_price` meets its contract: the first of a row's pair of the cbf table, which begins at number 20.
use mathlib.Core.Path.{◌≡◌, refl, sym, ap}
use mathlib.Core.List.{List}
use Prim.Native.Nat.{ℕ, zero, suc, ◌+◌, ◌*◌, ◌≤◌}
use native.Mathlib.Omega.{arith}
use lib.ListN.{get_or}
use Rattle.price.specs.Costs.{InRange, eight_at, costs_of, entry}
use Rattle.contexts.proofs.Pricing.{weighed}
use Rattle.contexts.proofs.Contexts.empty_price.Goals as goal

first_of : (l : List ℕ) (row : ℕ) → row ≤ 3 → get_or (eight_at 20 l) (2 * row + 0) 0 ≡ get_or l (20 + 2 * row) 0
first_of l zero h = refl
first_of l (suc zero) h = refl
first_of l (suc (suc zero)) h = refl
first_of l (suc (suc (suc zero))) h = refl
first_of l (suc (suc (suc (suc n)))) h = absurd (omega arith)

small : (l : List ℕ) (row : ℕ) → InRange (costs_of l) → row ≤ 3 → get_or l (20 + 2 * row) 0 ≤ 1048576
unfolding costs_of
small l row h k = omega (arith, first_of l row k, h.cbf (2 * row + 0))

pub overflow_mul-result : goal.overflow_mul-result
overflow_mul-result c =
    let lambda = c.args.lambda in
    record { fits = omega (arith, weighed lambda.number _ lambda.within (small _ _ c.requires c.args.self.inside.cbf)) }

pub returns : goal.returns
unfolding costs_of entry
returns c =
    let lambda = c.args.lambda in
    let inside = c.args.self.inside.cbf in
    record {
      is = ap (λ (n : ℕ). lambda.number * n) (sym (first_of c.args.costs.now c.args.self.cbf inside));
      small = weighed lambda.number _ lambda.within (small _ _ c.requires inside);
    }
