-- What the loops add and count, one place at a time, by what is left behind it: the costs of levels, the size of a
-- block, and what a magnitude costs at its place.
use mathlib.Core.Path.{◌≡◌, refl, sym}
use mathlib.Core.Logic.{◌⊎◌, inl, inr}
use mathlib.Core.Bool.{Bool}
use mathlib.Core.List.{List, [], ◌∷◌}
use Prim.Native.Nat.{ℕ, zero, suc, ◌+◌, ◌*◌, ◌^◌, ◌≤◌, ◌<◌}
use native.Mathlib.Numerals.{add-one}
use native.Mathlib.Omega.{arith}
use lib.ListN.{length, get_or, drop, drop_of_length-le}
use lib.Seq.{drop-cons}
use Rattle.price.specs.Level.{distortion}
use Rattle.price.specs.Rule.{Rule, Allowed, is_zero, cost}
use Rattle.price.specs.Price.{costs, in_front, size}
use Rattle.scaling.specs.declared.scale.Scale.{Scale}
use Rattle.scaling.specs.Inner.Scale.{Near}
use Rattle.weights.specs.declared.prices.Prices.{Prices}
use Rattle.weights.specs.Inner.Prices.{zero_price, head_price, rate_by, rule_by}
use Rattle.weights.specs.Inner.Offers.{bare}
use Rattle.weights.proofs.Offering.{cost_by}
use Rattle.finished.specs.Inner.Finished.{places_of}

pub allowed_below : (m a : ℕ) → Allowed m a → a ≤ m
allowed_below m a (inl e) = omega arith
allowed_below m a (inr (inl e)) = omega arith
allowed_below m a (inr (inr e)) = omega arith

-- ---- one place
pub near_zero : (g : Scale) (L : ℕ) → L * g.error ≤ 2 ^ 49 → Near g L 0
near_zero g L h = record { twice = omega arith; scaled = h }

module _ (p : Prices) (g : Scale) (z : Bool) (L : ℕ) where
  pub zero_cost : (a d x : ℕ) → a ≡ 0 → d ≡ distortion g.shift g.error L a → x ≡ zero_price p z
      → d + x ≡ cost (rule_by p g) z L a
  unfolding cost rule_by rate_by
  zero_cost a d x e hd hx = rw (hd, hx, e)

  pub level_cost : (a : ℕ) → (a ≡ 0 → ⊥) → cost (rule_by p g) z L a ≡ bare p g L a + head_price p z
  level_cost zero h = absurd (h refl)
  level_cost (suc a) h = cost_by p g z L a

-- ---- the costs
pub costs_next : (r : Rule) (g : Scale) (z : Bool) (ls cs more rest : List ℕ) (a c : ℕ) → ls ≡ a ∷ more → cs ≡ c ∷ rest
    → costs r z ls (places_of g cs) ≡ cost r z (c * g.q) a + costs r (is_zero a) more (places_of g rest)
unfolding costs
costs_next r g z ls cs more rest a c e f = rw (e, f)

pub costs_done : (r : Rule) (g : Scale) (z : Bool) (ls cs : List ℕ) → (length ls ≡ 0) ⊎ (length cs ≡ 0)
    → costs r z ls (places_of g cs) ≡ 0
unfolding costs
costs_done r g z [] cs e = refl
costs_done r g z (a ∷ ls) [] e = refl
costs_done r g z (a ∷ ls) (c ∷ cs) (inl e) = absurd (omega arith)
costs_done r g z (a ∷ ls) (c ∷ cs) (inr e) = absurd (omega arith)

-- ---- the size
-- of a block whose first i places have the size `end`, and what is behind them the size n
abbrev pub joined : ℕ → ℕ → ℕ → ℕ
joined i end zero = end
joined i end (suc n) = i + suc n

pub start_size : (n : ℕ) → joined 0 0 n ≡ n
start_size zero = refl
start_size (suc n) = omega arith

pub end_size : (ls : List ℕ) (i end : ℕ) → length ls ≤ i → joined i end (size (drop i ls)) ≡ end
unfolding size
end_size ls i end h = rw (drop_of_length-le ls h)

-- after a place with magnitude a
in_front_lem : (i end n a : ℕ) → a ≡ 0 → joined i end (in_front a n) ≡ joined (i + 1) end n
in_front_lem i end zero zero e = refl
in_front_lem i end (suc n) zero e = omega arith
in_front_lem i end n (suc a) e = absurd (omega arith)

level_in_front : (i end n a : ℕ) → (a ≡ 0 → ⊥) → joined i end (in_front a n) ≡ joined (i + 1) (i + 1) n
level_in_front i end n zero h = absurd (h refl)
level_in_front i end zero (suc a) h = refl
level_in_front i end (suc n) (suc a) h = omega arith

module _ (ls : List ℕ) (i end : ℕ) (h : i < length ls) where
  size_from : size (drop i ls) ≡ in_front (get_or ls i 0) (size (drop (i + 1) ls))
  unfolding size
  size_from = rw (add-one, drop-cons ls i 0 h)

  abbrev Passed : ℕ → Type 0
  Passed new = joined (i + 1) new (size (drop (i + 1) ls)) ≡ joined i end (size (drop i ls))

  pub size_zero : (new : ℕ) → new ≡ end → get_or ls i 0 ≡ 0 → Passed new
  size_zero new q e = rw (q, size_from) (sym (in_front_lem i end (size (drop (i + 1) ls)) (get_or ls i 0) e))

  pub size_level : (new : ℕ) → new ≡ i + 1 → (get_or ls i 0 ≡ 0 → ⊥) → Passed new
  size_level new q e = rw (q, size_from) (sym (level_in_front i end (size (drop (i + 1) ls)) (get_or ls i 0) e))
