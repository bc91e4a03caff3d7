-- What is read off the coefficients of a block, by rows, before it is coded: the largest magnitude, and D.
use Rattle.std.specs.Prelude.{◌≡◌, cond, List, Option, is_none, IfSome, ℕ, ◌+◌, ◌*◌, ◌^◌, ◌≤◌, ◌<◌, eqb, leb}
use Rattle.std.specs.Prelude.{ℤ, negsuc, nat_abs}
use Rattle.integers.specs.Sum.{at, over, on_max}
use Rattle.integers.specs.Tests.{some, eq_ℤ}
use Rattle.price.specs.Level.{scaled, distortion}
use Rattle.scaling.specs.declared.scale.Scale.{Scale}

-- the largest |c|, by which also shows whether some coefficient is -32768
pub record Largest (block : List ℤ) (r : ℕ) : Type 0 where
  pub is : r ≡ over on_max nat_abs block
  pub small : r ≤ 32768
  pub lowest : some (λ z. eq_ℤ z (negsuc 32767)) block ≡ eqb r 32768

-- none where some L reaches the threshold; where none does, the largest |c|, whose L is below it
pub record Reached (q threshold : ℕ) (block : List ℤ) (r : Option ℕ) : Type 0 where
  pub walked : is_none r ≡ some (λ z. leb threshold (scaled q z)) block
  pub top : IfSome r (λ top. top ≡ over on_max nat_abs block)
  pub below : IfSome r (λ top. top * q < threshold)

-- every |c| is at most a
abbrev pub Within : List ℤ → ℕ → Type 0
Within block a = (k : ℕ) → nat_abs (at block k) ≤ a

-- a coefficient's square
abbrev pub energy : ℤ → ℕ
energy z = nat_abs z * nat_abs z

-- the distortion of magnitude 0
abbrev pub zero_distortion : Scale → ℤ → ℕ
zero_distortion g z = distortion g.shift g.error (scaled g.q z) 0

-- x is added to a sum that is not past 2^60
abbrev pub added : ℕ → ℕ → ℕ
added d x = cond (leb d (2 ^ 60)) (d + x) d

-- a sum s that is no longer added once past 2^60
pub record Held (s r : ℕ) : Type 0 where
  pub within : s ≤ 2 ^ 60 → r ≡ s
  pub beyond : 2 ^ 60 < s → 2 ^ 60 < r
