-- How large the prices of a block are: the invariant of the prices that code holds. It is stated of the numbers alone,
-- and Prices.antt says it of prices.
use Rattle.std.specs.Prelude.{ℕ, ◌^◌, ◌≤◌}

-- z, zs: a 0; h, hs: the sign and the run of a level; o, t: a level of 1, of 2; m, l, e, c: the flags more, last,
-- empty and coded
pub record ModestNumbers (z zs h hs o t m l e c : ℕ) : Type 0 where
  pub zero : z ≤ 2 ^ 48
  pub zeros : zs ≤ 2 ^ 48
  pub head : h ≤ 2 ^ 49
  pub heads : hs ≤ 2 ^ 49
  pub one : o ≤ 2 ^ 48
  pub two : t ≤ 2 ^ 49
  pub more : m ≤ 2 ^ 48
  pub last : l ≤ 2 ^ 48
  pub empty : e ≤ 2 ^ 48
  pub coded : c ≤ 2 ^ 48
