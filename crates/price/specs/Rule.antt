-- What a block is priced by, and what a level's magnitude may be. A place is a number, its L; a block is the list of
-- its levels' magnitudes in scan order. Walk, cut and price depend on one Rule alone, however its numbers are made.
use Rattle.std.specs.Prelude.{◌≡◌, ℕ, zero, suc, ◌+◌, ◌≤◌, Bool, true, false, ◌⊎◌}

-- top: the rounded magnitude m of a place. dist: the distortion of a magnitude at a place. The rest has lambda
-- multiplied in. rate: of a magnitude, with whether the level before it in scan is 0; coded and empty: the flag of a
-- block with nonzero levels and of one without; more and last: the flag of a nonzero level before the last one, and of
-- the last one.
pub record Rule : Type 0 where
  pub top : ℕ → ℕ
  pub dist : ℕ → ℕ → ℕ
  pub rate : Bool → ℕ → ℕ
  pub coded : ℕ
  pub empty : ℕ
  pub more : ℕ
  pub last : ℕ

abbrev pub is_zero : ℕ → Bool
is_zero zero = true
is_zero (suc n) = false

-- the cost of magnitude a at the place p; z: the level before it is 0
unfoldable pub cost : Rule → Bool → ℕ → ℕ → ℕ
cost r z p a = r.dist p a + r.rate z a

-- the magnitudes allowed are 0, m, and m - 1 where m is at least 2
abbrev pub Allowed : ℕ → ℕ → Type 0
Allowed m a = (a ≡ 0) ⊎ ((a ≡ m) ⊎ ((2 ≤ m) × (suc a ≡ m)))
