-- The halves of numbers, flooring, and when a line needs them: its sums may be too large for 32 bits.
use Rattle.std.specs.Prelude.{Bool, ℕ, ltb, ℤ, nat_abs, ◌-ℤ◌}
use Rattle.std.specs.Int.Signed.{shr_z}

-- a value of magnitude above b
abbrev pub beyond : ℕ → ℤ → Bool
beyond b z = ltb b (nat_abs z)

-- the half of a number, flooring
abbrev pub half : ℤ → ℤ
half z = shr_z z 2

-- what it has over twice its half
abbrev pub over : ℤ → ℤ
over z = z -ℤ half z -ℤ half z
