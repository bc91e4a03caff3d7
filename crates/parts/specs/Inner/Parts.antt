-- A number in two parts: its quotient by 4096, flooring, and what it has over 4096 times that, which is 0 to 4095.
use Rattle.std.specs.Prelude.{ℤ, pos, ◌+ℤ◌, ◌-ℤ◌, ◌*ℤ◌}
use Rattle.std.specs.Int.Signed.{shr_z}

abbrev pub high_of : ℤ → ℤ
high_of z = shr_z z 4096

abbrev pub low_of : ℤ → ℤ
low_of z = z -ℤ pos 4096 *ℤ high_of z

-- a number of which p and q are such parts, or are sums of them
abbrev pub whole : (p q : ℤ) → ℤ
whole p q = pos 4096 *ℤ p +ℤ q
