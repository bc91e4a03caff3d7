-- A shift to the right that rounds: half of the last unit is added, and what falls off is dropped downwards.
-- So a half rounds up, also below 0, where a division that drops toward 0 would round it away.
use Rattle.std.specs.Prelude.{ℕ, ◌-◌, ◌^◌, ℤ, pos, ◌+ℤ◌}
use Rattle.std.specs.Int.Signed.{shr_z}

-- (z + 2^(s-1)) shifted right by s, flooring
abbrev pub rounded : ℤ → ℕ → ℤ
rounded z s = shr_z (z +ℤ pos (2 ^ (s - 1))) (2 ^ s)
