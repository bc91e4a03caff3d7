-- What the numbers of a scale are to one another: the invariant of the scale that code holds. It is stated of the
-- numbers alone, and Scale.antt says it of a scale.
use Rattle.std.specs.Prelude.{◌≡◌, ℕ, ◌+◌, ◌-◌, ◌*◌, ◌/◌, ◌^◌, ◌≤◌}

-- u is 2^shift, h its half; q·error and rest are front·2^20: the error of magnitude 0 needs 32 bits only; no |c| below
-- c has an m above 0
pub record SoundNumbers (q shift u h error front rest c : ℕ) : Type 0 where
  pub some_q : 1 ≤ q
  pub wide_q : q ≤ 32767
  pub low : 9 ≤ shift
  pub high : shift ≤ 28
  pub unit : u ≡ 2 ^ shift
  pub half : h ≡ 2 ^ (shift - 1)
  pub twice : h + h ≡ u
  pub some_error : 1 ≤ error
  pub exact : q * error + rest ≡ front * 2 ^ 20
  pub some_front : 1 ≤ front
  pub wide_front : front ≤ 16384
  pub wide_rest : rest ≤ 32767
  pub least : c ≡ (h + q - 1) / q
