-- How large a side can be: so a block with a side of 4 has no more than 128 places, and fits its rooms.
use Prim.Native.Nat.{ℕ, ◌^◌, ◌≤◌}
use lib.Pow.{pow_mono}
use Rattle.refusals.specs.Sides.{most_log2}

pub side_small : (l : ℕ) → l ≤ most_log2 → 2 ^ l ≤ 32
side_small l h = pow_mono {i = l} {j = 5} h
