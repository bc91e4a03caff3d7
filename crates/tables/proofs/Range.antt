-- How large a scale of either row can be, whatever the QP, by one computed test of a row. Code holds a forward scale in
-- 16 bits, and the source's cap on L never acts by it; a level times a scale back stays within 32 bits.
use mathlib.Core.Bool.{Bool, ◌&&◌}
use mathlib.Core.List.{List}
use Prim.Native.Nat.{ℕ, ◌%◌, ◌≤◌}
use native.Mathlib.Nat.{mod-lt}
use lib.Dec.{T, leb, leb→le, lit<}
use lib.ListN.{get_or}
use mir.Facts.{and_yes}
use Rattle.integers.specs.Tests.{all}
use Rattle.integers.proofs.Tests.{all_at}
use Rattle.tables.specs.Scales.{forward, back, scale_of}

in_range : (row : List ℕ) (lo hi k : ℕ) → Bool
in_range row lo hi k = leb lo (get_or row k 0) && leb (get_or row k 0) hi

range : (row : List ℕ) (lo hi : ℕ) → T (all 6 (in_range row lo hi)) → (qp : ℕ)
    → (lo ≤ scale_of row qp) × (scale_of row qp ≤ hi)
unfolding scale_of in_range
range row lo hi t qp =
    let k = qp % 6 in
    let b = and_yes (leb lo (get_or row k 0)) (leb (get_or row k 0) hi)
    (all_at 6 (in_range row lo hi) t k (mod-lt qp (lit< tt))) in
    (leb→le lo (get_or row k 0) b.0, leb→le (get_or row k 0) hi b.1)

pub scale_range : (qp : ℕ) → (14564 ≤ scale_of forward qp) × (scale_of forward qp ≤ 26214)
unfolding forward all in_range
scale_range qp = range forward 14564 26214 tt qp

pub back_scale_range : (qp : ℕ) → (40 ≤ scale_of back qp) × (scale_of back qp ≤ 72)
unfolding back all in_range
back_scale_range qp = range back 40 72 tt qp
