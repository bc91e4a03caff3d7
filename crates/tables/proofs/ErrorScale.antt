-- The error scales by side and remainder, as a list of 30; and what an error scale is good for: q·E is at most
-- 2^(28+l), so that a product with it stays within 64 bits.
use mathlib.Core.Path.{◌≡◌, ◌∙◌, ap}
use mathlib.Core.List.{List}
use Prim.Native.Nat.{ℕ, ◌+◌, ◌*◌, ◌-◌, ◌/◌, ◌%◌, ◌^◌, ◌<◌, ◌≤◌}
use native.Mathlib.Nat.{mul-div-le, mod-lt}
use native.Mathlib.Omega.{arith}
use lib.Dec.{lit<}
use lib.ListN.{get_or}
use Rattle.integers.specs.Tests.{listed}
use Rattle.integers.proofs.Tests.{listed_at}
use Rattle.refusals.specs.Sides.{most_log2}
use Rattle.tables.specs.Scales.{forward, scale_of, error_scale}

-- the entry i: side 2^(i/6 + 1), remainder i mod 6
entry_of : ℕ → ℕ
entry_of i = error_scale (i / 6 + 1) (get_or forward (i % 6) 0)

unfoldable pub error_scales : List ℕ
unfolding entry_of error_scale forward listed
error_scales = listed entry_of 0 30

pub error_scale_at : (l qp : ℕ) → 1 ≤ l → l ≤ most_log2 → get_or error_scales ((l - 1) * 6 + qp % 6) 0
    ≡ error_scale l (scale_of forward qp)
unfolding error_scales entry_of scale_of
error_scale_at l qp lo hi =
    let i = (l - 1) * 6 + qp % 6 in
    let h : qp % 6 < 6 = mod-lt qp (lit< tt) in
    let log2 : i / 6 + 1 ≡ l = omega arith in
    let remainder : i % 6 ≡ qp % 6 = omega arith in
    listed_at 0 entry_of 30 i (omega arith)
    ∙ ap (λ (k : ℕ). error_scale k (get_or forward (i % 6) 0)) log2
    ∙ ap (λ (k : ℕ). error_scale l (get_or forward k 0)) remainder

pub scale_times_error_scale : (l q : ℕ) → q * error_scale l q ≤ 2 ^ (28 + l)
unfolding error_scale
scale_times_error_scale l q = mul-div-le (2 ^ (28 + l)) q
