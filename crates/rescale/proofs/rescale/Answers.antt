-- `rescale::rescale` meets its contract: either way the steps are the definition's.
use mathlib.Core.Path.{◌≡◌, ap, ◌∙◌}
use mathlib.Core.List.{map, map_congr_left}
use Prim.Native.Nat.{ℕ, ◌+◌, ◌-◌, ◌*◌, ◌/◌, ◌%◌, ◌^◌, ◌≤◌}
use native.Mathlib.Nat.{mod-eq_of_lt, one-mul}
use native.Mathlib.Omega.{arith}
use lib.IntN.{pos}
use Rattle.refusals.specs.Sides.{most_log2}
use Rattle.tables.specs.Scales.{back, scale_of}
use Rattle.tables.proofs.Range.{back_scale_range}
use Rattle.rescale.specs.Inner.Step.{stepped}
use Rattle.rescale.proofs.Steps.{nothing_dropped, some_dropped, factor_small, half_small}
use Rattle.rescale.proofs.rescale.Goals as goal

-- the scale, and the numbers shifted left, of which no bit is lost
scale_small : (s qp : ℕ) → s ≡ scale_of back qp → s ≤ 72
scale_small s qp e = omega (arith, (back_scale_range qp).1)

times_small : (s l qp : ℕ) → s ≡ scale_of back qp → 1 ≤ l → qp ≤ 63 → s * 2 ^ (qp / 6 - 1 - l) ≤ 18432
times_small s l qp e h q = factor_small s l qp (scale_small s qp e) h q

times_is : (s l qp : ℕ) → s ≡ scale_of back qp → 1 ≤ l → qp ≤ 63
    → (s * 2 ^ (qp / 6 - 1 - l)) % 2 ^ 32 ≡ s * 2 ^ (qp / 6 - 1 - l)
times_is s l qp e h q = mod-eq_of_lt (omega (arith, times_small s l qp e h q))

half_is : (l p : ℕ) → l ≤ most_log2 → (1 * 2 ^ (l - p)) % 2 ^ 32 ≡ 2 ^ (l - p)
half_is l p k =
    let h = half_small l p k in
    mod-eq_of_lt (omega (arith, h, one-mul (2 ^ (l - p)))) ∙ one-mul (2 ^ (l - p))

pub whole-requires : goal.whole-requires
whole-requires c =
    let s = c.back_scale-s.result in
    let l = c.args.side.log2 in
    let qp = c.args.qp.qp in
    let e = c.back_scale-s.ensures in
    let low = c.args.side.in_range.0 in
    let fine = c.args.qp.in_range in (
      omega (arith, times_is s l qp e low fine, times_small s l qp e low fine),
      omega arith,
      omega arith,
    )

pub whole-requires-else-l-p : goal.whole-requires-else-l-p
whole-requires-else-l-p c =
    let l = c.args.side.log2 in
    let p = c.args.qp.qp / 6 in (
      omega (arith, scale_small c.back_scale-s.result c.args.qp.qp c.back_scale-s.ensures),
      omega (arith, half_is l p c.args.side.in_range.1, half_small l p c.args.side.in_range.1),
      omega (arith, c.args.side.in_range.1),
    )

pub returns-then-l-p : goal.returns-then-l-p
returns-then-l-p c =
    let s = c.back_scale-s.result in
    let l = c.args.side.log2 in
    let qp = c.args.qp.qp in
    let e = c.back_scale-s.ensures in
    let xs = c.args.block.now in
    c.whole.ensures
    ∙ ap (λ (m : ℕ). map (stepped (pos m) 0 0) xs) (times_is s l qp e c.args.side.in_range.0 c.args.qp.in_range)
    ∙ ap (λ (m : ℕ). map (stepped (pos (m * 2 ^ (qp / 6 - 1 - l))) 0 0) xs) e
    ∙ map_congr_left {l = xs} (λ z m. nothing_dropped back l qp z c.if-l-p.true)

pub returns-else-l-p : goal.returns-else-l-p
returns-else-l-p c =
    let s = c.back_scale-s.result in
    let l = c.args.side.log2 in
    let qp = c.args.qp.qp in
    let xs = c.args.block.now in
    let d = 1 + l - qp / 6 in
    c.whole-else-l-p.ensures
    ∙ ap (λ (m : ℕ). map (stepped (pos s) m d) xs) (half_is l (qp / 6) c.args.side.in_range.1)
    ∙ ap (λ (m : ℕ). map (stepped (pos m) (2 ^ (l - qp / 6)) d) xs) c.back_scale-s.ensures
    ∙ map_congr_left {l = xs} (λ z m. some_dropped back l qp z c.if-l-p.false)
