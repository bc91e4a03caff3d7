-- `residuals::block::both_stages` meets its contract: the second stage on either part of what the first left, joined, is
-- the double sum, rounded and clipped.
use mathlib.Core.Path.{◌≡◌}
use Prim.Native.Nat.{ℕ, ◌*◌, ◌^◌, ◌<◌, ◌≤◌}
use native.Mathlib.Omega.{arith}
use lib.ListN.{length}
use lib.IntN.{nat_abs}
use Rattle.integers.specs.Sum.{at}
use Rattle.unfold.specs.Inner.Back.{most_value}
use Rattle.residuals.proofs.Whole.{first_within, high_within, low_within, settled}
use Rattle.residuals.proofs.block.both_stages.Goals as goal
use Rattle.residuals.proofs.block.both_stages.Goals.{After-unstage}

-- what the first stage left, which both parts are made of
first_small : (c : After-unstage) → (i : ℕ) → i < length c.unstage.new.dst → nat_abs (at c.unstage.new.dst i) ≤ most_value
first_small c =
    let z = c.length-h in
    first_within c.args.width.log2 c.args.height.log2 c.args.width.in_range.1 c.args.height.in_range.1
    c.args.block.now c.unstage.new.dst z.result z.ensures.0 c.unstage.ensures (omega (arith, c.requires.0))

pub high-requires-clause-by_index : goal.high-requires-clause-by_index
high-requires-clause-by_index c = first_small (goal.at.high-requires-clause-by_index c).After-unstage

pub low-requires-clause-by_index : goal.low-requires-clause-by_index
low-requires-clause-by_index c = first_small (goal.at.low-requires-clause-by_index c).After-unstage

pub join-requires-clause-by_index : goal.join-requires-clause-by_index
join-requires-clause-by_index c =
    let a = c.args in
    let z = c.length-h in
    let w = c.length-w in
    let x = c.unstage.new.dst in
    let hi = c.high.new.hi in
    let lo = c.low.new.lo in
    let p = c.unstage-2.new.dst in
    let q = c.unstage-3.new.dst in
    let area = 2 ^ a.width.log2 * 2 ^ a.height.log2 in
    let long : length x ≡ area = omega (arith, c.requires.0) in
    let lhi : length hi ≡ length x = omega arith in
    let llo : length lo ≡ length x = omega arith in
    let second : length p ≡ area = omega arith in
    λ i h. let inside : i < area = omega arith in (
      high_within a.width.log2 a.height.log2 c.args.width.in_range.1 c.args.height.in_range.1 a.block.now x
          z.result z.ensures.0 c.unstage.ensures long hi lo p q w.result w.ensures.0
          lhi c.high.ensures llo c.low.ensures c.unstage-2.ensures c.unstage-3.ensures i inside,
      low_within a.width.log2 a.height.log2 c.args.width.in_range.1 c.args.height.in_range.1 a.block.now x
          z.result z.ensures.0 c.unstage.ensures long hi lo p q w.result w.ensures.0
          lhi c.high.ensures llo c.low.ensures c.unstage-2.ensures c.unstage-3.ensures i inside,
    )

pub returns : goal.returns
returns c =
    let a = c.args in
    let z = c.length-h in
    let w = c.length-w in
    let x = c.unstage.new.dst in
    let hi = c.high.new.hi in
    let lo = c.low.new.lo in
    let p = c.unstage-2.new.dst in
    let q = c.unstage-3.new.dst in
    let area = 2 ^ a.width.log2 * 2 ^ a.height.log2 in
    let long : length x ≡ area = omega (arith, c.requires.0) in
    let lhi : length hi ≡ length x = omega arith in
    let llo : length lo ≡ length x = omega arith in
    let second : length p ≡ area = omega arith in
    settled a.width.log2 a.height.log2 c.args.width.in_range.1 c.args.height.in_range.1 a.block.now x
    z.result z.ensures.0 c.unstage.ensures long hi lo p q w.result w.ensures.0
    lhi c.high.ensures llo c.low.ensures c.unstage-2.ensures c.unstage-3.ensures
    c.join.new.block (omega arith) (λ i h. c.join.ensures i (omega arith))
