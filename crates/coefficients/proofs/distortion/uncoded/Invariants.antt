-- `coefficients::distortion::uncoded` meets its contract: the sum of the parts, held once it is past 2^60.
use Prim.Native.Nat.{◌≤◌, ◌*◌, ◌^◌}
use Rattle.integers.specs.Sum.{over, on_ℕ}
use Rattle.coefficients.specs.Inner.Coefficients.{Within, zero_distortion}
use Rattle.coefficients.proofs.Uncoding.{Adding}
use Rattle.coefficients.proofs.distortion.uncoded.Given as goal

abbrev pub invariant-loop-part : goal.invariant-loop-part
invariant-loop-part l =
    let left = l.part-iterator in
    Adding l.d (over on_ℕ (zero_distortion l.scale) left.rest.now) (over on_ℕ (zero_distortion l.scale) l.block)
    × Within left.rest.now 32767 × (left.size * (l.scale.front * l.scale.front) ≤ 2 ^ 33)
