-- `pgm::scaled` meets its contract: at most 1023, as v is at most the maxval.
use mathlib.Core.Path.{refl}
use Prim.Native.Nat.{ℕ, ◌+◌, ◌*◌, ◌/◌, ◌≤◌, ◌<◌}
use native.Mathlib.Nat.{div-lt_iff_lt-mul}
use Rattle.pgm.specs.Samples.{scaled_of}
use native.Mathlib.Omega.{arith}
use Rattle.pgm.proofs.scaled.Goals as goal

few : (v most : ℕ) → v ≤ most → 1 ≤ most → (v * 1023 + most / 2) / most ≤ 1023
few v most h k =
    let less : (v * 1023 + most / 2) / most < 1024 = (div-lt_iff_lt-mul {k = most} k).1 (omega arith) in
    omega arith

pub overflow_cast-result : goal.overflow_cast-result
overflow_cast-result c = omega (arith, few c.args.v c.args.most c.requires.0 c.requires.1)

pub returns : goal.returns
unfolding scaled_of
returns c = (refl, few c.args.v c.args.most c.requires.0 c.requires.1)
