-- The sign of a level as a symbol has it, by the machine's test.
use mathlib.Core.Path.{◌≡◌, refl}
use native.Mathlib.Omega.{arith}
use borrow.Author.Tests.{le-ltb}
use lib.IntN.{ℤ, pos, negsuc}
use lib.Signed.{lt_z}
use Rattle.runs.specs.Runs.{below0}

pub below_0 : (z : ℤ) → lt_z z (pos 0) ≡ below0 z
below_0 (pos n) = le-ltb n 0 (omega arith)
below_0 (negsuc n) = refl
