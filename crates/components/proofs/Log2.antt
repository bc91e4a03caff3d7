-- The log2 side of each component, from luma's: inside what the transform and the quantiser alone take.
use mathlib.Core.Path.{◌≡◌}
use mathlib.Core.Bool.{false}
use Prim.Native.Nat.{ℕ, ◌≤◌}
use native.Mathlib.Omega.{arith}
use borrow.Author.Tests.{le-leb}
use Rattle.refusals.specs.declared.Component.{Component}
use Rattle.refusals.specs.declared.Component.TheVariants.{Y, U, «V»}
use Rattle.refusals.specs.Sides.{most_log2}
use Rattle.refusals.specs.Faults.{outside}
use Rattle.components.specs.Call.{log2_of}

pub not_outside : (lo hi n : ℕ) → lo ≤ n → n ≤ hi → outside lo hi n ≡ false
not_outside lo hi n a b = rw (le-leb lo n a, le-leb n hi b)

log2_low : (k : Component) (n : ℕ) → 2 ≤ n → 1 ≤ log2_of k n
log2_low Y n h = omega arith
log2_low U n h = omega arith
log2_low «V» n h = omega arith

pub log2_high : (k : Component) (n : ℕ) → n ≤ most_log2 → log2_of k n ≤ most_log2
log2_high Y n h = omega arith
log2_high U n h = omega arith
log2_high «V» n h = omega arith

pub log2_inside : (k : Component) (n : ℕ) → 2 ≤ n → n ≤ most_log2 → outside 1 most_log2 (log2_of k n) ≡ false
log2_inside k n a b = not_outside 1 most_log2 (log2_of k n) (log2_low k n a) (log2_high k n b)
