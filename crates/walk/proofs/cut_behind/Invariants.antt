-- The places from the cut on are met once each.
use Prim.Native.Nat.{◌≤◌, max}
use Rattle.walk.specs.Inner.Cutting.{CutBehind}
use Rattle.walk.proofs.cut_behind.Given as goal

abbrev pub invariant-loop-n : goal.invariant-loop-n
invariant-loop-n l = (l.n ≤ max l.cut l.end) × CutBehind l.scan.w l.scan.h l.cut l.n l.initial.levels l.levels
