-- A move to the front of a list: what the bytes in front are then.
use Rattle.std.proofs.Common.{◌≡◌, ℕ, ◌-◌, ◌≤◌, List, length, take, drop, length-drop, arith, zero-add}
use Rattle.std.specs.List.{copy_within}
use lib.Seq.{length-take-le, take_at}
use Rattle.input.specs.Lines.{part}

pub moved_all : (l : List ℕ) (from have : ℕ) → from ≤ have → have ≤ length l
    → take (have - from) (copy_within l from have 0) ≡ part l from have
moved_all l from have h k =
    rw (zero-add (have - from))
    (take_at (take (have - from) (drop from l)) (drop (have - from) l) (have - from)
    (length-take-le (have - from) (drop from l) (simp length-drop (omega arith))))
