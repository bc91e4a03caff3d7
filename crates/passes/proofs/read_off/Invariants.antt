-- Each turn puts what its place takes, until one is the last: so of every block for which the places are so decided.
use Rattle.std.proofs.Common.{◌≡◌, List, ℕ}
use Rattle.price.specs.Rule.{Rule}
use Rattle.scaling.specs.declared.scale.Scale.{Scale}
use Rattle.passes.specs.Inner.Passes.{EndsAt, DecidedBy}
use Rattle.passes.proofs.Reading.{Reading}
use Rattle.passes.proofs.read_off.Given as goal

abbrev pub invariant-loop-n : goal.invariant-loop-n
invariant-loop-n l =
    (r : Rule) (g : Scale) (kept : List ℕ) → r.top 0 ≡ 0 → EndsAt l.scan.w l.scan.h kept l.end
    → DecidedBy r g l.scan.w l.scan.h kept 0 l.end l.taken
    → Reading r g l.scan.w l.scan.h kept l.levels l.prev l.n
