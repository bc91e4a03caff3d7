-- What becomes of a number that is to be a side or a QP: the value, or the refusal of a number outside.
use Rattle.std.specs.Prelude.{◌≡◌, true, false, ℕ, ltb, Result, MatchResult}
use Rattle.refusals.specs.declared.Refusal.{Refusal}
use Rattle.refusals.specs.declared.Refusal.TheVariants as refusals
use Rattle.refusals.specs.declared.ranges.Side.{Side}
use Rattle.refusals.specs.declared.ranges.Qp.{Qp}
use Rattle.refusals.specs.Sides.{most_log2, most_qp}
use Rattle.refusals.specs.Faults.{outside}

abbrev pub SideOf : ℕ → Result Side Refusal → Type 0
SideOf log2 r =
    MatchResult r (λ side. (side.log2 ≡ log2) × (outside 1 most_log2 log2 ≡ false)) (λ why. (why ≡ refusals.Side) × (outside 1 most_log2 log2 ≡ true))

abbrev pub QpOf : ℕ → Result Qp Refusal → Type 0
QpOf qp r = MatchResult r (λ q. (q.qp ≡ qp) × (ltb most_qp qp ≡ false)) (λ why. (why ≡ refusals.Qp) × (ltb most_qp qp ≡ true))
