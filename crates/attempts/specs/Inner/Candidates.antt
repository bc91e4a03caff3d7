-- The candidates behind the block that the mode writes, in what code has of it: which is the first that fits, what is
-- answered and what is left.
use Rattle.std.specs.Prelude.{◌≡◌, cond, List, [], map, ℕ, suc, ◌+◌, ◌^◌, ℤ, Result}
use Rattle.integers.specs.Tests.{some, listed}
use Rattle.refusals.specs.declared.Component.{Component}
use Rattle.refusals.specs.declared.Refusal.TheVariants.{Height}
use Rattle.refusals.specs.Numbers.{number_of, component_of}
use Rattle.refusals.specs.declared.Refused.{Refused}
use Rattle.refusals.specs.Faults.{Outcome, accepted, refused}
use Rattle.guarding.specs.declared.Guarded.{Guarded}
use Rattle.guarding.specs.Block.{put_back, first_where}
use Rattle.guarding.specs.Inner.Held.{guard_outcome}
use Rattle.trial.specs.declared.Terms.{Terms}
use Rattle.trial.specs.Inner.Trial.{top_by, levels_by, fits_by, report_by}

-- of magnitudes ms, by the |c| in scan order: the first 2^i put back
unfoldable pub repaired_by : Terms → (cs ms : List ℕ) → ℕ → List ℕ
unfolding put_back
repaired_by t cs ms i = put_back (2 ^ i) ms (map (top_by t.weights.scale) cs)

unfoldable pub later_by : Terms → (cs ms : List ℕ) → List (List ℕ)
unfolding listed repaired_by
later_by t cs ms = listed (repaired_by t cs ms) 0 (suc (t.log2 + t.log2))

unfoldable pub first_by : Terms → (r B : List ℤ) (cs ms : List ℕ) → List ℕ
unfolding first_where fits_by later_by
first_by t r B cs ms = first_where (fits_by t r B cs) [] (later_by t cs ms)

unfoldable pub answer_by : Terms → Component → (r B : List ℤ) (cs ms : List ℕ) → Outcome Guarded
unfolding some fits_by later_by report_by first_by
answer_by t k r B cs ms =
    let a = report_by t r B cs (first_by t r B cs ms) in
    cond (some (fits_by t r B cs) (later_by t cs ms)) (accepted a) (refused (number_of Height) (component_of k))

-- the answer, and the levels where it is no refusal
pub record RepairedAs (t : Terms) (k : Component) (r B : List ℤ) (cs ms : List ℕ) (after : List ℤ) (o : Result Guarded Refused) :
    Type 0 where
  pub answer : guard_outcome o ≡ answer_by t k r B cs ms
  pub left : (a : Guarded) → guard_outcome o ≡ accepted a → after ≡ levels_by t.log2 B (first_by t r B cs ms)
