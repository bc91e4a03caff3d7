-- The guarded call from its components: of each, what it answers and leaves past its early tests is what the definition
-- says of it, so that the call is the definition's.
use mathlib.Core.Path.{◌≡◌, refl, ap, ◌∙◌}
use mathlib.Core.Bool.{cond}
use mathlib.Core.List.{List}
use lib.IntN.{ℤ}
use Rattle.std.specs.Prelude.{Result}
use Rattle.refusals.specs.declared.Refused.{Refused}
use Rattle.refusals.specs.declared.Three.{Three}
use Rattle.refusals.specs.declared.Component.{Component}
use Rattle.refusals.specs.declared.Component.TheVariants.{Y, U, «V»}
use Rattle.refusals.specs.Faults.{accepted, passed, answering}
use Rattle.price.specs.declared.Costs.{Costs}
use Rattle.coding.specs.Block.{Quant, called}
use Rattle.coding.specs.Call.{quant_verdict}
use Rattle.components.specs.declared.Request.{Request}
use Rattle.components.specs.Call.{SubBlock, requested, bit, runs, stretch, trans_of, quant_on, quant_of}
use Rattle.components.specs.Inner.Groups.{EarlyPassed}
use Rattle.heights.specs.declared.Heights.{Heights}
use Rattle.guarding.specs.Block.{Guard, guarded_levels}
use Rattle.guarding.specs.Call.{GuardedBlock, guarded_request, guard_of, guarded_verdict, nothing, share, guarded_answer}
use Rattle.guarding.specs.Call.{levels, guarded_buffer, coded_buffer, guarded_outcome, Shares}
use Rattle.guarding.specs.Inner.Held.{guard_by, held_answer}
use Rattle.guarding.proofs.Late.{guarded_late, guarded_verdict_in_groups}
use Rattle.components.specs.Inner.Turns.{past}
use Rattle.guarding.proofs.Accepted.{guard_call}
use Rattle.guarding.proofs.Turns.{component_answer_lem}
use Rattle.guard.specs.Inner.Part.{guard_in, guard_part_answer, guard_part_left}
use Rattle.turns.specs.Inner.Parts.{Called}
use Rattle.turns.proofs.Finished.{Known, ends}

module _ (b : List ℤ) (t : Costs) (q : Request) (h : Three Heights) where
  abbrev s : SubBlock
  s = requested b t q

  abbrev g : GuardedBlock
  g = guarded_request b t q h

  abbrev here : Component → Guard
  here k = guard_in k t q h (stretch k s)

  guard_is : (k : Component) → here k ≡ guard_of k g
  unfolding guard_in guard_by called guard_of quant_of quant_on trans_of requested guarded_request
  guard_is Y = refl
  guard_is U = refl
  guard_is «V» = refl

  answered : EarlyPassed s → (k : Component)
      → guard_part_answer k t q h (stretch k s) ≡ answering (guarded_late k g) (share k g)
  unfolding guard_part_answer runs requested guarded_request
  answered early k =
      ap (λ (x : Guard). cond (bit k q.run) (past (quant_verdict x.call) (held_answer x)) (accepted nothing)) (guard_is k)
      ∙ ap (λ (c : Quant). cond (bit k q.run) (past (quant_verdict c) (held_answer (guard_of k g))) (accepted nothing))
      (guard_call k g)
      ∙ component_answer_lem g early k

  left : EarlyPassed s → (k : Component) → guarded_late k g ≡ passed
      → guard_part_left k t q h (stretch k s) ≡ levels k g
  unfolding guard_part_left levels runs requested guarded_request
  left early k late = ap (λ (x : Guard). cond (bit k q.run) (guarded_levels x) (stretch k s)) (guard_is k)

  known : Known b t q (λ k r. guard_part_answer k t q h r) (λ k r. guard_part_left k t q h r) (guarded_verdict g)
      (λ k. guarded_late k g) (λ k. share k g) (λ k. levels k g)
  unfolding guarded_request
  known = record { groups = guarded_verdict_in_groups g; answered = answered; left = left }

  pub is_guarded : (after : List ℤ) (r : Result Shares Refused)
      → Called (λ k r. guard_part_answer k t q h r) (λ k r. guard_part_left k t q h r) s after r
      → (guarded_outcome r ≡ guarded_answer g) × (after ≡ guarded_buffer g)
  unfolding guarded_answer guarded_buffer coded_buffer guarded_request
  is_guarded after r called = ends b t q _ _ _ _ _ _ known after r called
