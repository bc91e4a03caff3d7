-- The guarded call from its components in turn, once the early tests have passed: one not run answers 0 throughout; of
-- one that is run, the quantiser alone accepts its coefficients, and the first candidate that fits is held, or else it
-- is refused. The first refusal of Y, U and V is the call's.
use mathlib.Core.Path.{◌≡◌, refl, sym, ap, ◌∙◌}
use mathlib.Core.Bool.{Bool, true, false, cond, ◌&&◌}
use Rattle.refusals.specs.declared.Component.{Component}
use Rattle.refusals.specs.declared.Component.TheVariants.{Y, U, «V»}
use Rattle.refusals.specs.Numbers.{component_of}
use Rattle.refusals.specs.Faults.{Outcome, accepted, passed, refused, verdict, answering}
use Rattle.refusals.proofs.First.{or_else}
use Rattle.coding.specs.Call.{quant_verdict}
use Rattle.components.specs.Call.{runs, quant_on, quant_of}
use Rattle.components.specs.Inner.Groups.{buffer_faults, EarlyPassed}
use Rattle.components.specs.Inner.Turns.{past, joined}
use Rattle.components.proofs.Turns.{joined_outcomes}
use Rattle.components.proofs.Late.{late_of}
use Rattle.components.proofs.Alone.{quantiser_alone_is_late}
use Rattle.guarding.specs.declared.Guarded.{Guarded}
use Rattle.guarding.specs.Block.{none_fits, reported}
use Rattle.guarding.specs.Call.{GuardedBlock, guard_of, nothing, share, guarded_verdict}
use Rattle.guarding.specs.Call.{guarded_answer}
use Rattle.guarding.specs.Inner.Held.{held_answer}
use Rattle.guarding.proofs.Late.{height_of, guarded_late, guarded_verdict_in_groups}
use Rattle.guarding.proofs.Answer.{answer_whole}

abbrev pub component_answer : Component → GuardedBlock → Outcome Guarded
component_answer k g =
    cond (runs k g.call) (past (quant_verdict (quant_of k g.call)) (held_answer (guard_of k g))) (accepted nothing)

-- what is held of a component's block
held_is : (k : Component) (g : GuardedBlock)
    → held_answer (guard_of k g)
    ≡ cond (none_fits (guard_of k g)) (refused 15 (component_of k)) (accepted (reported (guard_of k g)))
unfolding held_answer guard_of quant_of quant_on
held_is k g = refl

module _ (g : GuardedBlock) (early : EarlyPassed g.call) where
  pub component_answer_lem : (k : Component) → component_answer k g ≡ answering (guarded_late k g) (share k g)
  unfolding share
  component_answer_lem k = by (runs k g.call) refl
    where
      held : (v : Outcome Unit) (n : Bool) (a : Guarded)
          → past v (cond n (refused 15 (component_of k)) (accepted a))
          ≡ answering (or_else v (cond n (refused 15 (component_of k)) passed)) a
      held (accepted u) true a = refl
      held (accepted u) false a = refl
      held (refused m c) n a = refl

      by : (t : Bool) → runs k g.call ≡ t
          → cond t (past (quant_verdict (quant_of k g.call)) (held_answer (guard_of k g))) (accepted nothing)
          ≡ answering
          (or_else (late_of k g.call) (cond (t && none_fits (guard_of k g)) (refused 15 (component_of k)) passed))
          (cond t (reported (guard_of k g)) nothing)
      by true e =
          ap (λ (v : Outcome Unit). past v (held_answer (guard_of k g))) (quantiser_alone_is_late g.call early k e)
          ∙ ap (past (late_of k g.call)) (held_is k g)
          ∙ held (late_of k g.call) (none_fits (guard_of k g)) (reported (guard_of k g))
      by false e = rw e refl

  verdict_late : guarded_verdict g ≡ or_else (guarded_late Y g) (or_else (guarded_late U g) (guarded_late «V» g))
  verdict_late =
      let late = or_else (guarded_late Y g) (or_else (guarded_late U g) (guarded_late «V» g)) in
      guarded_verdict_in_groups g
      ∙ ap (λ (v : Outcome Unit). or_else v (or_else (verdict buffer_faults g.call) late)) early.settings
      ∙ ap (λ (v : Outcome Unit). or_else v late) early.buffer

  pub answer_in_turn :
      joined (component_answer Y g) (component_answer U g) (component_answer «V» g) ≡ guarded_answer g
  answer_in_turn =
      (λ i. joined (component_answer_lem Y i) (component_answer_lem U i) (component_answer_lem «V» i))
      ∙ joined_outcomes (guarded_late Y g) (guarded_late U g) (guarded_late «V» g) (share Y g) (share U g) (share «V» g)
      ∙ ap (λ (v : Outcome Unit). answering v (record { y = share Y g; u = share U g; v = share «V» g }))
      (sym verdict_late)
      ∙ sym (answer_whole g)

  -- where luma's heights are exceeded throughout, that is the answer, whatever U and V hold
  pub luma's_15_first : late_of Y g.call ≡ passed → runs Y g.call ≡ true → none_fits (guard_of Y g) ≡ true
      → guarded_verdict g ≡ refused 15 0
  luma's_15_first late run none =
      let chroma = or_else (guarded_late U g) (guarded_late «V» g) in
      verdict_late
      ∙ ap (λ (o : Outcome Unit). or_else (or_else o (height_of Y g)) chroma) late
      ∙ ap (λ (t : Bool). or_else (cond (t && none_fits (guard_of Y g)) (refused 15 0) passed) chroma) run
      ∙ ap (λ (t : Bool). or_else (cond t (refused 15 0) passed) chroma) none
