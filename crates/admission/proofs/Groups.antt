-- The verdict of each group of the early faults by the tests that code makes: of the whole call, and then of the first
-- component that fails a test that all three are put to.
use mathlib.Core.Path.{◌≡◌, sym, ap, ◌∙◌}
use mathlib.Core.Bool.{Bool, true, false, cond, ◌&&◌, ◌||◌}
use mathlib.Core.List.{List, [], ◌∷◌}
use Prim.Native.Nat.{ℕ, ◌*◌, ◌/◌, ◌^◌}
use lib.Dec.{ltb}
use lib.ListN.{length}
use lib.IntN.{ℤ}
use Rattle.integers.specs.Tests.{some}
use Rattle.refusals.specs.declared.Component.{Component}
use Rattle.refusals.specs.declared.Component.TheVariants.{Y, U, «V»}
use Rattle.refusals.specs.declared.Refusal.TheVariants.{Qp, Lambda, Sample}
use Rattle.refusals.specs.Three.{part_of}
use Rattle.refusals.specs.Sides.{most_log2}
use Rattle.refusals.specs.Faults.{Outcome, outside, passed, refused, verdict}
use Rattle.refusals.proofs.First.{or_else, verdict_append}
use Rattle.transform.specs.Call.{wild, sample_fault}
use Rattle.price.specs.declared.Costs.{Costs}
use Rattle.price.specs.Costs.{cost_refused}
use Rattle.price.specs.Lambda.{lambda_refused}
use Rattle.coding.specs.Call.{qp_fault, lambda_fault}
use Rattle.components.specs.declared.Request.{Request}
use Rattle.components.specs.Call.{requested, bit, runs, quant_of, quant_on, area, side_fault, in_quant, in_trans, cost_fault, length_fault}
use Rattle.components.specs.Inner.Groups.{settings_faults, buffer_faults}
use Rattle.admission.specs.Inner.Tested.{first_of, Sizes, residuals}
use Rattle.components.proofs.Blocks.{sample_of_stretch}
use Rattle.admission.proofs.Room.{stretch_is}

module _ (b : List ℤ) (t : Costs) (q : Request) where
  abbrev pub bad_qp : Component → Bool
  bad_qp k = bit k q.run && ltb 63 (part_of k q.settings).qp

  abbrev pub bad_lambda : Component → Bool
  bad_lambda k = bit k q.run && lambda_refused (part_of k q.settings).lambda

  abbrev pub bad_side : Bool
  bad_side = outside 2 most_log2 q.log2_luma || outside 2 most_log2 q.log2_luma

  settings_by : verdict settings_faults (requested b t q)
      ≡ cond bad_side (refused 1 0) (or_else (first_of Qp bad_qp) (first_of Lambda bad_lambda))
  unfolding verdict settings_faults side_fault in_quant qp_fault lambda_fault requested runs quant_of quant_on
  settings_by =
      ap (λ (v : Outcome Unit). cond bad_side (refused 1 0) v)
      (verdict_append (requested b t q) (in_quant Y qp_fault ∷ in_quant U qp_fault ∷ in_quant «V» qp_fault ∷ [])
      (in_quant Y lambda_fault ∷ in_quant U lambda_fault ∷ in_quant «V» lambda_fault ∷ []))

  pub side_refused : bad_side ≡ true → refused 1 0 ≡ verdict settings_faults (requested b t q)
  side_refused e = sym (settings_by ∙ rw e)

  pub qp_refused : {n c : ℕ} → bad_side ≡ false → refused n c ≡ first_of Qp bad_qp
      → refused n c ≡ verdict settings_faults (requested b t q)
  qp_refused e f = sym (settings_by ∙ rw (e, ← f))

  pub lambda_left : {v : Outcome Unit} → bad_side ≡ false → passed ≡ first_of Qp bad_qp → v ≡ first_of Lambda bad_lambda
      → v ≡ verdict settings_faults (requested b t q)
  lambda_left e f g = g ∙ sym (settings_by ∙ rw (e, ← f))

  -- ---- the buffer
  pub costs_refused : cost_refused t ≡ true → refused 4 0 ≡ verdict buffer_faults (requested b t q)
  unfolding verdict buffer_faults cost_fault requested
  costs_refused e = rw e

  module _ (n : ℕ) (z : Sizes q.log2_luma n) where
    abbrev pub bad_residuals : Component → Bool
    bad_residuals k = bit k q.run && some wild (residuals k n b)

    abbrev bad_length : Bool
    bad_length = ltb (length b) (2 ^ q.log2_luma * 2 ^ q.log2_luma * 3 / 2)

    buffer_by : verdict buffer_faults (requested b t q)
        ≡ cond (cost_refused t) (refused 4 0) (cond bad_length (refused 5 0) (first_of Sample bad_residuals))
    unfolding verdict buffer_faults cost_fault length_fault requested area runs
    buffer_by =
        λ i. cond (cost_refused t) (refused 4 0) (cond bad_length (refused 5 0) (cond (sample_of Y i) (refused 6 0) (cond
        (sample_of U i) (refused 6 1) (cond (sample_of «V» i) (refused 6 2) passed))))
      where
        sample_of : (k : Component) → (in_trans k sample_fault).holds (requested b t q) ≡ bad_residuals k
        sample_of k =
            sample_of_stretch k (requested b t q) ∙ ap (λ (l : List ℤ). bit k q.run && some wild l) (sym (stretch_is b t q n z k))

    pub length_refused : cost_refused t ≡ false → bad_length ≡ true → refused 5 0 ≡ verdict buffer_faults (requested b t q)
    length_refused e f = sym (buffer_by ∙ rw (e, f))

    pub residuals_left : {v : Outcome Unit} → cost_refused t ≡ false → bad_length ≡ false → v ≡ first_of Sample bad_residuals
        → v ≡ verdict buffer_faults (requested b t q)
    residuals_left e f g = g ∙ sym (buffer_by ∙ rw (e, f))
