-- The three-component call from its components: of each, what it answers and leaves past its early tests is what the
-- definition says of it, so that the call is the definition's.
use mathlib.Core.Path.{◌≡◌, refl, ap, ◌∙◌}
use mathlib.Core.Bool.{Bool, true, false, cond}
use mathlib.Core.List.{List}
use lib.IntN.{ℤ}
use Rattle.std.specs.Prelude.{Result}
use Rattle.refusals.specs.declared.Refused.{Refused}
use Rattle.refusals.specs.declared.Component.{Component}
use Rattle.refusals.specs.Faults.{Outcome, passed, verdict, answering}
use Rattle.price.specs.declared.Costs.{Costs}
use Rattle.coding.specs.Block.{Quant, count_of, price_of, quantised}
use Rattle.coding.specs.Call as quant
use Rattle.components.specs.declared.Request.{Request}
use Rattle.components.specs.Call.{SubBlock, requested, bit, runs, stretch, quant_of, count, price, share, levels, Shares}
use Rattle.components.specs.Call.{sub_block_verdict, sub_block_answer, sub_block_buffer, coded_buffer, sub_block_outcome}
use Rattle.components.specs.Inner.Groups.{late_faults, EarlyPassed}
use Rattle.components.proofs.Alone.{quantiser_alone_is_late}
use Rattle.components.proofs.Answer.{answer_alone, buffer_alone}
use Rattle.components.proofs.Late.{late_of, verdict_in_groups}
use Rattle.stretch.specs.Inner.Part.{part_answer, part_left}
use Rattle.turns.specs.Inner.Parts.{Called}
use Rattle.turns.proofs.Alone.{quant_is}
use Rattle.turns.proofs.Finished.{Known, ends}

module _ (b : List ℤ) (t : Costs) (q : Request) where
  abbrev s : SubBlock
  s = requested b t q

  -- run or not, a component's part of the call by what is answered and left of it
  answer_by : (k : Component) → part_answer k t q (stretch k s) ≡ cond (runs k s) (quant.quant_answer (quant_of k s)) (quant.coded 0 0)
  unfolding part_answer runs requested
  answer_by k = ap (λ (c : Quant). cond (bit k q.run) (quant.quant_answer c) (quant.coded 0 0)) (quant_is b t q k)

  left_by : (k : Component) → part_left k t q (stretch k s) ≡ cond (runs k s) (quant.quant_buffer (quant_of k s)) (stretch k s)
  unfolding part_left runs requested
  left_by k = ap (λ (c : Quant). cond (bit k q.run) (quant.quant_buffer c) (stretch k s)) (quant_is b t q k)

  module _ (early : EarlyPassed s) (k : Component) where
    answered : part_answer k t q (stretch k s) ≡ answering (late_of k s) (share k s)
    unfolding share count price
    answered = answer_by k ∙ by (runs k s) refl
      where
        by : (o : Bool) → runs k s ≡ o
            → cond o (quant.quant_answer (quant_of k s)) (quant.coded 0 0)
            ≡ answering (cond o (verdict late_faults (quant_of k s)) passed) (record {
              count = cond o (count_of (quant_of k s)) 0;
              price = cond o (price_of (quant_of k s)) 0;
            })
        by true run = answer_alone (quant_of k s) ∙ ap (λ (v : Outcome Unit). answering v (record {
          count = count_of (quant_of k s);
          price = price_of (quant_of k s);
        })) (quantiser_alone_is_late s early k run ∙ rw run)
        by false run = refl

    left : late_of k s ≡ passed → part_left k t q (stretch k s) ≡ levels k s
    unfolding levels
    left late = left_by k ∙ by (runs k s) refl
      where
        by : (o : Bool) → runs k s ≡ o
            → cond o (quant.quant_buffer (quant_of k s)) (stretch k s) ≡ cond o (quantised (quant_of k s)) (stretch k s)
        by true run = buffer_alone (quant_of k s) (quantiser_alone_is_late s early k run ∙ late)
        by false run = refl

  known : Known b t q (λ k r. part_answer k t q r) (λ k r. part_left k t q r) (sub_block_verdict s) (λ k. late_of k s)
      (λ k. share k s) (λ k. levels k s)
  known = record { groups = verdict_in_groups s; answered = answered; left = left }

  pub is_sub_block : (after : List ℤ) (r : Result Shares Refused)
      → Called (λ k r. part_answer k t q r) (λ k r. part_left k t q r) s after r
      → (sub_block_outcome r ≡ sub_block_answer s) × (after ≡ sub_block_buffer s)
  unfolding sub_block_answer sub_block_buffer coded_buffer
  is_sub_block after r called = ends b t q _ _ _ _ _ _ known after r called
