-- What the early tests of the three-component call leave: each component is ready to be coded, and its residuals stand
-- at the front of the buffer.
use mathlib.Core.Path.{◌≡◌, sym, ap, subst, ◌∙◌}
use mathlib.Core.List.{List}
use Prim.Native.Nat.{ℕ, ◌+◌, ◌*◌, ◌/◌, ◌^◌, ◌≤◌}
use native.Mathlib.Omega.{arith}
use lib.ListN.{length, take}
use lib.Seq.{length-take-le}
use lib.IntN.{ℤ}
use Rattle.integers.proofs.Lists.{part_of_front}
use Rattle.refusals.specs.declared.Component.{Component}
use Rattle.refusals.specs.declared.Component.TheVariants.{Y, U, «V»}
use Rattle.refusals.specs.Sides.{most_log2}
use Rattle.refusals.specs.Faults.{passed, verdict}
use Rattle.price.specs.declared.Costs.{Costs}
use Rattle.components.specs.declared.Request.{Request}
use Rattle.components.specs.Call.{SubBlock, requested, runs, area, stretch}
use Rattle.components.specs.Inner.Groups.{settings_faults, EarlyPassed}
use Rattle.components.proofs.Accepted.{sides_fine, qp_fine, lambda_fine, costs_fine, long_enough, residuals_tame}
use Rattle.components.proofs.Alone.{stretch_long}
use Rattle.admission.specs.Inner.Tested.{Sizes, residuals}
use Rattle.admission.proofs.Room.{stretch_is}
use Rattle.stretch.specs.Inner.Part.{log2_in, Ready}
use Rattle.turns.specs.Inner.Parts.{AllReady}

module _ (b : List ℤ) (t : Costs) (q : Request) where
  abbrev s : SubBlock
  s = requested b t q

  pub log2_fine : verdict settings_faults s ≡ passed → (2 ≤ q.log2_luma) × (q.log2_luma ≤ most_log2)
  unfolding requested
  log2_fine e = (sides_fine s e).0

  pub log2_tested : passed ≡ verdict settings_faults s → (2 ≤ q.log2_luma) × (q.log2_luma ≤ most_log2)
  log2_tested e = log2_fine (sym e)

  log2_is : (k : Component) → length (stretch k s) ≡ area k s
      → length (stretch k s) ≡ 2 ^ log2_in k q * 2 ^ log2_in k q
  unfolding area requested
  log2_is k e = e

  module _ (early : EarlyPassed s) where
    pub stretch_ready : (k : Component) → Ready k t q (stretch k s)
    unfolding requested runs
    stretch_ready k =
        record {
          low = (log2_fine early.settings).0;
          high = (log2_fine early.settings).1;
          long = log2_is k (stretch_long s early k);
          costs = costs_fine s early.buffer;
          qp = qp_fine s early.settings k;
          lambda = lambda_fine s early.settings k;
          tame = residuals_tame s early.buffer k;
        }

    module _ (n : ℕ) (z : Sizes q.log2_luma n) (end : ℕ) (is : end ≡ n + n / 4 + n / 4) where
      pub room_of : end ≤ length b
      unfolding requested area
      room_of = omega (arith, long_enough s early.buffer, z.three, ap (λ (k : ℕ). k * 3 / 2) z.luma)

      pub room_holds : (k : Component) → residuals k n (take end b) ≡ stretch k s
      room_holds Y = part_of_front 0 n end b (omega arith) ∙ stretch_is b t q n z Y
      room_holds U = part_of_front n (n / 4) end b (omega arith) ∙ stretch_is b t q n z U
      room_holds «V» = part_of_front (n + n / 4) (n / 4) end b (omega arith) ∙ stretch_is b t q n z «V»

      pub front_long : length (take end b) ≡ end
      front_long = length-take-le end b room_of

      pub all_ready : AllReady t q n (take end b)
      all_ready =
          record {
            sizes = z;
            long = front_long ∙ is;
            parts = λ k. subst (λ (r : List ℤ). Ready k t q r) (sym (room_holds k)) (stretch_ready k);
          }
