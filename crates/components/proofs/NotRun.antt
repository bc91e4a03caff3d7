-- What is not run is not read: two calls that agree on luma's sides, on what is run, on the flags, the cost tables and
-- the buffer's length, and on settings and residuals of what is run, have the same answer, accepted or refused, and
-- leave the same in the stretch of each component that is run. Other bits of the run mask, settings and residuals of
-- what is not run, and the surplus are not spoken of.
use mathlib.Core.Path.{◌≡◌, refl, sym, ap, ◌∙◌}
use mathlib.Core.Bool.{Bool, true, false, cond, ◌&&◌, ◌||◌}
use mathlib.Core.List.{List, ◌∷◌}
use Prim.Native.Nat.{ℕ}
use lib.ListN.{length}
use Rattle.refusals.specs.declared.Component.{Component}
use Rattle.refusals.specs.declared.Component.TheVariants.{Y, U, «V»}
use Rattle.refusals.specs.Sides.{most_log2}
use Rattle.refusals.specs.Faults.{Fault, outside, Outcome, accepted, refused}
use Rattle.refusals.proofs.First.{Alike, all, next, same_verdict}
use Rattle.transform.specs.Coefficients.{coefficients}
use Rattle.transform.specs.Call.{Trans}
use Rattle.transform.specs.Call as trans
use Rattle.price.specs.Costs.{cost_refused}
use Rattle.coding.specs.Block.{Quant, count_of, price_of, quantised}
use Rattle.coding.specs.Call as quant
use Rattle.components.specs.Call.{SubBlock, runs, settings_of, log2_of, area, stretch, trans_of, quant_on, quant_of}
use Rattle.components.specs.Call.{side_fault}
use Rattle.components.specs.Call.{cost_fault, length_fault, in_trans, in_quant, sub_block_faults, count, price, share}
use Rattle.components.specs.Call.{levels, sub_block_verdict, sub_block_answer, sub_block_buffer}
use Rattle.components.proofs.Answer.{outcome, answer_whole}
use Rattle.components.proofs.Alone.{left_in, behind, left_is, refused_left, surplus_stays}

pub record SameWhereRun (s t : SubBlock) : Type 0 where
  pub mode : s.mode ≡ t.mode
  pub fixed : s.fixed ≡ t.fixed
  pub lw : s.lw ≡ t.lw
  pub lh : s.lh ≡ t.lh
  pub run : (k : Component) → runs k s ≡ runs k t
  pub slice : s.intra_slice ≡ t.intra_slice
  pub coded : s.intra_coded ≡ t.intra_coded
  pub costs : s.costs ≡ t.costs
  pub long : length s.buffer ≡ length t.buffer
  pub settings : (k : Component) → runs k s ≡ true → settings_of k s ≡ settings_of k t
  pub residuals : (k : Component) → runs k s ≡ true → stretch k s ≡ stretch k t

module _ (s t : SubBlock) (same : SameWhereRun s t) where
  trans_same : (k : Component) → runs k s ≡ true → trans_of k s ≡ trans_of k t
  unfolding trans_of
  trans_same k h =
      λ i. record { buffer = same.residuals k h i; lw = log2_of k (same.lw i); lh = log2_of k (same.lh i) }

  quant_same : (k : Component) → runs k s ≡ true → quant_of k s ≡ quant_of k t
  unfolding quant_of quant_on trans_of
  quant_same k h =
      λ i. record {
        buffer = coefficients (same.residuals k h i) (log2_of k (same.lw i)) (log2_of k (same.lh i));
        lw = log2_of k (same.lw i);
        lh = log2_of k (same.lh i);
        component = k;
        settings = same.settings k h i;
        intra_slice = same.slice i;
        intra_coded = same.coded i;
        costs = same.costs i;
        mode = same.mode i;
        fixed = same.fixed i;
      }

  -- what is taken of a component only where it is run
  where_run : {A I : Type 0} (pick : Bool → A → A) → ((x y : A) → pick false x ≡ pick false y)
      → (k : Component) (of : I → A) (i j : I)
      → (runs k s ≡ true → i ≡ j) → pick (runs k s) (of i) ≡ pick (runs k t) (of j)
  where_run {A} {I} pick idle k of i j h = by (runs k s) refl ∙ ap (λ (b : Bool). pick b (of j)) (same.run k)
    where
      by : (b : Bool) → runs k s ≡ b → pick b (of i) ≡ pick b (of j)
      by true e = ap (λ (x : I). pick true (of x)) (h e)
      by false e = idle (of i) (of j)

  -- ---- the faults
  trans_alike : (k : Component) (f : Fault Trans) {fs : List (Fault SubBlock)} → Alike s t fs
      → Alike s t (in_trans k f ∷ fs)
  unfolding in_trans
  trans_alike k f r =
      next (where_run (λ b x. b && x) (λ x y. refl) k f.holds (trans_of k s) (trans_of k t) (trans_same k)) refl r

  quant_alike : (k : Component) (f : Fault Quant) {fs : List (Fault SubBlock)} → Alike s t fs
      → Alike s t (in_quant k f ∷ fs)
  unfolding in_quant
  quant_alike k f r =
      next (where_run (λ b x. b && x) (λ x y. refl) k f.holds (quant_of k s) (quant_of k t) (quant_same k)) refl r

  late_alike : (k : Component) {fs : List (Fault SubBlock)} → Alike s t fs
      → Alike s t (in_quant k quant.level_fault ∷ in_quant k quant.price_fault ∷ in_quant k quant.distortion_fault ∷ fs)
  late_alike k r =
      quant_alike k quant.level_fault (quant_alike k quant.price_fault (quant_alike k quant.distortion_fault r))

  alike : Alike s t sub_block_faults
  unfolding sub_block_faults side_fault cost_fault length_fault area
  alike =
      next {f = side_fault} (λ i. outside 2 most_log2 (same.lw i) || outside 2 most_log2 (same.lh i)) refl
      (quant_alike Y quant.qp_fault
      (quant_alike U quant.qp_fault
      (quant_alike «V» quant.qp_fault
      (quant_alike Y quant.lambda_fault
      (quant_alike U quant.lambda_fault
      (quant_alike «V» quant.lambda_fault
      (next {f = cost_fault} (ap cost_refused same.costs) refl
      (next {f = length_fault} (rw (same.long, same.lw, same.lh)) refl
      (trans_alike Y trans.sample_fault
      (trans_alike U trans.sample_fault
      (trans_alike «V» trans.sample_fault
      (late_alike Y (late_alike U (late_alike «V» all))))))))))))))

  verdict_same : sub_block_verdict s ≡ sub_block_verdict t
  unfolding sub_block_verdict
  verdict_same = same_verdict s t sub_block_faults alike

  -- ---- the answer
  or_none : (k : Component) (of : Quant → ℕ) → cond (runs k s) (of (quant_of k s)) 0
      ≡ cond (runs k t) (of (quant_of k t)) 0
  or_none k of = where_run (λ b n. cond b n 0) (λ x y. refl) k of (quant_of k s) (quant_of k t) (quant_same k)

  share_same : (k : Component) → share k s ≡ share k t
  unfolding share count price
  share_same k = λ i. record { count = or_none k count_of i; price = or_none k price_of i }

  pub same_answer : sub_block_answer s ≡ sub_block_answer t
  same_answer =
      answer_whole s
      ∙ (λ i. outcome (verdict_same i) (share_same Y i) (share_same U i) (share_same «V» i))
      ∙ sym (answer_whole t)

  -- ---- the buffer
  levels_same : (k : Component) → runs k s ≡ true → levels k s ≡ levels k t
  unfolding levels
  levels_same k h = λ i. cond (same.run k i) (quantised (quant_same k h i)) (same.residuals k h i)

  pub same_left : (k : Component) → runs k s ≡ true → left_in k s ≡ left_in k t
  same_left k h = by (sub_block_verdict s) refl
    where
      by : (v : Outcome Unit) → sub_block_verdict s ≡ v → left_in k s ≡ left_in k t
      by (accepted u) e = left_is s e k ∙ levels_same k h ∙ sym (left_is t (sym verdict_same ∙ e) k)
      by (refused n c) e =
          refused_left s n c e k ∙ same.residuals k h ∙ sym (refused_left t n c (sym verdict_same ∙ e) k)

  pub same_surplus : behind s s.buffer ≡ behind t t.buffer → behind s (sub_block_buffer s)
      ≡ behind t (sub_block_buffer t)
  same_surplus e = surplus_stays s ∙ e ∙ sym (surplus_stays t)
