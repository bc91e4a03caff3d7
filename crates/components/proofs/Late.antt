-- The verdict of the three-component call once its early tests have passed: the first of the verdicts that the
-- quantiser alone gives of Y, then U, then V, of those that are run.
use mathlib.Core.Path.{◌≡◌, refl, sym, ap, ◌∙◌}
use mathlib.Core.Bool.{Bool, true, false, cond, ◌&&◌}
use mathlib.Core.List.{List, [], ◌∷◌, ◌++◌, map}
use Prim.Native.Nat.{◌≤◌}
use borrow.Author.Tests.{le-ltb}
use lib.Dec.{ltb}
use lib.ListN.{length, take}
use lib.IntN.{negsuc}
use Rattle.integers.specs.Tests.{some, eq_ℤ}
use Rattle.refusals.specs.declared.Component.{Component}
use Rattle.refusals.specs.declared.Component.TheVariants.{Y, U, «V»}
use Rattle.refusals.specs.Numbers.{number_of, component_of}
use Rattle.refusals.specs.Sides.{most_log2}
use Rattle.refusals.specs.Faults.{Fault, outside, Outcome, passed, refused, verdict}
use Rattle.refusals.proofs.First.{None, or_else, verdict_append, end, but}
use Rattle.refusals.proofs.Prefix.{verdict_past, past_front}
use Rattle.price.specs.Lambda.{lambda_refused}
use Rattle.price.specs.Costs.{cost_refused}
use Rattle.coding.specs.Block.{Quant, area}
use Rattle.coding.specs.Call as quant
use Rattle.components.specs.Call.{SubBlock, runs, quant_on, quant_of, in_quant, sub_block_faults, sub_block_verdict}
use Rattle.components.specs.Inner.Groups.{settings_faults, buffer_faults, late_faults}

-- the faults of the quantiser that belong to what it was told, lifted to a component
module _ (k : Component) (s : SubBlock) where
  data AllTold : List (Fault Quant) → Type 0 where
    none : AllTold []
    more : {f : Fault Quant} {fs : List (Fault Quant)} → f.component (quant_of k s) ≡ k → AllTold fs → AllTold (f ∷ fs)

  lifted : (fs : List (Fault Quant)) → AllTold fs
      → verdict (map (in_quant k) fs) s ≡ cond (runs k s) (verdict fs (quant_of k s)) passed
  unfolding verdict in_quant
  lifted [] none = by (runs k s)
    where
      by : (t : Bool) → passed ≡ cond t passed passed
      by true = refl
      by false = refl
  lifted (f ∷ fs) (more e r) = by (runs k s) (f.holds (quant_of k s)) (lifted fs r)
    where
      by : (t h : Bool) → verdict (map (in_quant k) fs) s ≡ cond t (verdict fs (quant_of k s)) passed
          → cond (t && h) (refused (number_of f.refusal) (component_of k)) (verdict (map (in_quant k) fs) s)
          ≡ cond t (cond h (refused (number_of f.refusal) (component_of (f.component (quant_of k s))))
          (verdict fs (quant_of k s))) passed
      by true true i = ap (λ (c : Component). refused (number_of f.refusal) (component_of c)) (sym e)
      by true false i = i
      by false h i = i

  -- of what only the coefficients show
  pub late_is : verdict (map (in_quant k) late_faults) s ≡ cond (runs k s) (verdict late_faults (quant_of k s)) passed
  unfolding late_faults quant.level_fault quant.price_fault quant.distortion_fault quant_of quant_on
  late_is = lifted late_faults (more refl (more refl (more refl none)))

-- the list of the call in its groups
in_groups : sub_block_faults
    ≡ settings_faults
    ++ (buffer_faults
    ++ (map (in_quant Y) late_faults ++ (map (in_quant U) late_faults ++ map (in_quant «V») late_faults)))
unfolding sub_block_faults settings_faults buffer_faults late_faults
in_groups = refl

verdict_is : (s : SubBlock) → sub_block_verdict s ≡ verdict sub_block_faults s
unfolding sub_block_verdict
verdict_is s = refl

-- the verdict of a component's coefficients
abbrev pub late_of : Component → SubBlock → Outcome Unit
late_of k s = cond (runs k s) (verdict late_faults (quant_of k s)) passed

pub verdict_in_groups : (s : SubBlock)
    → sub_block_verdict s
    ≡ or_else (verdict settings_faults s)
    (or_else (verdict buffer_faults s) (or_else (late_of Y s) (or_else (late_of U s) (late_of «V» s))))
verdict_in_groups s =
    let y = map (in_quant Y) late_faults in
    let u = map (in_quant U) late_faults in
    let v = map (in_quant «V») late_faults in
    verdict_is s
    ∙ ap (λ (fs : List (Fault SubBlock)). verdict fs s) in_groups
    ∙ verdict_append s settings_faults (buffer_faults ++ (y ++ (u ++ v)))
    ∙ ap (or_else (verdict settings_faults s))
    (verdict_append s buffer_faults (y ++ (u ++ v))
    ∙ ap (or_else (verdict buffer_faults s))
    (verdict_append s y (u ++ v)
    ∙ ap (or_else (verdict y s)) (verdict_append s u v)
    ∙ ap (λ (o : Outcome Unit). or_else o (or_else (verdict u s) (verdict v s))) (late_is Y s)
    ∙ ap (λ (o : Outcome Unit). or_else (late_of Y s) (or_else o (verdict v s))) (late_is U s)
    ∙ ap (λ (o : Outcome Unit). or_else (late_of Y s) (or_else (late_of U s) o)) (late_is «V» s)))

-- ---- the quantiser alone gives the same verdict of a component whose early tests have passed
early_faults : List (Fault Quant)
early_faults =
    quant.side_fault ∷ quant.qp_fault ∷ quant.lambda_fault ∷ quant.cost_fault ∷ quant.length_fault ∷ quant.sample_fault ∷ []

alone_in_groups : quant.quant_faults ≡ early_faults ++ late_faults
unfolding quant.quant_faults late_faults early_faults
alone_in_groups = refl

alone_is : (c : Quant) → quant.quant_verdict c ≡ verdict quant.quant_faults c
unfolding quant.quant_verdict
alone_is c = refl

module _ (c : Quant) (wide : outside 1 most_log2 c.lw ≡ false) (high : outside 1 most_log2 c.lh ≡ false)
    (qp : ltb 63 c.settings.qp ≡ false)
    (lambda : lambda_refused c.settings.lambda ≡ false) (costs : cost_refused c.costs ≡ false)
    (long : area c ≤ length c.buffer)
    (small : some (λ z. eq_ℤ z (negsuc 32767)) (take (area c) c.buffer) ≡ false) where
  none_early : None c early_faults
  unfolding early_faults quant.side_fault quant.qp_fault quant.lambda_fault quant.cost_fault quant.length_fault
      quant.sample_fault
  none_early =
      but {f = quant.side_fault} (rw (wide, high))
      (but qp (but lambda (but costs (but (le-ltb (length c.buffer) (area c) long) (but small end)))))

  pub alone_late : quant.quant_verdict c ≡ verdict late_faults c
  alone_late =
      alone_is c
      ∙ ap (λ (fs : List (Fault Quant)). verdict fs c) alone_in_groups
      ∙ verdict_past (past_front late_faults none_early)
