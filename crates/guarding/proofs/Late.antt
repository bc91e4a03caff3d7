-- The verdict of the guarded call in groups: that of the three-component call's early tests, and then of Y, U and V in
-- turn, of those that are run, what the quantiser alone says of it and whether none of its candidates fits.
use mathlib.Core.Path.{◌≡◌, refl, ap, ◌∙◌}
use mathlib.Core.Bool.{cond, ◌&&◌}
use mathlib.Core.List.{List, [], ◌∷◌, ◌++◌, map}
use Rattle.refusals.specs.declared.Component.{Component}
use Rattle.refusals.specs.declared.Component.TheVariants.{Y, U, «V»}
use Rattle.refusals.specs.Numbers.{number_of, component_of}
use Rattle.refusals.specs.Faults.{Fault, Outcome, passed, refused, verdict}
use Rattle.refusals.proofs.First.{or_else, verdict_append}
use Rattle.components.specs.Call.{SubBlock, runs, in_quant}
use Rattle.components.specs.Inner.Groups.{settings_faults, buffer_faults, late_faults}
use Rattle.components.proofs.Late.{late_of, late_is}
use Rattle.guarding.specs.Block.{none_fits}
use Rattle.guarding.specs.Call.{GuardedBlock, guard_of, asked, height_fault, guarded_faults, guarded_verdict}

-- faults of the three-component call, asked of the guarded one
pub asked_verdict : (g : GuardedBlock) (fs : List (Fault SubBlock)) → verdict (map asked fs) g ≡ verdict fs g.call
unfolding verdict
asked_verdict g [] = refl
asked_verdict g (f ∷ fs) =
    ap
    (λ (v : Outcome Unit).
    cond (f.holds g.call) (refused (number_of f.refusal) (component_of (f.component g.call))) v)
    (asked_verdict g fs)

-- what the heights add for a component, and its whole verdict
abbrev pub height_of : Component → GuardedBlock → Outcome Unit
height_of k g = cond (runs k g.call && none_fits (guard_of k g)) (refused 15 (component_of k)) passed

abbrev pub guarded_late : Component → GuardedBlock → Outcome Unit
guarded_late k g = or_else (late_of k g.call) (height_of k g)

height_is : (k : Component) (g : GuardedBlock) → verdict (height_fault k ∷ []) g ≡ height_of k g
unfolding verdict height_fault
height_is k g = refl

abbrev guarded_late_faults : Component → List (Fault GuardedBlock)
guarded_late_faults k = map asked (map (in_quant k) late_faults) ++ (height_fault k ∷ [])

late_guarded : (k : Component) (g : GuardedBlock) → verdict (guarded_late_faults k) g ≡ guarded_late k g
late_guarded k g =
    verdict_append g (map asked (map (in_quant k) late_faults)) (height_fault k ∷ [])
    ∙ ap (λ (v : Outcome Unit). or_else v (verdict (height_fault k ∷ []) g)) (asked_verdict g (map (in_quant k) late_faults)
    ∙ late_is k g.call)
    ∙ ap (or_else (late_of k g.call)) (height_is k g)

-- the list of the call in its groups
in_groups : guarded_faults
    ≡ map asked settings_faults
    ++ (map asked buffer_faults ++ (guarded_late_faults Y ++ (guarded_late_faults U ++ guarded_late_faults «V»)))
unfolding guarded_faults settings_faults buffer_faults late_faults
in_groups = refl

verdict_is : (g : GuardedBlock) → guarded_verdict g ≡ verdict guarded_faults g
unfolding guarded_verdict
verdict_is g = refl

pub guarded_verdict_in_groups : (g : GuardedBlock)
    → guarded_verdict g
    ≡ or_else (verdict settings_faults g.call)
    (or_else (verdict buffer_faults g.call)
    (or_else (guarded_late Y g) (or_else (guarded_late U g) (guarded_late «V» g))))
guarded_verdict_in_groups g =
    let s = map asked settings_faults in
    let b = map asked buffer_faults in
    let y = guarded_late_faults Y in
    let u = guarded_late_faults U in
    let v = guarded_late_faults «V» in
    let late = or_else (guarded_late Y g) (or_else (guarded_late U g) (guarded_late «V» g)) in
    verdict_is g
    ∙ ap (λ (fs : List (Fault GuardedBlock)). verdict fs g) in_groups
    ∙ verdict_append g s (b ++ (y ++ (u ++ v)))
    ∙ ap (or_else (verdict s g))
    (verdict_append g b (y ++ (u ++ v))
    ∙ ap (or_else (verdict b g))
    (verdict_append g y (u ++ v)
    ∙ ap (or_else (verdict y g)) (verdict_append g u v)
    ∙ ap (λ (o : Outcome Unit). or_else o (or_else (verdict u g) (verdict v g))) (late_guarded Y g)
    ∙ ap (λ (o : Outcome Unit). or_else (guarded_late Y g) (or_else o (verdict v g))) (late_guarded U g)
    ∙ ap (λ (o : Outcome Unit). or_else (guarded_late Y g) (or_else (guarded_late U g) o)) (late_guarded «V» g)))
    ∙ ap (λ (o : Outcome Unit). or_else o (or_else (verdict b g) late)) (asked_verdict g settings_faults)
    ∙ ap (λ (o : Outcome Unit). or_else (verdict settings_faults g.call) (or_else o late))
    (asked_verdict g buffer_faults)
