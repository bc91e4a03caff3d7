-- Answer and buffer of the guarded call by its verdict: accepted, what was coded of each component, and the three
-- stretches of levels, each in its place; refused, the verdict's numbers and what the buffer held.
use mathlib.Core.Path.{◌≡◌, refl, ap, ◌∙◌}
use mathlib.Core.Bool.{Bool, true, false}
use mathlib.Core.List.{List, ◌++◌}
use Prim.Native.Nat.{ℕ, ◌+◌}
use lib.ListN.{length, take, drop}
use lib.IntN.{ℤ}
use Rattle.scan.proofs.Laid.{laid_length}
use Rattle.refusals.specs.declared.Component.{Component}
use Rattle.refusals.specs.declared.Component.TheVariants.{Y, U, «V»}
use Rattle.refusals.specs.Faults.{Outcome, accepted, passed, refused, answering}
use Rattle.transform.proofs.Bounds.{coefficients_long}
use Rattle.coding.specs.Block.{block_places, signs, scanned}
use Rattle.components.specs.Call.{runs, log2_of, area, start, stretch, trans_of, quant_on, quant_of}
use Rattle.components.specs.Inner.Groups.{EarlyPassed}
use Rattle.components.proofs.Alone.{behind, stretch_long, joined_at, joined_behind}
use Rattle.guarding.specs.declared.Guarded.{Guarded}
use Rattle.guarding.specs.Block.{guarded, reported, levels_of, guarded_levels}
use Rattle.guarding.specs.Call.{GuardedBlock, guard_of, share, Shares, coded, levels, coded_buffer, guarded_verdict}
use Rattle.guarding.specs.Call.{guarded_answer, guarded_buffer}
use Rattle.guarding.proofs.Accepted.{early_passed}

-- ---- the answer
abbrev shares : (y u v : Guarded) → Shares
shares y u v = record { y = y; u = u; v = v }

-- what was coded of the three tells what was coded of each
pub coded_tells : (a b c x y z : Guarded) → coded a b c ≡ coded x y z → (a ≡ x) × (b ≡ y) × (c ≡ z)
coded_tells a b c x y z e =
    let f : shares a b c ≡ shares x y z = cc in
    (ap (λ (s : Shares). s.y) f, ap (λ (s : Shares). s.u) f, ap (λ (s : Shares). s.v) f)

pub answer_whole : (g : GuardedBlock)
    → guarded_answer g ≡ answering (guarded_verdict g) (record { y = share Y g; u = share U g; v = share «V» g })
unfolding guarded_answer
answer_whole g = refl

pub answer_of_three : (g : GuardedBlock) → guarded_verdict g ≡ passed
    → guarded_answer g ≡ coded (share Y g) (share U g) (share «V» g)
answer_of_three g ok =
    answer_whole g ∙ ap (λ (v : Outcome Unit). answering v (shares (share Y g) (share U g) (share «V» g))) ok

-- of a component, run or not
module _ (g : GuardedBlock) (k : Component) where
  pub share_run : runs k g.call ≡ true → share k g ≡ reported (guard_of k g)
  unfolding share
  share_run e = rw e

  pub levels_run : runs k g.call ≡ true → levels k g ≡ guarded_levels (guard_of k g)
  unfolding levels
  levels_run e = rw e

  pub levels_not_run : runs k g.call ≡ false → levels k g ≡ stretch k g.call
  unfolding levels
  levels_not_run e = rw e

-- ---- the buffer
pub buffer_whole : (g : GuardedBlock) → guarded_verdict g ≡ passed
    → guarded_buffer g
    ≡ levels Y g ++ (levels U g ++ (levels «V» g ++ drop (start «V» g.call + area «V» g.call) g.call.buffer))
unfolding guarded_buffer coded_buffer
buffer_whole g e = rw e

pub refused_leaves : (g : GuardedBlock) (n c : ℕ) → guarded_verdict g ≡ refused n c → guarded_buffer g ≡ g.call.buffer
unfolding guarded_buffer
refused_leaves g n c e = rw e

levels_long : (g : GuardedBlock) → EarlyPassed g.call → (k : Component) → length (levels k g) ≡ area k g.call
unfolding guarded_levels levels_of guard_of quant_of quant_on trans_of area
levels_long g early k = by (runs k g.call) refl
  where
    by : (t : Bool) → runs k g.call ≡ t → length (levels k g) ≡ area k g.call
    by true e =
        let c = quant_of k g.call in
        ap length (levels_run g k e)
        ∙ laid_length (block_places c) (signs (scanned c) (guarded (guard_of k g))) c.buffer
        ∙ coefficients_long (stretch k g.call) (log2_of k g.call.lw) (log2_of k g.call.lh)
    by false e = ap length (levels_not_run g k e) ∙ stretch_long g.call early k

-- what stands in a component's stretch after the call
abbrev pub left_in : Component → GuardedBlock → List ℤ
left_in k g = take (area k g.call) (drop (start k g.call) (guarded_buffer g))

module _ (g : GuardedBlock) (ok : guarded_verdict g ≡ passed) where
  long : (k : Component) → length (levels k g) ≡ area k g.call
  long = levels_long g (early_passed g ok)

  abbrev surplus : List ℤ
  surplus = behind g.call g.call.buffer

  pub left_is : (k : Component) → left_in k g ≡ levels k g
  left_is k =
      ap (λ (l : List ℤ). take (area k g.call) (drop (start k g.call) l)) (buffer_whole g ok)
      ∙ joined_at g.call (λ k. levels k g) long surplus k

  accepted_surplus : behind g.call (guarded_buffer g) ≡ surplus
  accepted_surplus =
      ap (behind g.call) (buffer_whole g ok) ∙ joined_behind g.call (λ k. levels k g) long surplus

-- ---- every call
pub surplus_stays : (g : GuardedBlock) → behind g.call (guarded_buffer g) ≡ behind g.call g.call.buffer
surplus_stays g = by (guarded_verdict g) refl
  where
    by : (v : Outcome Unit) → guarded_verdict g ≡ v
        → behind g.call (guarded_buffer g) ≡ behind g.call g.call.buffer
    by (accepted u) e = accepted_surplus g e
    by (refused n c) e = ap (behind g.call) (refused_leaves g n c e)

pub not_run_kept : (g : GuardedBlock) (k : Component) → runs k g.call ≡ false → left_in k g ≡ stretch k g.call
unfolding stretch
not_run_kept g k idle = by (guarded_verdict g) refl
  where
    by : (v : Outcome Unit) → guarded_verdict g ≡ v
        → left_in k g ≡ take (area k g.call) (drop (start k g.call) g.call.buffer)
    by (accepted u) e = left_is g e k ∙ levels_not_run g k idle
    by (refused n c) e =
        ap (λ (l : List ℤ). take (area k g.call) (drop (start k g.call) l)) (refused_leaves g n c e)
