-- What a viewer shows of an accepted guarded call, whatever the guess was: every sample of a component that is run lies
-- within the host's heights of what the camera saw, and one threshold tells paper from ink. And the extremes that the
-- call reports are reached, so that they are the exact ones.
use mathlib.Core.Path.{◌≡◌, subst, sym}
use mathlib.Core.Logic.{◌⊎◌}
use mathlib.Core.Bool.{true}
use Prim.Native.Nat.{ℕ, ◌+◌, ◌≤◌, ◌<◌}
use native.Mathlib.Omega.{arith}
use lib.Dec.{leb→le, le→leb}
use lib.IntN.{ℤ, pos, negsuc, ◌+ℤ◌, ◌-ℤ◌}
use lib.Signed.{◌≤ℤ◌, ◌<ℤ◌}
use Rattle.integers.specs.Sum.{at}
use Rattle.refusals.specs.declared.Component.{Component}
use Rattle.refusals.specs.Faults.{passed}
use Rattle.components.specs.Call.{runs, area, stretch}
use Rattle.heights.specs.Shown.{shown}
use Rattle.heights.proofs.Exact.{darkest_reached, lightest_reached}
use Rattle.heights.proofs.Shown.{shown_within_heights, one_threshold_separates}
use Rattle.guarding.specs.Call.{GuardedBlock, heights_of, share, guarded_verdict}
use Rattle.guarding.proofs.Promises.{viewed, extremes_are_the_block's, sample_within_heights}

-- a bound that is raised
raised : (z : ℤ) (m n : ℕ) → z ≤ℤ pos m → m ≤ n → z ≤ℤ pos n
raised (pos a) m n h l = record { le = le→leb a n (omega (arith, leb→le a m h.le)) }
raised (negsuc a) m n h l = record { le = tt }

-- a call with one log2 side, a component that is run, and one of its places
module _ (g : GuardedBlock) (ok : guarded_verdict g ≡ passed) (k : Component) (run : runs k g.call ≡ true)
    (square : g.call.lw ≡ g.call.lh) where
  abbrev Hd : ℕ
  Hd = (heights_of k g.heights).darker

  abbrev Hl : ℕ
  Hl = (heights_of k g.heights).lighter

  -- r - r' and r' - r are reached by the extremes reported, or these are 0
  pub reported_darkest_is_reached : ((share k g).darker ≡ 0)
      ⊎ ((i : ℕ) × (i < area k g.call)
      × (at (stretch k g.call) i -ℤ at (viewed k g) i ≡ pos (share k g).darker))
  reported_darkest_is_reached =
      subst
      (λ (d : ℕ). (d ≡ 0) ⊎ ((i : ℕ) × (i < area k g.call)
      × (at (stretch k g.call) i -ℤ at (viewed k g) i ≡ pos d)))
      (sym (extremes_are_the_block's g ok k run square).0)
      (darkest_reached (area k g.call) (stretch k g.call) (viewed k g))

  pub reported_lightest_is_reached : ((share k g).lighter ≡ 0)
      ⊎ ((i : ℕ) × (i < area k g.call)
      × (at (viewed k g) i -ℤ at (stretch k g.call) i ≡ pos (share k g).lighter))
  reported_lightest_is_reached =
      subst
      (λ (d : ℕ). (d ≡ 0) ⊎ ((i : ℕ) × (i < area k g.call)
      × (at (viewed k g) i -ℤ at (stretch k g.call) i ≡ pos d)))
      (sym (extremes_are_the_block's g ok k run square).1)
      (lightest_reached (area k g.call) (stretch k g.call) (viewed k g))

  -- for any guess: what the camera saw is the guess and the residual, what is shown the guess and what is decoded
  module _ (i : ℕ) (inside : i < area k g.call) (guess camera : ℤ)
      (is : camera ≡ guess +ℤ at (stretch k g.call) i) (low : pos 0 ≤ℤ camera) (high : camera ≤ℤ pos 1023) where
    dark : (at (stretch k g.call) i -ℤ at (viewed k g) i) ≤ℤ pos Hd
    dark =
        let s = sample_within_heights g ok k run square i inside in
        raised (at (stretch k g.call) i -ℤ at (viewed k g) i) (share k g).darker Hd s.0 s.2

    light : (at (viewed k g) i -ℤ at (stretch k g.call) i) ≤ℤ pos Hl
    light =
        let s = sample_within_heights g ok k run square i inside in
        raised (at (viewed k g) i -ℤ at (stretch k g.call) i) (share k g).lighter Hl s.1 s.3

    pub guarded_shown_within_heights :
        ((camera -ℤ pos Hd) ≤ℤ shown guess (at (viewed k g) i))
        × (shown guess (at (viewed k g) i) ≤ℤ (camera +ℤ pos Hl))
    guarded_shown_within_heights =
        shown_within_heights guess (at (stretch k g.call) i) (at (viewed k g) i) camera Hd Hl dark light is low high

    -- paper is shown at W - Hd or above it, ink below that
    pub guarded_one_threshold_separates : (W : ℤ) (C : ℕ) → Hd + Hl < C
        → (W ≤ℤ camera → (W -ℤ pos Hd) ≤ℤ shown guess (at (viewed k g) i))
        × (camera ≤ℤ (W -ℤ pos C) → shown guess (at (viewed k g) i) <ℤ (W -ℤ pos Hd))
    guarded_one_threshold_separates =
        one_threshold_separates guess (at (stretch k g.call) i) (at (viewed k g) i) camera Hd Hl dark light is low
        high
