-- The signs put to a list of magnitudes, which are then laid at the places of a scan, and read back.
use mathlib.Core.Path.{◌≡◌, refl, sym, ap, ◌∙◌}
use mathlib.Core.List.{List, [], ◌∷◌, map}
use Prim.Native.Nat.{ℕ, zero, suc, ◌*◌, ◌≤◌, ◌<◌}
use native.Mathlib.Nat.{not-suc-le-zero, le_of_suc-le-suc}
use native.Mathlib.Omega.{arith}
use lib.ListN.{length, get_or, length-map}
use lib.Seq.{ext_get_or}
use lib.IntN.{ℤ, nat_abs}
use Rattle.integers.specs.Sum.{at}
use Rattle.integers.proofs.Lists.{map_at}
use Rattle.scan.specs.Scan.{scan, scan_at}
use Rattle.scan.specs.Order.{laid}
use Rattle.scan.proofs.Laid.{laid_on_scan}
use Rattle.price.specs.Level.{signed}
use Rattle.price.proofs.Level.{signed_magnitude}
use Rattle.coding.specs.Block.{signs}

-- ---- signs put to the magnitudes of a list
pub signs_length : (cs : List ℤ) (ms : List ℕ) → length ms ≡ length cs → length (signs cs ms) ≡ length cs
unfolding signs
signs_length [] ms e = refl
signs_length (c ∷ cs) [] e = absurd (let z : ⊥ = omega arith in z)
signs_length (c ∷ cs) (m ∷ ms) e = ap suc (signs_length cs ms (omega arith))

pub signs_at : (cs : List ℤ) (ms : List ℕ) (k : ℕ) → length ms ≡ length cs → k < length cs
    → at (signs cs ms) k ≡ signed (at cs k) (get_or ms k 0)
unfolding signs
signs_at [] ms k e h = absurd (not-suc-le-zero h)
signs_at (c ∷ cs) [] k e h = absurd (let z : ⊥ = omega arith in z)
signs_at (c ∷ cs) (m ∷ ms) zero e h = refl
signs_at (c ∷ cs) (m ∷ ms) (suc k) e h = signs_at cs ms k (omega arith) (le_of_suc-le-suc h)

-- ---- laid at the places of a scan
module _ (w h : ℕ) (hw : 1 ≤ w) (hh : 1 ≤ h) where
  -- the magnitudes of what is laid, in scan order, are those that were signed
  pub laid_magnitudes : (cs : List ℤ) (ms : List ℕ) (l : List ℤ) → length ms ≡ length cs
      → length cs ≡ length (scan w h)
      → w * h ≤ length l
      → map (λ p. nat_abs (at (laid (scan w h) (signs cs ms) l) p)) (scan w h) ≡ ms
  unfolding scan_at
  laid_magnitudes cs ms l e full b =
      let n = length-map (scan w h) (λ p. nat_abs (at (laid (scan w h) (signs cs ms) l) p)) in
      ext_get_or 0 (map (λ p. nat_abs (at (laid (scan w h) (signs cs ms) l) p)) (scan w h)) ms (n ∙ sym full ∙ sym e)
      (λ p lt.
      map_at 0 0 (λ p. nat_abs (at (laid (scan w h) (signs cs ms) l) p)) (scan w h) p (omega (arith, n))
      ∙ ap nat_abs
      (laid_on_scan w h hw hh (signs cs ms) l p (signs_length cs ms e ∙ full) b (omega (arith, n))
      ∙ signs_at cs ms p e (omega (arith, n)))
      ∙ signed_magnitude (at cs p) (get_or ms p 0))
