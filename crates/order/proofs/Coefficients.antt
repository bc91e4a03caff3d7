-- The magnitudes of a block, in scan order: those of its coefficients, which make its places.
use mathlib.Core.Path.{◌≡◌, sym, ap, fun_ext, ◌∙◌}
use mathlib.Core.List.{List, map, map-map}
use Prim.Native.Nat.{ℕ, ◌*◌, ◌<◌}
use lib.ListN.{get_or, get_or-map}
use lib.IntN.{ℤ, pos, nat_abs}
use Rattle.integers.specs.Sum.{at}
use Rattle.scan.specs.Scan.{scan, scan_at}
use Rattle.scan.specs.Order.{in_order}
use Rattle.price.specs.Level.{scaled}
use Rattle.weights.specs.Inner.Places.{in_scan}
use Rattle.scan.specs.Scanned.{Scanned}
use Rattle.weights.proofs.Places.{scan_at_lem}

module _ (w h : ℕ) (block : List ℤ) where
  pub magnitudes_in_scan : in_scan w h (map nat_abs block) ≡ map (λ p. nat_abs (at block p)) (scan w h)
  magnitudes_in_scan =
      ap (λ (f : ℕ → ℕ). map f (scan w h)) (fun_ext (λ p. get_or-map nat_abs block p (pos 0)))

  pub magnitude_in_scan : (held : List ℕ) → Scanned w h held → (n : ℕ) → n < w * h
      → get_or (in_scan w h (map nat_abs block)) n 0 ≡ nat_abs (at block (scan_at w h n))
  magnitude_in_scan held sc n lt =
      scan_at_lem w h (map nat_abs block) held sc n lt ∙ get_or-map nat_abs block (scan_at w h n) (pos 0)

  -- times q, they are the L
  pub scaled_in_scan : (q : ℕ)
      → map (λ a. a * q) (in_scan w h (map nat_abs block)) ≡ map (λ z. scaled q z) (in_order w h block)
  unfolding scaled
  scaled_in_scan q =
      ap (map (λ a. a * q)) magnitudes_in_scan
      ∙ map-map (λ a. a * q) (λ p. nat_abs (at block p)) (scan w h)
      ∙ sym (map-map (λ z. nat_abs z * q) (λ p. at block p) (scan w h))
