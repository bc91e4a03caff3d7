-- The list of a square side is a whole scan, and a place that it holds lies inside the block: the lookup stands on
-- both.
use Rattle.std.proofs.Common.{◌≡◌, List, ℕ, ◌*◌, ◌^◌, ◌<◌, ◌≤◌, length, get_or, ap, sym, ◌∙◌, arith}
use native.Mathlib.Nat.{pow-le-pow_right}
use lib.Pow.{pow_pos}
use Rattle.refusals.specs.Sides.{most_log2}
use Rattle.scan.specs.Scan.{most_places, scan, scan_at, square_scan}
use Rattle.scan.specs.Scanned.{Scanned}
use Rattle.scan.proofs.OneToOne.{scan_inside, scan_length, square_scan_length}

module _ (l : ℕ) (hi : l ≤ most_log2) where
  pub area_is : 4 ^ l ≡ 2 ^ l * 2 ^ l
  unfolding square_scan
  area_is = sym (square_scan_length l hi) ∙ scan_length l l hi hi

  pub square_scanned : (w h : ℕ) (held : List ℕ) → w ≡ 2 ^ l → h ≡ 2 ^ l → held ≡ square_scan l → Scanned w h held
  unfolding square_scan
  square_scanned w h held ew eh e =
      rw (ew, eh)
      (record {
        is = e;
        wide = pow_pos l;
        high = pow_pos l;
        full = scan_length l l hi hi;
        few = omega (arith, area_is, pow-le-pow_right {n = 4} (omega arith) hi);
      })

-- what is looked up, in any held scan of a block no larger than the largest
pub place_in : (w h : ℕ) (held : List ℕ) → held ≡ scan w h → 1 ≤ w → 1 ≤ h → w * h ≤ most_places → (p : ℕ)
    → p < length held → (get_or held p 0 ≡ scan_at w h p) × (get_or held p 0 < w * h) × (get_or held p 0 < most_places)
unfolding scan_at
place_in w h held e wide high few p lt =
    let is : get_or held p 0 ≡ scan_at w h p = ap (λ (l : List ℕ). get_or l p 0) e in
    let within : p < length (scan w h) = omega (arith, lt, ap length e) in
    let inside = scan_inside w h wide high p within in
    (is, omega (arith, is, inside), omega (arith, is, inside, few))

module _ (w h : ℕ) (held : List ℕ) (s : Scanned w h held) where
  pub held_length : length held ≡ w * h
  held_length = ap length s.is ∙ s.full

  pub held_at : (p : ℕ) → p < w * h
      → (get_or held p 0 ≡ scan_at w h p) × (get_or held p 0 < w * h) × (get_or held p 0 < most_places)
  held_at p lt = place_in w h held s.is s.wide s.high s.few p (omega (arith, held_length, lt))
