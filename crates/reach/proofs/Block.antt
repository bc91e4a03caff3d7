-- A guarded block's last candidate, which is m throughout, lies within the bound: its levels are m with their signs at
-- every place, as the scan meets each.
use mathlib.Core.Path.{◌≡◌, refl, ap, subst, ◌∙◌}
use mathlib.Core.List.{List, [], ◌∷◌, map}
use Prim.Native.Nat.{ℕ, ◌*◌, ◌^◌, ◌≤◌, ◌<◌}
use native.Mathlib.Nat.{one-le-pow}
use native.Mathlib.Omega.{arith}
use lib.Dec.{lit≤}
use lib.ListN.{length, length-map}
use lib.IntN.{ℤ, pos, nat_abs}
use Rattle.integers.specs.Sum.{at}
use Rattle.integers.proofs.Lists.{map_at}
use Rattle.refusals.specs.Sides.{most_log2}
use Rattle.scan.specs.Scan.{scan, scan_at}
use Rattle.scan.proofs.OneToOne.{scan_length}
use Rattle.scan.proofs.Order.{scan_hit}
use Rattle.scan.specs.Order.{laid}
use Rattle.scan.proofs.Laid.{laid_on_scan, laid_length}
use Rattle.tables.specs.Scales.{forward, back}
use Rattle.transform.specs.Coefficients.{coefficients}
use Rattle.transform.proofs.Bounds.{coefficients_long}
use Rattle.price.specs.Level.{scaled, nearest, signed}
use Rattle.coding.specs.Block.{Quant, log2_of, scale_here, shift_here, rule_of, block_places, scanned, places, signs}
use Rattle.heights.specs.declared.Extremes.{Extremes}
use Rattle.heights.specs.Extremes.{extremes}
use Rattle.guarding.specs.Block.{Guard, plain, levels_of, extremes_with}
use Rattle.reach.specs.Bound.{plain_level, bound}
use Rattle.reach.proofs.Plain.{levels_within_bound}

-- each value with a magnitude of its own
signs_own : (f : ℕ → ℕ) (h : ℤ → ℕ) (cs : List ℤ) → signs cs (map f (map h cs)) ≡ map (λ z. signed z (f (h z))) cs
unfolding signs
signs_own f h [] = refl
signs_own f h (c ∷ cs) = ap (λ (l : List ℤ). signed c (f (h c)) ∷ l) (signs_own f h cs)

-- ---- the levels of a call
abbrev level : Quant → ℤ → ℤ
level c z = signed z (nearest (shift_here c) (scaled (scale_here c) z))

module _ (c : Quant) (wide : c.lw ≤ most_log2) (high : c.lh ≤ most_log2)
    (long : 2 ^ c.lw * 2 ^ c.lh ≤ length c.buffer) where
  abbrev w : ℕ
  w = 2 ^ c.lw

  abbrev h : ℕ
  h = 2 ^ c.lh

  full : length (scan w h) ≡ w * h
  full = scan_length c.lw c.lh wide high

  laid_own : levels_of c (plain c) ≡ laid (scan w h) (map (level c) (map (at c.buffer) (scan w h))) c.buffer
  unfolding levels_of plain places scanned block_places rule_of
  laid_own =
      ap (λ (l : List ℤ). laid (scan w h) l c.buffer)
      (signs_own (nearest (shift_here c)) (scaled (scale_here c)) (map (at c.buffer) (scan w h)))

  own_at : (p : ℕ) → p < w * h → at (levels_of c (plain c)) (scan_at w h p) ≡ level c (at c.buffer (scan_at w h p))
  unfolding scan_at
  own_at p k =
      let cs = map (at c.buffer) (scan w h) in
      let count : length cs ≡ length (scan w h) = length-map (scan w h) (at c.buffer) in
      ap (λ (l : List ℤ). at l (scan_at w h p)) laid_own
      ∙ laid_on_scan w h (one-le-pow _ _ (lit≤ tt)) (one-le-pow _ _ (lit≤ tt)) (map (level c) cs) c.buffer p
      (length-map cs (level c) ∙ count) long (omega (arith, full))
      ∙ map_at (pos 0) (pos 0) (level c) cs p (omega (arith, count, full))
      ∙ ap (level c) (map_at 0 (pos 0) (at c.buffer) (scan w h) p (omega (arith, full)))

  level_at : (i : ℕ) → i < w * h → at (levels_of c (plain c)) i ≡ level c (at c.buffer i)
  level_at i k =
      let s = scan_hit w h (one-le-pow _ _ (lit≤ tt)) (one-le-pow _ _ (lit≤ tt)) full i k in
      subst (λ (j : ℕ). at (levels_of c (plain c)) j ≡ level c (at c.buffer j)) s.2 (own_at s.0 s.1)

  levels_long : length (levels_of c (plain c)) ≡ length c.buffer
  unfolding levels_of
  levels_long = laid_length (block_places c) (signs (scanned c) (plain c)) c.buffer

-- ---- a square block of residuals that fill it, all at most 1023, with the scales of the document
module _ (g : Guard) (l : ℕ) (hl : l ≤ most_log2) (wide : g.call.lw ≡ l) (high : g.call.lh ≡ l)
    (row : g.row ≡ back) (scales : g.call.fixed.scales ≡ forward)
    (fills : length g.residuals ≡ 2 ^ l * 2 ^ l)
    (small : (i : ℕ) → i < length g.residuals → nat_abs (at g.residuals i) ≤ 1023)
    (made : g.call.buffer ≡ coefficients g.residuals l l) where
  abbrev c : Quant
  c = g.call

  log2_is : log2_of g.call ≡ l
  unfolding log2_of
  log2_is = omega arith

  level_is : (z : ℤ) → level g.call z ≡ plain_level l g.call.settings.qp z
  unfolding plain_level shift_here scale_here
  level_is z = rw (log2_is, scales)

  area_is : 2 ^ c.lw * 2 ^ c.lh ≡ 2 ^ l * 2 ^ l
  area_is = rw (wide, high)

  buffer_long : 2 ^ c.lw * 2 ^ c.lh ≤ length c.buffer
  buffer_long = omega (arith, area_is, ap length made, coefficients_long g.residuals l l)

  plainly : (i : ℕ) → i < 2 ^ l * 2 ^ l
      → at (levels_of c (plain c)) i ≡ plain_level l c.settings.qp (at (coefficients g.residuals l l) i)
  plainly i k =
      level_at c (omega arith) (omega arith) buffer_long i (omega (arith, area_is))
      ∙ level_is (at c.buffer i)
      ∙ ap (λ (b : List ℤ). plain_level l c.settings.qp (at b i)) made

  extremes_are : extremes_with g (plain g.call)
      ≡ extremes back l g.call.settings.qp g.residuals (levels_of g.call (plain g.call))
  unfolding extremes_with
  extremes_are =
      ap (λ (k : ℕ). extremes g.row k c.settings.qp g.residuals (levels_of c (plain c))) log2_is
      ∙ ap (λ (s : List ℕ). extremes s l c.settings.qp g.residuals (levels_of c (plain c))) row

  pub plain_block_within_bound : ((extremes_with g (plain g.call)).darker ≤ bound l g.call.settings.qp)
      × ((extremes_with g (plain g.call)).lighter ≤ bound l g.call.settings.qp)
  plain_block_within_bound =
      let b =
      levels_within_bound l c.settings.qp hl g.residuals fills small (levels_of c (plain c))
      (omega (arith, levels_long c (omega arith) (omega arith) buffer_long, buffer_long, area_is)) plainly in (
        omega (arith, ap (λ (e : Extremes). e.darker) extremes_are, b.0),
        omega (arith, ap (λ (e : Extremes). e.lighter) extremes_are, b.1),
      )
