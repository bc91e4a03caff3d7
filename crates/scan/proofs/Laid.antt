-- What a buffer holds once values were laid at block places: at each place met its value, and elsewhere what it held.
-- The places of a scan are met once each, and lie inside the block, so that the surplus is not touched; and where it
-- meets all of them, a block's values in scan order, laid, are the block.
use mathlib.Core.Path.{◌≡◌, refl, sym, ap, ◌∙◌}
use mathlib.Core.Logic.{◌≢◌}
use mathlib.Core.List.{List, [], ◌∷◌, ◌++◌}
use Prim.Native.Nat.{ℕ, zero, suc, ◌+◌, ◌-◌, ◌*◌, ◌≤◌, ◌<◌}
use native.Mathlib.Nat.{not-suc-le-zero, le_of_suc-le-suc}
use native.Mathlib.Omega.{arith}
use lib.ListN.{length, get_or, set, length-set, length-map, take, drop, length-drop, take-append-drop}
use lib.Seq.{get_or-set_same, get_or-set_other, get_or-drop, get_or-take, ext_get_or, length-take-le}
use lib.IntN.{ℤ, pos}
use Rattle.integers.specs.Sum.{at}
use Rattle.integers.proofs.Lists.{map_at}
use Rattle.scan.specs.Scan.{scan, scan_at}
use Rattle.scan.specs.Order.{in_order, laid}
use Rattle.scan.proofs.OneToOne.{scan_inside, scan_apart}
use Rattle.scan.proofs.Order.{scan_hit}

-- ---- values laid
pub laid_length : (ps : List ℕ) (vs l : List ℤ) → length (laid ps vs l) ≡ length l
unfolding laid
laid_length [] vs l = refl
laid_length (p ∷ ps) [] l = refl
laid_length (p ∷ ps) (v ∷ vs) l = laid_length ps vs (set l p v) ∙ length-set l p v

-- a place that is not met
pub laid_elsewhere : (ps : List ℕ) (vs l : List ℤ) (q : ℕ) → ((k : ℕ) → k < length ps → q ≢ get_or ps k 0)
    → at (laid ps vs l) q ≡ at l q
unfolding laid
laid_elsewhere [] vs l q h = refl
laid_elsewhere (p ∷ ps) [] l q h = refl
laid_elsewhere (p ∷ ps) (v ∷ vs) l q h =
    laid_elsewhere ps vs (set l p v) q (λ k lt. h (suc k) (omega arith))
    ∙ get_or-set_other l p q v (pos 0) (h 0 (omega arith))

-- places that are met once each
abbrev pub Apart : List ℕ → Type 0
Apart ps = (j k : ℕ) → j < length ps → k < length ps → get_or ps j 0 ≡ get_or ps k 0 → j ≡ k

tail_apart : (p : ℕ) (ps : List ℕ) → Apart (p ∷ ps) → Apart ps
tail_apart p ps a j k hj hk e = let q = a (suc j) (suc k) (omega arith) (omega arith) e in omega arith

pub laid_at : (ps : List ℕ) (vs l : List ℤ) (k : ℕ) → Apart ps → length vs ≡ length ps → k < length ps
    → get_or ps k 0 < length l
    → at (laid ps vs l) (get_or ps k 0) ≡ at vs k
unfolding laid
laid_at [] vs l k a e h b = absurd (not-suc-le-zero h)
laid_at (p ∷ ps) [] l k a e h b = absurd (let z : ⊥ = omega arith in z)
laid_at (p ∷ ps) (v ∷ vs) l zero a e h b =
    laid_elsewhere ps vs (set l p v) p
    (λ k lt q. let z = a 0 (suc k) (omega arith) (omega arith) q in let no : ⊥ = omega arith in no)
    ∙ get_or-set_same l p v (pos 0) b
laid_at (p ∷ ps) (v ∷ vs) l (suc k) a e h b =
    laid_at ps vs (set l p v) k (tail_apart p ps a) (omega arith) (le_of_suc-le-suc h)
    (omega (arith, length-set l p v))

-- ---- the places of a scan
module _ (w h : ℕ) (hw : 1 ≤ w) (hh : 1 ≤ h) where
  scan_meets_once : Apart (scan w h)
  unfolding scan_at
  scan_meets_once j k hj hk e = scan_apart w h hw hh j k hj hk e

  pub laid_on_scan : (vs l : List ℤ) (p : ℕ) → length vs ≡ length (scan w h) → w * h ≤ length l → p < length (scan w h)
      → at (laid (scan w h) vs l) (scan_at w h p) ≡ at vs p
  unfolding scan_at
  laid_on_scan vs l p e b q =
      laid_at (scan w h) vs l p scan_meets_once e q (omega (arith, scan_inside w h hw hh p q))

  pub surplus_kept : (vs l : List ℤ) → drop (w * h) (laid (scan w h) vs l) ≡ drop (w * h) l
  unfolding scan_at
  surplus_kept vs l =
      ext_get_or (pos 0) (drop (w * h) (laid (scan w h) vs l)) (drop (w * h) l)
      (simp length-drop (ap (λ (n : ℕ). n - w * h) (laid_length (scan w h) vs l)))
      (λ i lt.
      get_or-drop (w * h) (laid (scan w h) vs l) i (pos 0)
      ∙ laid_elsewhere (scan w h) vs l (w * h + i)
      (λ k lk q. let b = scan_inside w h hw hh k lk in let no : ⊥ = omega arith in no)
      ∙ sym (get_or-drop (w * h) l i (pos 0)))

  -- what was laid, in scan order
  pub laid_in_order : (vs l : List ℤ) → length vs ≡ length (scan w h) → w * h ≤ length l
      → in_order w h (laid (scan w h) vs l) ≡ vs
  unfolding scan_at
  laid_in_order vs l e b =
      let n = length-map (scan w h) (λ p. at (laid (scan w h) vs l) p) in
      ext_get_or (pos 0) (in_order w h (laid (scan w h) vs l)) vs (n ∙ sym e)
      (λ p lt.
      map_at 0 (pos 0) (λ p. at (laid (scan w h) vs l) p) (scan w h) p (omega (arith, n))
      ∙ laid_on_scan vs l p e b (omega (arith, n)))

  -- a block's values in scan order, laid into a buffer: the block, and the buffer's surplus
  pub order_laid : (block l : List ℤ) → length (scan w h) ≡ w * h → w * h ≤ length block → w * h ≤ length l
      → laid (scan w h) (in_order w h block) l ≡ take (w * h) block ++ drop (w * h) l
  unfolding scan_at
  order_laid block l full a b =
      let vs = in_order w h block in
      let held = laid (scan w h) vs l in
      let many : length vs ≡ length (scan w h) = length-map (scan w h) (λ p. at block p) in
      let room = laid_length (scan w h) vs l in
      let front : take (w * h) held ≡ take (w * h) block =
      ext_get_or (pos 0) (take (w * h) held) (take (w * h) block)
      (length-take-le (w * h) held (omega (arith, room)) ∙ sym (length-take-le (w * h) block a))
      (λ i lt.
      let li : i < w * h = omega (arith, lt, length-take-le (w * h) held (omega (arith, room))) in
      let s = scan_hit w h hw hh full i li in
      get_or-take (w * h) held i (pos 0) li
      ∙ ap (at held) (sym s.2)
      ∙ laid_on_scan vs l s.0 many b (omega (arith, s.1))
      ∙ map_at 0 (pos 0) (λ p. at block p) (scan w h) s.0 (omega (arith, s.1))
      ∙ ap (at block) s.2
      ∙ sym (get_or-take (w * h) block i (pos 0) li)) in
      sym (take-append-drop (w * h) held)
      ∙ ap (λ (x : List ℤ). x ++ drop (w * h) held) front
      ∙ ap (λ (x : List ℤ). take (w * h) block ++ x) (surplus_kept vs l)
