-- What is added up along the scan does not depend on its order: the scan meets each place of the block, and each once.
-- Whatever the addition is, a sum over the block in scan order is the sum over the block by rows; largest numbers and
-- tests are such sums.
use mathlib.Core.Path.{◌≡◌, sym, ap, ◌∙◌}
use mathlib.Core.List.{List, map}
use Prim.Native.Nat.{ℕ, ◌*◌, ◌<◌, ◌≤◌}
use native.Mathlib.Omega.{arith}
use lib.ListN.{length, get_or, take}
use lib.Seq.{get_or-take, length-take-le}
use Rattle.integers.specs.Sum.{Addition, sum, over}
use Rattle.integers.proofs.Sums.{Lawful, sum_ext}
use Rattle.integers.proofs.Over.{over_map, over_places}
use Rattle.integers.proofs.Permutation.{hit, sum_permuted}
use Rattle.scan.specs.Scan.{scan, scan_at}
use Rattle.scan.proofs.OneToOne.{scan_inside, scan_apart}

module _ (w h : ℕ) (hw : 1 ≤ w) (hh : 1 ≤ h) (full : length (scan w h) ≡ w * h) where
  inside : (k : ℕ) → k < w * h → scan_at w h k < w * h
  inside k l = scan_inside w h hw hh k (omega arith)

  apart : (j k : ℕ) → j < w * h → k < w * h → scan_at w h j ≡ scan_at w h k → j ≡ k
  apart j k lj lk e = scan_apart w h hw hh j k (omega arith) (omega arith) e

  -- the scan place of a block place
  pub scan_hit : (b : ℕ) → b < w * h → (k : ℕ) × (k < w * h) × (scan_at w h k ≡ b)
  scan_hit = hit (w * h) (scan_at w h) inside apart

  pub scan_over : {A B : Type 0} {o : Addition B} (l : Lawful o) (f : A → B) (block : List A) (d : A)
      → w * h ≤ length block
      → over o f (map (λ p. get_or block p d) (scan w h)) ≡ over o f (take (w * h) block)
  unfolding scan_at
  scan_over {o = o} l f block d room =
      over_map o f (λ p. get_or block p d) (scan w h)
      ∙ over_places l (λ p. f (get_or block p d)) (scan w h) 0
      ∙ ap (λ (n : ℕ). sum o n (λ i. f (get_or block (scan_at w h i) d))) full
      ∙ sum_permuted (w * h) (scan_at w h) inside apart l (λ p. f (get_or block p d))
      ∙ sum_ext o (w * h) (λ i. f (get_or block i d)) (λ i. f (get_or (take (w * h) block) i d))
      (λ i k. ap f (sym (get_or-take (w * h) block i d k)))
      ∙ ap (λ (n : ℕ). sum o n (λ i. f (get_or (take (w * h) block) i d))) (sym (length-take-le (w * h) block room))
      ∙ sym (over_places l f (take (w * h) block) d)
