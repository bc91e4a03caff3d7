-- The call's faults one after the other, as its code meets them: what the verdict and the buffer are where one holds,
-- and where none does. The coefficients depend on nothing behind the block.
use mathlib.Core.Path.{◌≡◌, sym, ◌∙◌, ap}
use mathlib.Core.Bool.{true, false}
use mathlib.Core.List.{List, ◌++◌}
use Prim.Native.Nat.{ℕ, ◌+◌, ◌*◌, ◌/◌, ◌%◌, ◌^◌}
use native.Mathlib.Nat.{mul_comm}
use native.Mathlib.Omega.{arith}
use lib.Dec.{ltb}
use lib.ListN.{length, take, drop}
use lib.Seq.{get_or-take}
use lib.IntN.{ℤ, pos, ◌*ℤ◌}
use Rattle.integers.specs.Sum.{on_ℤ, sum_ℤ, at}
use Rattle.integers.specs.Floor.{rounded}
use Rattle.integers.specs.Tests.{some}
use Rattle.integers.proofs.Sums.{sum_ext}
use Rattle.integers.proofs.Grid.{inside}
use Rattle.integers.proofs.Tests.{listed_at, listed_length}
use Rattle.integers.proofs.Fill.{filled_all}
use Rattle.tables.specs.Matrix.{matrix}
use Rattle.refusals.specs.Sides.{most_log2}
use Rattle.refusals.specs.Faults.{Outcome, passed, refused, if_accepted, outside}
use Rattle.transform.specs.Coefficients.{product, coefficient, coefficients}
use Rattle.transform.specs.Call.{called, wild, trans_verdict, transformed, trans_buffer}

module _ (buffer : List ℤ) (lw lh : ℕ) where
  -- refused with this number, and nothing changed
  abbrev pub Refuses : ℕ → Type 0
  Refuses number =
      (refused number 0 ≡ trans_verdict (called buffer lw lh)) × (buffer ≡ trans_buffer (called buffer lw lh))

  unchanged : (number : ℕ) → trans_verdict (called buffer lw lh) ≡ refused number 0 → Refuses number
  unfolding trans_buffer
  unchanged number e =
      (sym e, sym (ap (λ (v : Outcome Unit). if_accepted v (transformed (called buffer lw lh)) buffer) e))

  pub no_width : outside 1 most_log2 lw ≡ true → Refuses 1
  unfolding trans_verdict
  no_width h = unchanged 1 (rw h)

  module _ (hw : outside 1 most_log2 lw ≡ false) where
    pub no_height : outside 1 most_log2 lh ≡ true → Refuses 1
    unfolding trans_verdict
    no_height h = unchanged 1 (rw (hw, h))

    module _ (hh : outside 1 most_log2 lh ≡ false) where
      pub too_short : ltb (length buffer) (2 ^ lw * 2 ^ lh) ≡ true → Refuses 5
      unfolding trans_verdict
      too_short h = unchanged 5 (rw (hw, hh, h))

      module _ (hl : ltb (length buffer) (2 ^ lw * 2 ^ lh) ≡ false) where
        pub too_wild : some wild (take (2 ^ lw * 2 ^ lh) buffer) ≡ true → Refuses 6
        unfolding trans_verdict
        too_wild h = unchanged 6 (rw (hw, hh, hl, h))

        pub no_fault : some wild (take (2 ^ lw * 2 ^ lh) buffer) ≡ false → passed ≡ trans_verdict (called buffer lw lh)
        unfolding trans_verdict
        no_fault h = rw (hw, hh, hl, h)

  pub changed : passed ≡ trans_verdict (called buffer lw lh)
      → coefficients buffer lw lh ++ drop (2 ^ lw * 2 ^ lh) buffer ≡ trans_buffer (called buffer lw lh)
  unfolding trans_buffer
  changed e = ap (λ (v : Outcome Unit). if_accepted v (transformed (called buffer lw lh)) buffer) e

  -- the front of the buffer has the same coefficients
  abbrev front : List ℤ
  front = take (2 ^ lw * 2 ^ lh) buffer

  product_front : (v u : ℕ) → product front (2 ^ lw) (2 ^ lh) v u ≡ product buffer (2 ^ lw) (2 ^ lh) v u
  unfolding product
  product_front v u =
      let w = 2 ^ lw in
      let h = 2 ^ lh in
      sum_ext on_ℤ h (λ y. sum_ℤ w (λ x. (matrix h v y *ℤ matrix w u x) *ℤ at front (y * w + x)))
      (λ y. sum_ℤ w (λ x. (matrix h v y *ℤ matrix w u x) *ℤ at buffer (y * w + x)))
      (λ y hy.
      sum_ext on_ℤ w (λ x. (matrix h v y *ℤ matrix w u x) *ℤ at front (y * w + x))
      (λ x. (matrix h v y *ℤ matrix w u x) *ℤ at buffer (y * w + x))
      (λ x hx.
      ap (λ (z : ℤ). (matrix h v y *ℤ matrix w u x) *ℤ z)
      (get_or-take (w * h) buffer (y * w + x) (pos 0) (omega (arith, inside w y x hx h hy, mul_comm w h)))))

  entry : List ℤ → ℕ → ℤ
  entry r i = coefficient r lw lh (i / 2 ^ lw) (i % 2 ^ lw)

  pub coefficients_front : coefficients front lw lh ≡ coefficients buffer lw lh
  unfolding coefficients coefficient entry
  coefficients_front =
      let n = 2 ^ lw * 2 ^ lh in
      filled_all (pos 0) (coefficients front lw lh) (coefficients buffer lw lh) n
      (listed_length (entry front) 0 n ∙ sym (listed_length (entry buffer) 0 n))
      (omega (arith, listed_length (entry front) 0 n))
      (λ i hi.
      listed_at (pos 0) (entry front) n i hi
      ∙ ap (λ (z : ℤ). rounded z (7 + lw + lh)) (product_front (i / 2 ^ lw) (i % 2 ^ lw))
      ∙ sym (listed_at (pos 0) (entry buffer) n i hi))
