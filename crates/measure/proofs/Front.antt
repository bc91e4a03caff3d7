-- The two extremes of a block by what was shown of it, and that they are those of the front of either list.
use mathlib.Core.Path.{◌≡◌, ap, ◌∙◌}
use mathlib.Core.List.{List}
use Prim.Native.Nat.{ℕ, ◌*◌, ◌^◌}
use native.Mathlib.Omega.{arith}
use lib.ListN.{length, take}
use lib.Seq.{take-take, get_or-take}
use lib.IntN.{ℤ, pos}
use Rattle.heights.specs.declared.Extremes.{Extremes}
use Rattle.heights.specs.Extremes.{darker, lighter, decoded, extremes}
use Rattle.heights.proofs.Surplus.{front_decides}

by_fields : (e : Extremes) (d l : ℕ) → e.darker ≡ d → e.lighter ≡ l → e ≡ record { darker = d; lighter = l }
by_fields e d l p q =
    let first : e ≡ record { darker = d; lighter = e.lighter } =
    ap (λ (m : ℕ). let x : Extremes = record { darker = m; lighter = e.lighter } in x) p in
    first ∙ ap (λ (m : ℕ). let x : Extremes = record { darker = d; lighter = m } in x) q

module _ (row : List ℕ) (l qp : ℕ) (r levels : List ℤ) where
  -- what code finds of the residuals and of what is shown
  pub extremes_are : (shown : List ℤ) (e : Extremes) → length r ≡ 2 ^ l * 2 ^ l → shown ≡ decoded row l qp levels
      → e.darker ≡ darker (length r) r shown → e.lighter ≡ lighter (length r) r shown
      → e ≡ extremes row l qp r levels
  unfolding extremes
  extremes_are shown e long is d f =
      let n = 2 ^ l * 2 ^ l in
      by_fields e (darker n r (decoded row l qp levels)) (lighter n r (decoded row l qp levels))
      (d ∙ ap (λ (m : ℕ). darker m r shown) long ∙ ap (darker n r) is)
      (f ∙ ap (λ (m : ℕ). lighter m r shown) long ∙ ap (lighter n r) is)

  -- the front that a caller counts as a · a
  pub extremes_front : (a : ℕ) → a ≡ 2 ^ l
      → extremes row l qp (take (a * a) r) (take (a * a) levels) ≡ extremes row l qp r levels
  extremes_front a e =
      let n = 2 ^ l * 2 ^ l in
      rw e
      (front_decides row l qp (take n r) r (take n levels) levels (λ i h. get_or-take n r i (pos 0) h)
      (take-take n n levels (omega arith)))
