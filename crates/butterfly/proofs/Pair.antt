-- The two-point transform, 64·(p + q) and 64·(p - q): what fits, and that the two make a row.
use mathlib.Core.Path.{◌≡◌, sym, ◌∙◌, ap}
use mathlib.Core.List.{List}
use Prim.Native.Nat.{ℕ, zero, suc, ◌+◌, ◌<◌, ◌≤◌}
use native.Mathlib.Omega.{arith}
use lib.ListN.{length, set, length-set}
use lib.Seq.{get_or-set_same, get_or-set_other}
use lib.IntN.{ℤ, pos, negsuc, neg_ℤ, nat_abs, ◌+ℤ◌, ◌-ℤ◌, ◌*ℤ◌, +ℤ_idl}
use mir.Syntax.{w32}
use mir.Val.{SFits, to_z, of_z}
use mir.Facts.{to_z-of_z}
use Rattle.integers.specs.Sum.{at}
use Rattle.integers.proofs.Magnitude.{magnitude-*}
use Rattle.integers.proofs.Ring.{dist_left, neg-*, *-neg}
use Rattle.integers.proofs.Fit.{fits, operation_fits}
use Rattle.tables.specs.Matrix.{matrix}
use Rattle.butterfly.specs.Inner.Lines.{line_at, place, Row, Room}

-- a value of a line of two
pub first : (x : List ℤ) → length x ≡ 2 → Room 1 x → (i : ℕ) → i < 2 → nat_abs (at x i) ≤ 16760832
first x lx r i h = omega (arith, r.each i (omega arith), r.room)

-- 64 times f p q, f the sum or the difference
module _ (f : ℤ → ℤ → ℤ) (p q : ℤ) (hp : nat_abs p ≤ 16760832) (hq : nat_abs q ≤ 16760832)
    (hf : nat_abs (f p q) ≤ nat_abs p + nat_abs q) where
  one : SFits w32 p
  one = fits p (omega arith)

  other : SFits w32 q
  other = fits q (omega arith)

  both : SFits w32 (f p q)
  both = fits (f p q) (omega arith)

  times : SFits w32 (pos 64 *ℤ f p q)
  times = fits (pos 64 *ℤ f p q) (omega (arith, magnitude-* (pos 64) (f p q)))

  pub pair_fits : SFits w32 (f (to_z w32 (of_z w32 p)) (to_z w32 (of_z w32 q)))
  pair_fits = operation_fits w32 f p q one other both

  pub sixty_four_fits : SFits w32 (pos 64 *ℤ to_z w32 (of_z w32 (f (to_z w32 (of_z w32 p)) (to_z w32 (of_z w32 q)))))
  sixty_four_fits = let a = one in let b = other in let c = both in simp to_z-of_z times

  pub sixty_four_is : to_z w32
      (of_z w32 (pos 64 *ℤ to_z w32 (of_z w32 (f (to_z w32 (of_z w32 p)) (to_z w32 (of_z w32 q))))))
      ≡ pos 64 *ℤ f p q
  sixty_four_is = let a = one in let b = other in let c = both in let d = times in simp to_z-of_z

pub sum_is : (x : List ℤ) → pos 64 *ℤ (at x 0 +ℤ at x 1) ≡ line_at matrix 2 x 0
unfolding line_at matrix
sum_is x = dist_left (pos 64) (at x 0) (at x 1)
    ∙ ap (λ (z : ℤ). z +ℤ pos 64 *ℤ at x 1) (sym (+ℤ_idl (pos 64 *ℤ at x 0)))

pub difference_is : (x : List ℤ) → pos 64 *ℤ (at x 0 -ℤ at x 1) ≡ line_at matrix 2 x 1
unfolding line_at matrix
difference_is x =
    dist_left (pos 64) (at x 0) (neg_ℤ (at x 1))
    ∙ ap (λ (z : ℤ). pos 64 *ℤ at x 0 +ℤ z) (*-neg (pos 64) (at x 1) ∙ sym (neg-* (pos 64) (at x 1)))
    ∙ ap (λ (z : ℤ). z +ℤ negsuc 63 *ℤ at x 1) (sym (+ℤ_idl (pos 64 *ℤ at x 0)))

pub pair_row : (x old : List ℤ) (s d : ℤ) → 2 ≤ length old → s ≡ pos 64 *ℤ (at x 0 +ℤ at x 1)
    → d ≡ pos 64 *ℤ (at x 0 -ℤ at x 1) → Row matrix 1 x old (set (set old 0 s) 1 d)
unfolding place
pair_row x old s d h es ed =
    record {
      holds = λ k hk. at_place k hk;
      kept = λ p hp.
          get_or-set_other (set old 0 s) 1 p d (pos 0) (λ e. omega arith)
          ∙ get_or-set_other old 0 p s (pos 0) (λ e. omega arith);
    }
  where
    at_place : (k : ℕ) → k < 2 → at (set (set old 0 s) 1 d) (place 1 k) ≡ line_at matrix 2 x k
    at_place zero hk =
        get_or-set_other (set old 0 s) 1 0 d (pos 0) (λ e. omega arith)
        ∙ get_or-set_same old 0 s (pos 0) (omega arith)
        ∙ es
        ∙ sum_is x
    at_place (suc zero) hk = get_or-set_same (set old 0 s) 1 d (pos 0) (simp length-set (omega arith)) ∙ ed
        ∙ difference_is x
    at_place (suc (suc k)) hk = absurd (omega arith)
