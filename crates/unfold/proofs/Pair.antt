-- Two coefficients back to values, 64·(p + q) and 64·(p - q): what fits, and that the two are the values. T_2 is its own
-- transpose, so that the values are those of the forward pair.
use mathlib.Core.Path.{◌≡◌, refl, ◌∙◌, ap}
use mathlib.Core.List.{List}
use Prim.Native.Nat.{ℕ, zero, suc, ◌+◌, ◌<◌, ◌≤◌}
use native.Mathlib.Omega.{arith}
use lib.ListN.{length, set, length-set}
use lib.Seq.{get_or-set_same, get_or-set_other}
use lib.IntN.{ℤ, pos, nat_abs, ◌+ℤ◌, ◌-ℤ◌, ◌*ℤ◌}
use mir.Syntax.{w16, w32}
use mir.Val.{SFits}
use Rattle.integers.specs.Sum.{at}
use Rattle.integers.proofs.Magnitude.{magnitude-*}
use Rattle.integers.proofs.Fit.{fits, magnitude_of}
use Rattle.butterfly.proofs.Pair.{sum_is, difference_is}
use Rattle.butterfly.specs.Inner.Lines.{line_at}
use Rattle.tables.specs.Matrix.{matrix}
use Rattle.unfold.specs.Inner.Back.{value_at, Back}
use Rattle.unfold.proofs.Level.{value_bound}

-- 64 times f p q, f the sum or the difference
module _ (f : ℤ → ℤ → ℤ) (p q : ℤ) (fp : SFits w16 p) (fq : SFits w16 q)
    (hf : nat_abs (f p q) ≤ nat_abs p + nat_abs q) where
  pub pair_fits : SFits w32 (f p q)
  pair_fits = fits (f p q) (omega (arith, magnitude_of p fp, magnitude_of q fq))

  pub sixty_four_fits : SFits w32 (pos 64 *ℤ f p q)
  sixty_four_fits =
      fits (pos 64 *ℤ f p q) (omega (arith, magnitude-* (pos 64) (f p q), magnitude_of p fp, magnitude_of q fq))

-- T_2 read by columns
forward_is_back : (x : List ℤ) (n : ℕ) → n < 2 → line_at matrix 2 x n ≡ value_at matrix 2 (at x) n
unfolding line_at value_at matrix
forward_is_back x zero h = refl
forward_is_back x (suc zero) h = refl
forward_is_back x (suc (suc n)) h = absurd (let no : ⊥ = omega arith in no)

pub pair_back : (x old : List ℤ) (s d : ℤ) → length old ≡ 2 → SFits w16 (at x 0) → SFits w16 (at x 1)
    → s ≡ pos 64 *ℤ (at x 0 +ℤ at x 1) → d ≡ pos 64 *ℤ (at x 0 -ℤ at x 1) → Back 1 x (set (set old 0 s) 1 d)
pair_back x old s d long f0 f1 es ed =
    record {
      holds = value;
      within = λ n h. omega (arith, ap nat_abs (value n h), value_bound 1 (omega arith) (at x) 32768 each n h);
    }
  where
    value : (n : ℕ) → n < 2 → at (set (set old 0 s) 1 d) n ≡ value_at matrix 2 (at x) n
    value zero h =
        get_or-set_other (set old 0 s) 1 0 d (pos 0) (λ e. omega arith)
        ∙ get_or-set_same old 0 s (pos 0) (omega arith)
        ∙ es
        ∙ sum_is x
        ∙ forward_is_back x 0 (omega arith)
    value (suc zero) h =
        get_or-set_same (set old 0 s) 1 d (pos 0) (simp length-set (omega arith))
        ∙ ed
        ∙ difference_is x
        ∙ forward_is_back x 1 (omega arith)
    value (suc (suc n)) h = absurd (let no : ⊥ = omega arith in no)

    each : (k : ℕ) → k < 2 → nat_abs (at x k) ≤ 32768
    each zero h = magnitude_of (at x 0) f0
    each (suc zero) h = magnitude_of (at x 1) f1
    each (suc (suc k)) h = absurd (let no : ⊥ = omega arith in no)
