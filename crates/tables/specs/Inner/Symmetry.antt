-- What a butterfly needs of a family of matrices M: how the matrix of side 2h reads from its two ends, and what it has
-- of the matrix of side h. Any family with these two has the butterflies' laws.
use Rattle.std.specs.Prelude.{◌≡◌, ℕ, ◌+◌, ◌-◌, ◌*◌, ◌<◌, ◌≤◌, nat_abs, neg_ℤ}
use Rattle.integers.specs.Sum.{sum_ℕ}
use Rattle.tables.specs.Matrix.{Matrices}

-- an even row reads the same from both ends, an odd one with its sign changed, and the even rows begin with the rows of
-- side h
pub record Symmetric (M : Matrices) (h : ℕ) : Type 0 where
  pub even : (k n : ℕ) → k < h → n < h → M (h + h) (2 * k) (h + h - 1 - n) ≡ M (h + h) (2 * k) n
  pub odd : (k n : ℕ) → k < h → n < h → M (h + h) (2 * k + 1) (h + h - 1 - n) ≡ neg_ℤ (M (h + h) (2 * k + 1) n)
  pub nested : (k n : ℕ) → k < h → n < h → M (h + h) (2 * k) n ≡ M h k n

-- the magnitudes in the first half of an odd row add up to at most 64·h
abbrev pub Light : Matrices → ℕ → Type 0
Light M h = (k : ℕ) → k < h → sum_ℕ h (λ n. nat_abs (M (h + h) (2 * k + 1) n)) ≤ 64 * h
