-- The N-point transform of a line, and how the butterflies work it out: the even coefficients are those of the sums of
-- the values that stand equally far from the two ends, the odd ones come from the differences. A row holds them in the
-- order in which they arise, the odd ones behind the even ones. All over a family of matrices M.
use Rattle.std.specs.Prelude.{◌≡◌, cond, List, ℕ, zero, suc, ◌+◌, ◌-◌, ◌*◌, ◌/◌, ◌%◌, ◌^◌, ◌<◌, ◌≤◌, eqb, length}
use Rattle.std.specs.Prelude.{ℤ, nat_abs, ◌+ℤ◌, ◌-ℤ◌, ◌*ℤ◌}
use Rattle.integers.specs.Sum.{sum, sum_ℤ, sum_ℕ, at}
use Rattle.tables.specs.Matrix.{Matrices}

-- coefficient k of the N-point transform of x
unfoldable pub line_at : Matrices → (N : ℕ) → List ℤ → ℕ → ℤ
unfolding sum
line_at M N x k = sum_ℤ N (λ n. M N k n *ℤ at x n)

-- the values n from the two ends of x
abbrev pub sum_of : List ℤ → ℕ → ℤ
sum_of x n = at x n +ℤ at x (length x - 1 - n)

abbrev pub difference_of : List ℤ → ℕ → ℤ
difference_of x n = at x n -ℤ at x (length x - 1 - n)

-- e holds the sums of x, and o the differences
pub record Folded (x e o : List ℤ) : Type 0 where
  pub sums : (k : ℕ) → k < length e → at e k ≡ sum_of x k
  pub differences : (k : ℕ) → k < length e → at o k ≡ difference_of x k

-- output k over the first m values of o: t has a line for each value, with an entry for each output
abbrev pub gained : (t o : List ℤ) (m k : ℕ) → ℤ
gained t o m k = sum_ℤ m (λ n. at t (n * length o + k) *ℤ at o n)

-- the most that any part of that sum comes to
abbrev pub spent : (t o : List ℤ) (m k : ℕ) → ℕ
spent t o m k = sum_ℕ m (λ n. nat_abs (at t (n * length o + k)) * nat_abs (at o n))

-- where coefficient k stands in a row of side 2^l: the even ones as in a row of half the side, the odd ones behind them
unfoldable pub place : (l k : ℕ) → ℕ
place zero k = 0
place (suc l) k = cond (eqb (k % 2) 0) (place l (k / 2)) (2 ^ l + k / 2)

-- b behind as many places as it has itself
pub record Behind (b old new : List ℤ) : Type 0 where
  pub holds : (k : ℕ) → k < length b → at new (length b + k) ≡ at b k
  pub kept : (p : ℕ) → length b + length b ≤ p → at new p ≡ at old p

-- the row of x in front of what was there
pub record Row (M : Matrices) (l : ℕ) (x old new : List ℤ) : Type 0 where
  pub holds : (k : ℕ) → k < 2 ^ l → at new (place l k) ≡ line_at M (2 ^ l) x k
  pub kept : (p : ℕ) → 2 ^ l ≤ p → at new p ≡ at old p

-- 2^l times the largest value is at most 32736 · 1024, so that every sum of the line stays below 2^31
pub record Room (l : ℕ) (x : List ℤ) : Type 0 where
  pub most : ℕ
  pub each : (i : ℕ) → i < length x → nat_abs (at x i) ≤ most
  pub room : most * 2 ^ l ≤ 33521664

-- one level of a line x of side 2^(l+1): e holds its sums and has room in half the side, its odd coefficients are a
-- list of their own that stands behind 2^l places of the row, and the coefficients of e are the even ones
pub record Halved (M : Matrices) (l : ℕ) (x e old new : List ℤ) : Type 0 where
  pub differences : List ℤ
  pub half : List ℤ
  pub long : (length e ≡ 2 ^ l) × (length half ≡ 2 ^ l)
  pub folded : Folded x e differences
  pub put : Behind half old new
  pub evens : (k : ℕ) → k < 2 ^ l → line_at M (2 ^ l) e k ≡ line_at M (2 ^ l + 2 ^ l) x (2 * k)
  pub odds : (k : ℕ) → k < 2 ^ l → at new (2 ^ l + k) ≡ line_at M (2 ^ l + 2 ^ l) x (2 * k + 1)
  pub kept : (p : ℕ) → 2 ^ l + 2 ^ l ≤ p → at new p ≡ at old p
  pub room : Room l e
