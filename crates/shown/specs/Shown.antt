-- A sample as a residual and back, and the difference and darkening of two pictures. The guess is 700.
use Rattle.std.specs.Prelude.{◌≡◌, cond, List, ℕ, suc, ◌+◌, ◌-◌, ◌≤◌, ◌<◌, min, ltb, ℤ, pos, negsuc, ◌-ℤ◌, get_or}
use Rattle.integers.specs.Sum.{sum, on_max, at}
use Rattle.picture.specs.declared.sides.Size.{Size}
use Rattle.picture.specs.Picture.{inside_of}
use Rattle.shown.specs.declared.Worst.{Worst}

-- what the camera saw less the guess; no sample is above 1023
unfoldable pub residual_of : ℕ → ℤ
residual_of sample = cond (ltb sample 1024) (pos sample -ℤ pos 700) (pos 323)

-- the guess and a residual, not below 0 (where a difference of naturals stops) and not above 1023
unfoldable pub viewed_of : ℤ → ℕ
viewed_of (pos n) = min (700 + n) 1023
viewed_of (negsuc n) = 700 - suc n

abbrev pub Residuals : List ℕ → List ℤ → Type 0
Residuals seen block = (i : ℕ) → i < 64 → at block i ≡ residual_of (get_or seen i 0)

abbrev pub Views : List ℤ → List ℕ → Type 0
Views block view = (i : ℕ) → i < 64 → get_or view i 0 ≡ viewed_of (at block i)

unfoldable pub apart_of : (a b : ℕ) → ℕ
apart_of a b = cond (ltb a b) (b - a) (a - b)

-- at place i of a block: what is not in the picture does not count
unfoldable pub apart_at : Size → ℕ → (seen view : List ℕ) → ℕ → ℕ
unfolding inside_of apart_of
apart_at size block seen view i = cond (inside_of size block i) (apart_of (get_or seen i 0) (get_or view i 0)) 0

unfoldable pub block_apart : Size → ℕ → (seen view : List ℕ) → ℕ
unfolding sum apart_at
block_apart size block seen view = sum on_max 64 (apart_at size block seen view)

-- how much less is shown than the camera saw: 0 where it is not less
unfoldable pub darker_of : (seen view : ℕ) → ℕ
darker_of seen view = seen - view

-- at place p of two pictures
abbrev pub distance_in : (ℕ → ℕ → ℕ) → (camera shown : List ℕ) → ℕ → ℕ
distance_in distance camera shown p = distance (get_or camera p 0) (get_or shown p 0)

abbrev pub apart_in : (camera shown : List ℕ) → ℕ → ℕ
apart_in = distance_in apart_of

abbrev pub darker_in : (camera shown : List ℕ) → ℕ → ℕ
darker_in = distance_in darker_of

-- by a distance d of each place: none of the first n lies farther than the one at `at`, and each one before it less far
pub record Farthest (d : ℕ → ℕ) (n : ℕ) (r : Worst) : Type 0 where
  pub within : r.at < n
  pub is : r.most ≡ d r.at
  pub none : (p : ℕ) → p < n → d p ≤ r.most
  pub first : (p : ℕ) → p < r.at → d p < r.most

-- one place more, p, at a distance d
unfoldable pub farther_of : Worst → (d p : ℕ) → Worst
farther_of best d p = cond (ltb best.most d) (record { most = d; at = p }) best
