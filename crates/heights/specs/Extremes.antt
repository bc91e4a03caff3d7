-- What the viewer makes of the levels of a block, and how far its samples lie from the residuals that were coded. A
-- residual is the camera's sample less a guess, and what is shown is the same guess with what is decoded added: so
-- these are also the distances of what is shown from what the camera saw, whatever the guess was (proofs/Shown.antt).
use Rattle.std.specs.Prelude.{Bool, ◌&&◌, List, ℕ, ◌*◌, ◌^◌, leb, ℤ, pos, negsuc, ◌-ℤ◌}
use Rattle.integers.specs.Sum.{sum, on_max, at}
use Rattle.decoding.specs.Scaling.{coefficients_back}
use Rattle.decoding.specs.Inverse.{residuals}
use Rattle.heights.specs.declared.Extremes.{Extremes}
use Rattle.heights.specs.declared.Heights.{Heights}

-- decoded: the levels of a square block at the front of a list, scaled back by a row of scales, then the inverse
-- transform; l is log2 of the side
unfoldable pub decoded : (row : List ℕ) (l qp : ℕ) (levels : List ℤ) → List ℤ
unfolding coefficients_back residuals
decoded row l qp levels = residuals (coefficients_back row l qp levels) l l

-- a - b, 0 at least
abbrev pub positive : ℤ → ℕ
positive (pos n) = n
positive (negsuc n) = 0

unfoldable pub above : (a b : ℤ) → ℕ
above a b = positive (a -ℤ b)

-- the largest r - r' over n samples, r being the residuals and r' what is decoded, and the largest r' - r
unfoldable pub darker : (n : ℕ) (r r' : List ℤ) → ℕ
unfolding sum above
darker n r r' = sum on_max n (λ i. above (at r i) (at r' i))

unfoldable pub lighter : (n : ℕ) (r r' : List ℤ) → ℕ
unfolding sum above
lighter n r r' = sum on_max n (λ i. above (at r' i) (at r i))

-- of a square block: its residuals, and its levels
unfoldable pub extremes : (row : List ℕ) (l qp : ℕ) (r levels : List ℤ) → Extremes
unfolding darker lighter decoded
extremes row l qp r levels =
    let n = 2 ^ l * 2 ^ l in
    let r' = decoded row l qp levels in
    record { darker = darker n r r'; lighter = lighter n r r' }

-- neither extreme is above its height
unfoldable pub within : Extremes → Heights → Bool
within e h = leb e.darker h.darker && leb e.lighter h.lighter
