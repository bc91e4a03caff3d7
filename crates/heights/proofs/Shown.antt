-- For any guess: what is shown of a sample lies within the heights of what the camera saw, as the guess is in both and
-- what the camera saw needs no clipping. So if paper is at least W, ink at most W - C, and the heights together are
-- below C, one threshold tells paper from ink in what is shown.
-- Assumes nothing.
use mathlib.Core.Path.{◌≡◌, refl}
use mathlib.Core.Bool.{true, cond}
use mathlib.Core.List.{List}
use Prim.Native.Nat.{ℕ, ◌+◌, ◌*◌, ◌^◌, ◌≤◌, ◌<◌}
use native.Mathlib.Omega.{arith}
use lib.Dec.{T, ltb→lt, lt→ltb}
use lib.IntN.{ℤ, pos, negsuc, neg_ℤ, ◌+ℤ◌, ◌-ℤ◌}
use lib.Signed.{lt_z, ◌≤ℤ◌, ◌<ℤ◌}
use Rattle.integers.specs.Sum.{at}
use Rattle.integers.proofs.Parts.{above, below, of_choice, +-parts, neg_above, neg_below, le_of_parts, parts_of_le}
use Rattle.heights.specs.declared.Heights.{Heights}
use Rattle.heights.specs.Extremes.{decoded, extremes, within}
use Rattle.heights.specs.Extremes as of
use Rattle.heights.specs.Shown.{clip10, shown}
use Rattle.heights.proofs.Exact.{none_darker, none_lighter, within_means, raised}

pub parts_of_lt : (a b : ℤ) → T (lt_z a b) → above a + below b < above b + below a
unfolding above below
parts_of_lt (pos a) (pos b) t = omega (arith, ltb→lt a b t)
parts_of_lt (pos a) (negsuc b) t = absurd t
parts_of_lt (negsuc a) (pos b) t = omega arith
parts_of_lt (negsuc a) (negsuc b) t = omega (arith, ltb→lt b a t)

lt_of_parts : (a b : ℤ) → above a + below b < above b + below a → a <ℤ b
unfolding above below
lt_of_parts (pos a) (pos b) h = record { lt = lt→ltb a b (omega arith) }
lt_of_parts (pos a) (negsuc b) h = absurd (let no : ⊥ = omega arith in no)
lt_of_parts (negsuc a) (pos b) h = record { lt = tt }
lt_of_parts (negsuc a) (negsuc b) h = record { lt = lt→ltb b a (omega arith) }

of_pos : (n : ℕ) → (above (pos n) ≡ n) × (below (pos n) ≡ 0)
unfolding above below
of_pos n = (refl, refl)

-- a difference by its parts
pub difference : (a b : ℤ) → above (a -ℤ b) + (below a + above b) ≡ below (a -ℤ b) + (above a + below b)
difference a b = omega (arith, +-parts a (neg_ℤ b), neg_above b, neg_below b)

pub difference_at_most : (a b : ℤ) (n : ℕ) → of.above a b ≤ n → (a -ℤ b) ≤ℤ pos n
difference_at_most a b n h =
    le_of_parts (a -ℤ b) (pos n)
    (omega (arith, of_pos n, difference a b, +-parts b (pos n), parts_of_le (raised a b n h)))

-- a clipped number lies between the bounds of the number, if the lower is at most 1023 and the upper at least 0
clip_between : (low high z : ℤ) → low ≤ℤ pos 1023 → pos 0 ≤ℤ high → low ≤ℤ z → z ≤ℤ high
    → (low ≤ℤ clip10 z) × (clip10 z ≤ℤ high)
unfolding clip10 above below
clip_between low high z a b c d =
    let a' = parts_of_le a in
    let b' = parts_of_le b in
    let c' = parts_of_le c in
    let d' = parts_of_le d in
    let In : ℤ → Type 0 = λ y. (low ≤ℤ y) × (y ≤ℤ high) in
    of_choice (lt_z z (pos 0)) (pos 0) (cond (lt_z (pos 1023) z) (pos 1023) z) In
    (λ t. (le_of_parts low (pos 0) (omega (arith, parts_of_lt z (pos 0) t)), b))
    (λ t.
    of_choice (lt_z (pos 1023) z) (pos 1023) z In
    (λ u. (a, le_of_parts (pos 1023) high (omega (arith, parts_of_lt (pos 1023) z u))))
    (λ u. (c, d)))

-- a sample: the guess, its residual, what is decoded, what the camera saw
module _ (guess r r' camera : ℤ) (Hd Hl : ℕ) (dark : (r -ℤ r') ≤ℤ pos Hd) (light : (r' -ℤ r) ≤ℤ pos Hl)
    (is : camera ≡ guess +ℤ r) (low : pos 0 ≤ℤ camera) (high : camera ≤ℤ pos 1023) where
  pub shown_within_heights : ((camera -ℤ pos Hd) ≤ℤ shown guess r') × (shown guess r' ≤ℤ (camera +ℤ pos Hl))
  unfolding shown above below
  shown_within_heights =
      let z = guess +ℤ r' in
      let e = difference camera (pos Hd) in
      let f = +-parts camera (pos Hl) in
      let g = +-parts guess r' in
      let k : above camera + (below guess + below r) ≡ below camera + (above guess + above r) =
      rw is (+-parts guess r) in
      clip_between (camera -ℤ pos Hd) (camera +ℤ pos Hl) z
      (le_of_parts (camera -ℤ pos Hd) (pos 1023) (omega (arith, parts_of_le high)))
      (le_of_parts (pos 0) (camera +ℤ pos Hl) (omega (arith, parts_of_le low)))
      (le_of_parts (camera -ℤ pos Hd) z (omega (arith, difference r r', parts_of_le dark)))
      (le_of_parts z (camera +ℤ pos Hl) (omega (arith, difference r' r, parts_of_le light)))

  -- paper is shown at W - Hd or above it, ink below that
  pub one_threshold_separates : (W : ℤ) (C : ℕ) → Hd + Hl < C
      → (W ≤ℤ camera → (W -ℤ pos Hd) ≤ℤ shown guess r')
      × (camera ≤ℤ (W -ℤ pos C) → shown guess r' <ℤ (W -ℤ pos Hd))
  one_threshold_separates W C h = (paper, ink)
    where
      paper : W ≤ℤ camera → (W -ℤ pos Hd) ≤ℤ shown guess r'
      paper w =
          le_of_parts (W -ℤ pos Hd) (shown guess r')
          (omega (
            arith,
            difference W (pos Hd),
            difference camera (pos Hd),
            parts_of_le w,
            parts_of_le shown_within_heights.0,
          ))

      ink : camera ≤ℤ (W -ℤ pos C) → shown guess r' <ℤ (W -ℤ pos Hd)
      ink w =
          lt_of_parts (shown guess r') (W -ℤ pos Hd)
          (omega (
            arith,
            of_pos C,
            of_pos Hd,
            of_pos Hl,
            difference W (pos Hd),
            difference W (pos C),
            +-parts camera (pos Hl),
            parts_of_le w,
            parts_of_le shown_within_heights.1,
          ))

-- a block within the heights, sample by sample: every sample has its own guess
module _ (row : List ℕ) (l qp : ℕ) (r levels : List ℤ) (h : Heights)
    (held : within (extremes row l qp r levels) h ≡ true) where
  abbrev pub back : ℕ → ℤ
  back i = at (decoded row l qp levels) i

  pub sample_no_darker : (i : ℕ) → i < 2 ^ l * 2 ^ l → (at r i -ℤ back i) ≤ℤ pos h.darker
  unfolding extremes
  sample_no_darker i k =
      difference_at_most (at r i) (back i) h.darker
      (omega (
        arith,
        none_darker (2 ^ l * 2 ^ l) r (decoded row l qp levels) i k,
        ((within_means (extremes row l qp r levels) h).0 held).0,
      ))

  pub sample_no_lighter : (i : ℕ) → i < 2 ^ l * 2 ^ l → (back i -ℤ at r i) ≤ℤ pos h.lighter
  unfolding extremes
  sample_no_lighter i k =
      difference_at_most (back i) (at r i) h.lighter
      (omega (
        arith,
        none_lighter (2 ^ l * 2 ^ l) r (decoded row l qp levels) i k,
        ((within_means (extremes row l qp r levels) h).0 held).1,
      ))

  module _ (i : ℕ) (inside : i < 2 ^ l * 2 ^ l) (guess camera : ℤ) (is : camera ≡ guess +ℤ at r i)
      (low : pos 0 ≤ℤ camera) (high : camera ≤ℤ pos 1023) where
    pub block_within_heights : ((camera -ℤ pos h.darker) ≤ℤ shown guess (back i))
        × (shown guess (back i) ≤ℤ (camera +ℤ pos h.lighter))
    block_within_heights =
        shown_within_heights guess (at r i) (back i) camera h.darker h.lighter (sample_no_darker i inside)
        (sample_no_lighter i inside) is low high

    pub block_one_threshold : (W : ℤ) (C : ℕ) → h.darker + h.lighter < C
        → (W ≤ℤ camera → (W -ℤ pos h.darker) ≤ℤ shown guess (back i))
        × (camera ≤ℤ (W -ℤ pos C) → shown guess (back i) <ℤ (W -ℤ pos h.darker))
    block_one_threshold =
        one_threshold_separates guess (at r i) (back i) camera h.darker h.lighter (sample_no_darker i inside)
        (sample_no_lighter i inside) is low high
