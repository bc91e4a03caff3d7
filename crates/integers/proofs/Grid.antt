-- Places of a grid w wide, counted by rows: row a and column b stand at a·w + b, and the place gives both back.
-- Assumes nothing.
use mathlib.Core.Path.{◌≡◌, ◌∙◌, ap, sym}
use mathlib.Core.Logic.{◌≢◌}
use Prim.Native.Nat.{ℕ, ◌+◌, ◌*◌, ◌/◌, ◌%◌, ◌<◌}
use native.Mathlib.Nat.{mul-add-mod_self_right, mul-add-div_right, mod-eq_of_lt, div-eq_of_lt, mul-le-mul_right}
use native.Mathlib.Nat.{suc-mul, add-zero, div-lt_iff_lt-mul, mod-lt, div-add-mod'}
use native.Mathlib.Omega.{arith}

module _ (w a b : ℕ) (hb : b < w) where
  pub row_of : (a * w + b) / w ≡ a
  row_of = mul-add-div_right {m = w} (omega arith) a b ∙ ap (λ (k : ℕ). a + k) (div-eq_of_lt hb) ∙ add-zero a

  pub column_of_lem : (a * w + b) % w ≡ b
  column_of_lem = mul-add-mod_self_right a w b ∙ mod-eq_of_lt hb

  pub inside : (h : ℕ) → a < h → a * w + b < h * w
  inside h ha = omega (arith, mul-le-mul_right w ha, suc-mul a w)

  -- two columns, and two rows, share no place
  pub columns_apart : (a' b' : ℕ) → b' < w → b ≢ b' → a * w + b ≢ a' * w + b'
  columns_apart a' b' hb' d e =
      d (sym column_of_lem ∙ ap (λ (i : ℕ). i % w) e ∙ mul-add-mod_self_right a' w b' ∙ mod-eq_of_lt hb')

  pub rows_apart : (a' : ℕ) → a ≢ a' → a * w + b ≢ a' * w + b
  rows_apart a' d e =
      d (sym row_of ∙ ap (λ (i : ℕ). i / w) e ∙ mul-add-div_right {m = w} (omega arith) a' b
      ∙ ap (λ (k : ℕ). a' + k) (div-eq_of_lt hb) ∙ add-zero a')

-- the row and the column of any place of a grid h high
module _ (w h i : ℕ) (hw : 0 < w) (hi : i < h * w) where
  pub row_inside : i / w < h
  row_inside = (div-lt_iff_lt-mul hw).1 hi

  pub column_inside : i % w < w
  column_inside = mod-lt i hw

  pub place_is : i / w * w + i % w ≡ i
  place_is = div-add-mod' i w
