-- Lambda, the weight of a bit: which are refused with 3, and the whole number that an accepted one, an f64, stands for.
-- A finite f64 is `fin s m e`: m * 2 ^ e, negative where s is true. lib.Ieee's operations round once each.
use Rattle.std.specs.Prelude.{◌≡◌, ℕ, ◌^◌, ◌≤◌, Bool, false, ◌||◌, pos, negsuc, Float}
use Rattle.std.specs.Float.{fin, binary64}
use Rattle.std.specs.Float.Ieee.{is_nan, lt, add, mul, of_int, to_unsigned}

-- 0, 8192, 32768 and 0.5
abbrev pub none : Float
none = fin false 0 (pos 0)

abbrev pub most : Float
most = fin false 1 (pos 13)

abbrev pub scale : Float
scale = fin false 1 (pos 15)

abbrev pub half : Float
half = fin false 1 (negsuc 0)

-- 3 LAMBDA: NaN, below 0, or above 8192. -0 is not below 0
unfoldable pub lambda_refused : Float → Bool
unfolding is_nan lt
lambda_refused d = is_nan d || lt d none || lt most d

-- d·32768 + 0.5 in f64, each operation rounded once
unfoldable pub lambda_sum : Float → Float
unfolding add mul
lambda_sum d = add binary64 (mul binary64 d scale) half

-- then the fraction dropped
unfoldable pub lambda_of : Float → ℕ
unfolding lambda_sum to_unsigned
lambda_of d = to_unsigned 64 (lambda_sum d)

-- r is the greatest whole number from 0 to 2^28 that, as an f64, isn't above x
pub record Greatest (x : Float) (r : ℕ) : Type 0 where
  pub within : r ≤ 2 ^ 28
  pub under : lt x (of_int binary64 (pos r)) ≡ false
  pub last : (k : ℕ) → k ≤ 2 ^ 28 → lt x (of_int binary64 (pos k)) ≡ false → k ≤ r

-- r is the whole number of d, by both halves of the paper's sentence. proofs/Lambda.antt: they agree for every accepted
-- d
pub record LambdaWhole (d : Float) (r : ℕ) : Type 0 where
  pub is : r ≡ lambda_of d
  pub greatest : Greatest (lambda_sum d) r
