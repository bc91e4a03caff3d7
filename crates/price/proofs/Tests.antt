-- Document 01's numbers and the borders beside them, computed: what a wrong reading of a definition would get wrong.
use Rattle.std.proofs.Common.{◌≡◌, ℕ, ◌+◌, ◌*◌, true, false, List, [], ◌∷◌, pos, negsuc, refl}
use lib.Ieee.{nan, inf, fin}
use Rattle.price.specs.Lambda.{lambda_refused, lambda_of}
use Rattle.price.specs.Level.{shift_of, scaled, nearest, error, distortion, threshold}
use Rattle.price.specs.declared.Costs.{Costs}
use Rattle.price.specs.Costs.{cost_refused, Rows, rate}

-- ---- lambda's whole number: of 0, -0, 1/1024, 1/64, 1/32768 and 8192
at_0 : lambda_of (fin false 0 (pos 0)) ≡ 0
unfolding lambda_of
at_0 = refl

at_minus_0 : lambda_of (fin true 0 (pos 0)) ≡ 0
unfolding lambda_of
at_minus_0 = refl

at_1/1024 : lambda_of (fin false 1 (negsuc 9)) ≡ 32
unfolding lambda_of
at_1/1024 = refl

at_1/64 : lambda_of (fin false 1 (negsuc 5)) ≡ 512
unfolding lambda_of
at_1/64 = refl

at_1/32768 : lambda_of (fin false 1 (negsuc 14)) ≡ 1
unfolding lambda_of
at_1/32768 = refl

at_8192 : lambda_of (fin false 1 (pos 13)) ≡ 268435456
unfolding lambda_of
at_8192 = refl

-- d·32768 is the largest f64 below 1/2, (2^53 - 1) / 2^54: the sum rounds up to 1
below_half : lambda_of (fin false 9007199254740991 (negsuc 68)) ≡ 1
unfolding lambda_of
below_half = refl

-- the f64 before that, (2^53 - 2) / 2^54
below_that : lambda_of (fin false 4503599627370495 (negsuc 67)) ≡ 0
unfolding lambda_of
below_that = refl

-- ---- 3 LAMBDA: not 0, -0 and 8192
accepts_0 : lambda_refused (fin false 0 (pos 0)) ≡ false
unfolding lambda_refused
accepts_0 = refl

accepts_minus_0 : lambda_refused (fin true 0 (pos 0)) ≡ false
unfolding lambda_refused
accepts_minus_0 = refl

accepts_8192 : lambda_refused (fin false 1 (pos 13)) ≡ false
unfolding lambda_refused
accepts_8192 = refl

-- the next f64 above 8192, and the smallest below 0
refuses_above : lambda_refused (fin false 4503599627370497 (negsuc 38)) ≡ true
unfolding lambda_refused
refuses_above = refl

refuses_below : lambda_refused (fin true 1 (negsuc 1073)) ≡ true
unfolding lambda_refused
refuses_below = refl

refuses_nan : lambda_refused nan ≡ true
unfolding lambda_refused
refuses_nan = refl

refuses_infinity : lambda_refused (inf false) ≡ true
unfolding lambda_refused
refuses_infinity = refl

refuses_minus_infinity : lambda_refused (inf true) ≡ true
unfolding lambda_refused
refuses_minus_infinity = refl

-- ---- the quantiser's numbers
-- P10: side 32, QP 3
largest_level : nearest (shift_of 5 3) (scaled 18396 (negsuc 29182)) ≡ 32767
unfolding shift_of scaled nearest
largest_level = refl

level_above : nearest (shift_of 5 3) (scaled 18396 (pos 29184)) ≡ 32768
unfolding shift_of scaled nearest
level_above = refl

-- 6 QP are one bit
shift_at_63 : shift_of 1 63 ≡ 28
unfolding shift_of
shift_at_63 = refl

-- 9 at side 2 and QP 0: (9·26214 - 2^18)·20480 is -536,944,640, some 512.07 units of 2^20 below 0
error_drops_down : error 18 20480 (scaled 26214 (pos 9)) 1 ≡ negsuc 512
unfolding scaled error
error_drops_down = refl

distortion_drops_down : distortion 18 20480 (scaled 26214 (pos 9)) 1 ≡ 263169
unfolding scaled distortion
distortion_drops_down = refl

-- P9's borders: 16384 times 9 and 10, and times 11 and 12, lie on either side
threshold_intra : threshold true 18 ≡ 159232
unfolding threshold
threshold_intra = refl

threshold_inter : threshold false 18 ≡ 183808
unfolding threshold
threshold_inter = refl

-- ---- the rate, from tables of 28 different entries: run and level are powers of 2, so that a sum tells what it read
tables : Costs
tables = record {
  run = 1 ∷ 2 ∷ 4 ∷ 8 ∷ 16 ∷ 32 ∷ 64 ∷ 128 ∷ [];
  level = 256 ∷ 512 ∷ 1024 ∷ 2048 ∷ 4096 ∷ 8192 ∷ 16384 ∷ 65536 ∷ [];
  last = 3 ∷ 5 ∷ 6 ∷ 7 ∷ [];
  cbf = 9 ∷ 10 ∷ 11 ∷ 12 ∷ 13 ∷ 14 ∷ 15 ∷ 17 ∷ [];
}

luma : Rows
luma = record { run = 0; level = 0; last = 0; cbf = 1 }

chroma : Rows
chroma = record { run = 2; level = 2; last = 1; cbf = 2 }

-- of 0, 1, 2 and 5, after a nonzero level and after a 0
rates : Rows → List ℕ
rates rows =
    rate 32768 tables rows false 0 ∷ rate 32768 tables rows false 1 ∷ rate 32768 tables rows false 2
    ∷ rate 32768 tables rows false 5
    ∷ rate 32768 tables rows true 0 ∷ rate 32768 tables rows true 1 ∷ rate 32768 tables rows true 2
    ∷ rate 32768 tables rows true 5 ∷ []

luma_rates : rates luma
    ≡ 2 ∷ (32768 + 1 + 256) ∷ (32768 + 1 + 512 + 1024) ∷ (32768 + 1 + 512 + 3 * 2048 + 1024)
    ∷ 8 ∷ (32768 + 4 + 256) ∷ (32768 + 4 + 512 + 1024) ∷ (32768 + 4 + 512 + 3 * 2048 + 1024) ∷ []
unfolding rates tables luma rate
luma_rates = refl

chroma_rates : rates chroma
    ≡ 32 ∷ (32768 + 16 + 4096) ∷ (32768 + 16 + 8192 + 16384) ∷ (32768 + 16 + 8192 + 3 * 65536 + 16384)
    ∷ 128 ∷ (32768 + 64 + 4096) ∷ (32768 + 64 + 8192 + 16384) ∷ (32768 + 64 + 8192 + 3 * 65536 + 16384) ∷ []
unfolding rates tables chroma rate
chroma_rates = refl

-- ---- 4 COST: an entry may be 1,048,576 and no more
with_entry : ℕ → Costs
with_entry x = record {
  run = tables.run;
  level = tables.level;
  last = tables.last;
  cbf = 9 ∷ 10 ∷ 11 ∷ 12 ∷ 13 ∷ 14 ∷ 15 ∷ x ∷ [];
}

accepts_most : cost_refused (with_entry 1048576) ≡ false
unfolding with_entry tables cost_refused
accepts_most = refl

refuses_more : cost_refused (with_entry 1048577) ≡ true
unfolding with_entry tables cost_refused
refuses_more = refl
