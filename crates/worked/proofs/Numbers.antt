-- P1 and P3 to P12 as one theorem over the definitions of the calls: refusal, count, price, levels. Those of small
-- blocks are computed beside their definitions; those of side 32 here, each by itself, so that no two are in memory at
-- once.
use mathlib.Core.Path.{◌≡◌, refl}
use mathlib.Core.Bool.{true, false}
use mathlib.Core.List.{◌∷◌, ◌++◌}
use Prim.Native.Nat.{ℕ, ◌-◌}
use lib.ListN.{replicate}
use lib.IntN.{pos}
use lib.Ieee.{Float, fin}
use Rattle.refusals.specs.declared.Component.TheVariants.{Y}
use Rattle.refusals.specs.Faults.{refused}
use Rattle.transform.proofs.Numbers as transform
use Rattle.coding.specs.Block.{Quant, called}
use Rattle.coding.specs.Call.{coded, quant_answer, quant_buffer}
use Rattle.coding.proofs.Numbers as coding
use Rattle.coding.proofs.Numbers.{p, parts, at, walks, flat, usual}

-- side 32, every cost entry 32768: `count` coefficients c in front
abbrev large : ℕ → Float → ℕ → ℕ → Quant
large qp d count c =
    walks (replicate count (p c) ++ replicate (1024 - count) (p 0)) 5 Y (at qp d) true true (flat 32768)

-- 8192
abbrev most : Float
most = fin false 1 (pos 13)

-- P10: 29183 has m 32767, and 29184 is refused with 7
p10_passes : coding.Gives (large 3 usual 1 29183) 1 34366152960 (p 32767 ∷ replicate 1023 (p 0))
unfolding called quant_answer quant_buffer
p10_passes = (refl, refl)

p10_refused : quant_answer (large 3 usual 1 29184) ≡ refused 7 0
unfolding called quant_answer
p10_refused = refl

-- P11: 8191 passes, 8192 is refused with 8
p11_passes : quant_answer (large 4 most 1 8191) ≡ coded 0 4511296275873792
unfolding called quant_answer
p11_passes = refl

p11_refused : quant_answer (large 4 most 1 8192) ≡ refused 8 0
unfolding called quant_answer
p11_refused = refl

-- P12: 64 coefficients of 16384 pass, 65 are refused with 9
p12_passes : quant_answer (large 4 (parts 0) 64 16384) ≡ coded 64 0
unfolding called quant_answer
p12_passes = refl

p12_refused : quant_answer (large 4 (parts 0) 65 16384) ≡ refused 9 0
unfolding called quant_answer
p12_refused = refl

-- 7 before 8 and 9, and 8 before 9
pub seven_first : quant_answer (large 3 most 65 29184) ≡ refused 7 0
unfolding called quant_answer
seven_first = refl

pub eight_first : quant_answer (large 4 most 65 16384) ≡ refused 8 0
unfolding called quant_answer
eight_first = refl

pub numbers :
    transform.Numbers
    × coding.Numbers
    × (coding.Gives (large 3 usual 1 29183) 1 34366152960 (p 32767 ∷ replicate 1023 (p 0)))
    × (quant_answer (large 3 usual 1 29184) ≡ refused 7 0)
    × (quant_answer (large 4 most 1 8191) ≡ coded 0 4511296275873792)
    × (quant_answer (large 4 most 1 8192) ≡ refused 8 0)
    × (quant_answer (large 4 (parts 0) 64 16384) ≡ coded 64 0)
    × (quant_answer (large 4 (parts 0) 65 16384) ≡ refused 9 0)
numbers = (
  transform.numbers,
  coding.numbers,
  p10_passes,
  p10_refused,
  p11_passes,
  p11_refused,
  p12_passes,
  p12_refused,
)
