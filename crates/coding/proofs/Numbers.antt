-- The paper's numbers for the quantiser, P5 to P9, and numbers of the project's own that tell apart what those let
-- through, computed over the definitions of the call: refusal, count, price and levels, and the m that P6 names. The
-- project's own were worked out by a program that shares nothing with these definitions.
use mathlib.Core.Path.{◌≡◌, refl}
use mathlib.Core.Bool.{Bool, true, false}
use mathlib.Core.List.{List, [], ◌∷◌}
use Prim.Native.Nat.{ℕ}
use lib.ListN.{replicate}
use lib.IntN.{ℤ, pos, negsuc, neg_ℤ}
use lib.Ieee.{Float, fin, nan}
use Rattle.scan.specs.Scan.{scan_at}
use Rattle.refusals.specs.declared.Component.{Component}
use Rattle.refusals.specs.declared.Component.TheVariants.{Y, U, «V»}
use Rattle.refusals.specs.Faults.{refused}
use Rattle.price.specs.declared.Costs.{Costs}
use Rattle.price.specs.declared.Settings.{Settings}
use Rattle.coding.specs.declared.Mode.{Mode}
use Rattle.coding.specs.declared.Mode.TheVariants.{Walk, Least}
use Rattle.coding.specs.Block.{Quant, called, is_skipped}
use Rattle.coding.specs.Call.{uncoded_here, coded, quant_answer, quant_buffer}
use Rattle.coding.proofs.Promises.{rounded}

-- n, and -n
abbrev pub p : ℕ → ℤ
p n = pos n

abbrev pub m : ℕ → ℤ
m n = neg_ℤ (pos n)

-- the d whose whole number is n: n / 32768
abbrev pub parts : ℕ → Float
parts n = fin false n (negsuc 14)

abbrev pub at : ℕ → Float → Settings
at qp d = record { qp = qp; lambda = d }

abbrev pub tables : (run level last cbf : List ℕ) → Costs
tables run level last cbf = record { run = run; level = level; last = last; cbf = cbf }

-- every entry n
abbrev pub flat : ℕ → Costs
flat n = tables (replicate 8 n) (replicate 8 n) (replicate 4 n) (replicate 8 n)

-- a call by its inputs one by one, and document 01's, which walks
abbrev pub asked : Mode → List ℤ → ℕ → Component → Settings → Bool → Bool → Costs → Quant
asked mode block l k s intra_slice intra_coded t =
    called block t (record {
      log2 = l;
      component = k;
      settings = s;
      intra_slice = intra_slice;
      intra_coded = intra_coded;
      mode = mode;
    })

abbrev pub walks : List ℤ → ℕ → Component → Settings → Bool → Bool → Costs → Quant
walks = asked Walk

-- P5 to P9: 2×2, QP 4, luma, intra-coded, every entry 32768
abbrev pub small : Float → Bool → List ℤ → Quant
small d intra_slice block = walks block 1 Y (at 4 d) intra_slice true (flat 32768)

-- accepted with this count and price, and this buffer at the end
abbrev pub Gives : Quant → ℕ → ℕ → List ℤ → Type 0
Gives c count price after = (quant_answer c ≡ coded count price) × (quant_buffer c ≡ after)

-- refused, with the buffer as it was
abbrev pub Refuses : Quant → ℕ → ℕ → Type 0
Refuses c number component = (quant_answer c ≡ refused number component) × (quant_buffer c ≡ c.buffer)

-- 1/1024 and 1/64
abbrev pub usual : Float
usual = fin false 1 (negsuc 9)

abbrev pub high : Float
high = fin false 1 (negsuc 5)

abbrev pub Numbers : Type 0
Numbers =
    -- P5, with a surplus behind the block
    Gives (small usual true (p 20 ∷ p 7 ∷ p 0 ∷ p 0 ∷ p 9 ∷ m 9 ∷ [])) 1 22282240 (p 1 ∷ p 0 ∷ p 0 ∷ p 0 ∷ p 9 ∷ m 9
    ∷ [])
    -- P6, whose m is 2
    × (rounded (small usual true (m 24 ∷ p 0 ∷ p 0 ∷ p 0 ∷ [])) 0 ≡ 2)
    × Gives (small usual true (m 24 ∷ p 0 ∷ p 0 ∷ p 0 ∷ [])) 1 22020096 (m 1 ∷ p 0 ∷ p 0 ∷ p 0 ∷ [])
    -- P7
    × Gives (small (parts 0) true (p 16 ∷ p 8 ∷ p 0 ∷ p 0 ∷ [])) 1 16777216 (p 1 ∷ p 0 ∷ p 0 ∷ p 0 ∷ [])
    -- P8
    × Gives (small high true (p 10 ∷ p 0 ∷ p 0 ∷ p 0 ∷ [])) 0 42991616 (p 0 ∷ p 0 ∷ p 0 ∷ p 0 ∷ [])
    -- P9: 9 is skipped, at the price that ticket 3 of document 02 states, D and the empty flag; 10 isn't; in an inter
    -- slice 11 is, 12 isn't
    × Gives (small usual true (p 9 ∷ p 0 ∷ p 0 ∷ p 0 ∷ [])) 0 22282240 (p 0 ∷ p 0 ∷ p 0 ∷ p 0 ∷ [])
    × (uncoded_here (small usual true (p 9 ∷ p 0 ∷ p 0 ∷ p 0 ∷ [])) ≡ 21233664)
    × (is_skipped (small usual true (p 9 ∷ p 0 ∷ p 0 ∷ p 0 ∷ [])) ≡ true)
    × (is_skipped (small usual true (p 10 ∷ p 0 ∷ p 0 ∷ p 0 ∷ [])) ≡ false)
    × Gives (small usual false (p 11 ∷ p 0 ∷ p 0 ∷ p 0 ∷ [])) 0 32768000 (p 0 ∷ p 0 ∷ p 0 ∷ p 0 ∷ [])
    × (is_skipped (small usual false (p 11 ∷ p 0 ∷ p 0 ∷ p 0 ∷ [])) ≡ true)
    × (is_skipped (small usual false (p 12 ∷ p 0 ∷ p 0 ∷ p 0 ∷ [])) ≡ false)

pub numbers : Numbers
unfolding called quant_answer quant_buffer is_skipped uncoded_here scan_at
numbers = (
  (refl, refl),
  refl,
  (refl, refl),
  (refl, refl),
  (refl, refl),
  (refl, refl),
  refl,
  refl,
  refl,
  (refl, refl),
  refl,
  refl,
)

-- what P5 to P12 let through
pub own :
    -- ties prefer 0, then m
    Gives
    (walks (p 24 ∷ p 8 ∷ p 40 ∷ p 24 ∷ []) 1 U (at 4 (parts 0)) false false
    (tables (1 ∷ 1 ∷ 0 ∷ 0 ∷ 1 ∷ 0 ∷ 1 ∷ 0 ∷ []) (0 ∷ 1 ∷ 2 ∷ 0 ∷ 1 ∷ 0 ∷ 0 ∷ 0 ∷ []) (0 ∷ 2 ∷ 0 ∷ 1 ∷ []) (0 ∷ 2 ∷ 2
    ∷ 0 ∷ 2 ∷ 0 ∷ 0 ∷ 0 ∷ [])))
    3 67108864 (p 2 ∷ p 0 ∷ p 3 ∷ p 2 ∷ [])
    -- at equal price the earlier cut wins
    × Gives
    (walks (p 0 ∷ p 20 ∷ m 16 ∷ p 10 ∷ []) 1 Y (at 4 (parts 512)) true false
    (tables (0 ∷ 2 ∷ 0 ∷ 0 ∷ 0 ∷ 0 ∷ 0 ∷ 0 ∷ []) (0 ∷ 0 ∷ 1 ∷ 0 ∷ 0 ∷ 0 ∷ 1 ∷ 0 ∷ []) (0 ∷ 0 ∷ 0 ∷ 1 ∷ []) (1 ∷ 0 ∷ 0
    ∷ 0 ∷ 1 ∷ 2 ∷ 2 ∷ 1 ∷ [])))
    2 63964160 (p 0 ∷ p 1 ∷ m 1 ∷ p 0 ∷ [])
    -- at equal price the empty block wins
    × Gives
    (walks (p 7 ∷ p 20 ∷ p 8 ∷ m 8 ∷ []) 1 Y (at 10 (parts 512)) true false
    (tables (2 ∷ 16384 ∷ 0 ∷ 8192 ∷ 32768 ∷ 32768 ∷ 2 ∷ 32768 ∷ []) (65536 ∷ 0 ∷ 8192 ∷ 8192 ∷ 32768 ∷ 8192 ∷ 8192
    ∷ 65536 ∷ []) (32768 ∷ 8192 ∷ 65536 ∷ 2 ∷ []) (0 ∷ 8192 ∷ 16384 ∷ 8192 ∷ 2 ∷ 32768 ∷ 0 ∷ 65536 ∷ [])))
    0 151257088 (p 0 ∷ p 0 ∷ p 0 ∷ p 0 ∷ [])
    -- the first place counts as after a nonzero level; luma that is not intra-coded reads cbf all
    × Gives
    (walks (p 7 ∷ p 24 ∷ p 24 ∷ p 8 ∷ []) 1 Y (at 4 (parts 4)) false false
    (tables (16384 ∷ 1 ∷ 32768 ∷ 0 ∷ 0 ∷ 0 ∷ 16384 ∷ 0 ∷ []) (2 ∷ 0 ∷ 0 ∷ 32768 ∷ 32768 ∷ 0 ∷ 2 ∷ 0 ∷ []) (32768 ∷ 0 ∷ 0
    ∷ 2 ∷ []) (0 ∷ 32768 ∷ 0 ∷ 2 ∷ 0 ∷ 1 ∷ 8192 ∷ 32768 ∷ [])))
    2 63897604 (p 0 ∷ p 2 ∷ p 2 ∷ p 0 ∷ [])
    -- a negative error is dropped downwards
    × Gives
    (walks (p 24 ∷ p 20 ∷ m 24 ∷ p 20 ∷ []) 1 «V» (at 0 (parts 1)) true false
    (tables (0 ∷ 1 ∷ 0 ∷ 1 ∷ 1 ∷ 0 ∷ 0 ∷ 0 ∷ []) (1 ∷ 0 ∷ 0 ∷ 0 ∷ 0 ∷ 0 ∷ 0 ∷ 0 ∷ []) (0 ∷ 0 ∷ 1 ∷ 0 ∷ []) (0 ∷ 1 ∷ 1
    ∷ 0 ∷ 0 ∷ 0 ∷ 1 ∷ 2 ∷ [])))
    4 8511501 (p 2 ∷ p 2 ∷ m 2 ∷ p 2 ∷ [])
    -- the skip goes by the threshold, not by m
    × Gives
    (walks (m 16 ∷ m 8 ∷ m 16 ∷ p 8 ∷ []) 1 «V» (at 10 (parts 0)) false true
    (tables (32768 ∷ 16384 ∷ 8192 ∷ 0 ∷ 0 ∷ 2 ∷ 0 ∷ 0 ∷ []) (8192 ∷ 8192 ∷ 0 ∷ 1 ∷ 8192 ∷ 1 ∷ 32768 ∷ 8192 ∷ [])
    (32768 ∷ 1 ∷ 65536 ∷ 16384 ∷ []) (0 ∷ 8192 ∷ 0 ∷ 1 ∷ 32768 ∷ 0 ∷ 8192 ∷ 0 ∷ [])))
    0 167772160 (p 0 ∷ p 0 ∷ p 0 ∷ p 0 ∷ [])
    -- a skipped block reports what an empty one costs, however dear, and is asked neither 8 nor 9
    × Gives (walks (p 100 ∷ m 50 ∷ p 3 ∷ p 0 ∷ []) 1 U (at 63 (fin false 1 (pos 13))) true true (flat 1048576))
    0 281478255713283 (p 0 ∷ p 0 ∷ p 0 ∷ p 0 ∷ [])
    -- Cr reads chroma's rows and its own cbf
    × Gives
    (walks (m 40 ∷ p 12 ∷ p 8 ∷ m 16 ∷ []) 1 «V» (at 10 (parts 1)) false false
    (tables (65536 ∷ 32768 ∷ 16384 ∷ 65536 ∷ 65536 ∷ 16384 ∷ 8192 ∷ 2 ∷ []) (1 ∷ 2 ∷ 0 ∷ 8192 ∷ 65536 ∷ 16384 ∷ 65536
    ∷ 8192 ∷ []) (0 ∷ 0 ∷ 32768 ∷ 1 ∷ []) (16384 ∷ 1 ∷ 65536 ∷ 32768 ∷ 0 ∷ 0 ∷ 16384 ∷ 16384 ∷ [])))
    1 138592257 (m 1 ∷ p 0 ∷ p 0 ∷ p 0 ∷ [])
    -- Cb reads chroma's rows and its own cbf
    × Gives
    (walks (m 40 ∷ p 12 ∷ p 8 ∷ m 16 ∷ []) 1 U (at 10 (parts 1)) false false
    (tables (65536 ∷ 32768 ∷ 16384 ∷ 65536 ∷ 65536 ∷ 16384 ∷ 8192 ∷ 2 ∷ []) (1 ∷ 2 ∷ 0 ∷ 8192 ∷ 65536 ∷ 16384 ∷ 65536
    ∷ 8192 ∷ []) (0 ∷ 0 ∷ 32768 ∷ 1 ∷ []) (16384 ∷ 1 ∷ 65536 ∷ 32768 ∷ 0 ∷ 0 ∷ 16384 ∷ 16384 ∷ [])))
    1 138575873 (m 1 ∷ p 0 ∷ p 0 ∷ p 0 ∷ [])
    -- the walk is cut
    × Gives
    (walks (p 0 ∷ p 8 ∷ p 7 ∷ p 16 ∷ []) 1 Y (at 0 (parts 512)) true true
    (tables (1 ∷ 0 ∷ 65536 ∷ 65536 ∷ 32768 ∷ 8192 ∷ 1 ∷ 32768 ∷ []) (16384 ∷ 32768 ∷ 16384 ∷ 0 ∷ 16384 ∷ 0 ∷ 16384
    ∷ 16384 ∷ []) (32768 ∷ 0 ∷ 2 ∷ 0 ∷ []) (8192 ∷ 8192 ∷ 16384 ∷ 0 ∷ 32768 ∷ 32768 ∷ 0 ∷ 16384 ∷ [])))
    0 105088003 (p 0 ∷ p 0 ∷ p 0 ∷ p 0 ∷ [])
    -- m - 1 is tried
    × Gives
    (walks (p 10 ∷ m 40 ∷ p 40 ∷ p 7 ∷ []) 1 Y (at 4 (parts 32)) false true
    (tables (32768 ∷ 8192 ∷ 1 ∷ 0 ∷ 2 ∷ 0 ∷ 1 ∷ 8192 ∷ []) (0 ∷ 1 ∷ 2 ∷ 8192 ∷ 8192 ∷ 2 ∷ 8192 ∷ 65536 ∷ []) (1 ∷ 8192
    ∷ 16384 ∷ 0 ∷ []) (8192 ∷ 0 ∷ 0 ∷ 0 ∷ 2 ∷ 65536 ∷ 2 ∷ 65536 ∷ [])))
    3 62390528 (p 1 ∷ m 2 ∷ p 2 ∷ p 0 ∷ [])
unfolding called quant_answer quant_buffer
own = (
  (refl, refl),
  (refl, refl),
  (refl, refl),
  (refl, refl),
  (refl, refl),
  (refl, refl),
  (refl, refl),
  (refl, refl),
  (refl, refl),
  (refl, refl),
  (refl, refl),
)

-- the cheapest block of all, beside the walk's of the same call
abbrev Both : (Mode → Quant) → (walks finds : Quant → Type 0) → Type 0
Both of walks finds = walks (of Walk) × finds (of Least)

pub least :
    -- it keeps two levels more than the walk, and is cheaper
    Both
    (λ mode. asked mode (p 7 ∷ p 7 ∷ p 24 ∷ p 0 ∷ []) 1 «V» (at 0 (parts 512)) true false
    (tables (32768 ∷ 1 ∷ 8192 ∷ 2 ∷ 0 ∷ 0 ∷ 65536 ∷ 0 ∷ []) (32768 ∷ 1 ∷ 8192 ∷ 2 ∷ 2 ∷ 1 ∷ 2 ∷ 16384 ∷ [])
    (8192 ∷ 16384 ∷ 1 ∷ 1 ∷ []) (1 ∷ 1 ∷ 1 ∷ 0 ∷ 32768 ∷ 16384 ∷ 8192 ∷ 32768 ∷ [])))
    (λ c. Gives c 1 96976899 (p 0 ∷ p 0 ∷ p 2 ∷ p 0 ∷ []))
    (λ c. Gives c 3 76028931 (p 1 ∷ p 1 ∷ p 2 ∷ p 0 ∷ []))
    -- it is as dear, and earlier in dictionary order: 0 before m
    × Both
    (λ mode. asked mode (m 24 ∷ p 12 ∷ p 20 ∷ p 20 ∷ []) 1 U (at 10 (parts 512)) false true
    (tables (0 ∷ 0 ∷ 0 ∷ 0 ∷ 65536 ∷ 8192 ∷ 8192 ∷ 0 ∷ []) (2 ∷ 65536 ∷ 2 ∷ 0 ∷ 16384 ∷ 1 ∷ 1 ∷ 32768 ∷ []) (1 ∷ 32768
    ∷ 32768 ∷ 16384 ∷ []) (32768 ∷ 16384 ∷ 1 ∷ 16384 ∷ 2 ∷ 1 ∷ 2 ∷ 65536 ∷ [])))
    (λ c. Gives c 2 314573312 (m 1 ∷ p 0 ∷ p 1 ∷ p 0 ∷ []))
    (λ c. Gives c 2 314573312 (m 1 ∷ p 0 ∷ p 0 ∷ p 1 ∷ []))
    -- m - 1 before m
    × Both
    (λ mode. asked mode (p 8 ∷ m 24 ∷ p 20 ∷ p 7 ∷ []) 1 Y (at 4 (parts 4)) false false
    (tables (65536 ∷ 8192 ∷ 2 ∷ 1 ∷ 8192 ∷ 16384 ∷ 65536 ∷ 1 ∷ []) (16384 ∷ 8192 ∷ 8192 ∷ 32768 ∷ 32768 ∷ 2 ∷ 8192 ∷ 2
    ∷ []) (2 ∷ 8192 ∷ 8192 ∷ 1 ∷ []) (0 ∷ 8192 ∷ 65536 ∷ 16384 ∷ 1 ∷ 32768 ∷ 8192 ∷ 65536 ∷ [])))
    (λ c. Gives c 2 51347472 (p 0 ∷ m 2 ∷ p 1 ∷ p 0 ∷ []))
    (λ c. Gives c 2 51347472 (p 0 ∷ m 1 ∷ p 1 ∷ p 0 ∷ []))
    -- ending before going on
    × Both
    (λ mode. asked mode (p 8 ∷ m 16 ∷ m 40 ∷ p 8 ∷ []) 1 «V» (at 4 (parts 0)) true false
    (tables (1 ∷ 0 ∷ 32768 ∷ 0 ∷ 8192 ∷ 1 ∷ 16384 ∷ 65536 ∷ []) (0 ∷ 0 ∷ 8192 ∷ 8192 ∷ 16384 ∷ 32768 ∷ 32768 ∷ 0 ∷ [])
    (0 ∷ 32768 ∷ 65536 ∷ 8192 ∷ []) (32768 ∷ 8192 ∷ 0 ∷ 65536 ∷ 2 ∷ 32768 ∷ 2 ∷ 16384 ∷ [])))
    (λ c. Gives c 2 50331648 (p 0 ∷ m 1 ∷ m 3 ∷ p 0 ∷ []))
    (λ c. Gives c 2 50331648 (p 0 ∷ m 1 ∷ m 2 ∷ p 0 ∷ []))
    -- the quick skip goes first in both
    × Both (λ mode. asked mode (p 9 ∷ p 0 ∷ p 0 ∷ p 0 ∷ []) 1 Y (at 4 usual) true true (flat 32768))
    (λ c. Gives c 0 22282240 (p 0 ∷ p 0 ∷ p 0 ∷ p 0 ∷ []))
    (λ c. Gives c 0 22282240 (p 0 ∷ p 0 ∷ p 0 ∷ p 0 ∷ []))
unfolding called quant_answer quant_buffer
least = (
  ((refl, refl), (refl, refl)),
  ((refl, refl), (refl, refl)),
  ((refl, refl), (refl, refl)),
  ((refl, refl), (refl, refl)),
  ((refl, refl), (refl, refl)),
)

-- several faults at once: the first of the list decides, and names the component where it belongs to one
pub order :
    -- 1 before all others
    Refuses (walks (m 32768 ∷ []) 0 U (at 64 nan) true true (flat 1048577)) 1 0
    × Refuses (walks (m 32768 ∷ []) 6 U (at 64 nan) true true (flat 1048577)) 1 0
    -- 2 before 3, 4, 5 and 6
    × Refuses (walks (m 32768 ∷ []) 1 U (at 64 nan) true true (flat 1048577)) 2 1
    -- 3 before 4, 5 and 6
    × Refuses (walks (m 32768 ∷ []) 1 «V» (at 63 nan) true true (flat 1048577)) 3 2
    -- 4 before 5 and 6
    × Refuses (walks (m 32768 ∷ []) 1 U (at 63 usual) true true (flat 1048577)) 4 0
    -- 5 before 6
    × Refuses (walks (m 32768 ∷ p 0 ∷ p 0 ∷ []) 1 U (at 63 usual) true true (flat 1048576)) 5 0
    -- 6, which holds also of a block that would be skipped, and not in the surplus
    × Refuses (walks (m 32768 ∷ p 0 ∷ p 0 ∷ p 0 ∷ []) 1 U (at 63 usual) true true (flat 1048576)) 6 1
    × Gives (walks (p 0 ∷ p 0 ∷ p 0 ∷ p 0 ∷ m 32768 ∷ []) 1 U (at 63 usual) true true (flat 1048576)) 0 33554432
    (p 0 ∷ p 0 ∷ p 0 ∷ p 0 ∷ m 32768 ∷ [])
unfolding called quant_answer quant_buffer
order = ((refl, refl), (refl, refl), (refl, refl), (refl, refl), (refl, refl), (refl, refl), (refl, refl), (refl, refl))
