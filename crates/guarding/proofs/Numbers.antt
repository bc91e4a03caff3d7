-- The guarded call where the block that the mode writes fits, where it does not and the first candidate that does is
-- written, of a skipped block too, and where none fits; and the order of its faults, computed over the definitions of
-- the call. The accepted answers were worked out by programs that share nothing with these definitions.
use mathlib.Core.Path.{◌≡◌, refl}
use mathlib.Core.Bool.{true}
use mathlib.Core.List.{List, [], ◌∷◌, ◌++◌}
use Prim.Native.Nat.{ℕ}
use lib.ListN.{replicate}
use lib.IntN.{ℤ}
use Rattle.price.specs.declared.Costs.{Costs}
use Rattle.price.specs.declared.Settings.{Settings}
use Rattle.refusals.specs.Faults.{refused}
use Rattle.coding.specs.declared.Mode.TheVariants.{Walk}
use Rattle.coding.proofs.Numbers.{p, m, parts, at, tables, flat}
use Rattle.heights.specs.declared.Heights.{Heights}
use Rattle.refusals.specs.declared.Three.{Three}
use Rattle.guarding.specs.declared.Guarded.{Guarded}
use Rattle.guarding.specs.Call.{GuardedBlock, guarded_request, coded, nothing, guarded_answer, guarded_buffer}

-- a call by its inputs one by one
abbrev walks : List ℤ → ℕ → (y u v : Settings) → ℕ → Costs → Three Heights → GuardedBlock
walks buffer l y u v run t h =
    guarded_request buffer t (record {
      log2_luma = l;
      settings = record { y = y; u = u; v = v };
      run = run;
      intra_slice = true;
      intra_coded = true;
      mode = Walk;
    }) h

abbrev up_to : (darker lighter : ℕ) → Heights
up_to darker lighter = record { darker = darker; lighter = lighter }

abbrev three : (y u v : Heights) → Three Heights
three y u v = record { y = y; u = u; v = v }

-- no sample may be off, and each may be off as far as it can be
abbrev exact : Heights
exact = up_to 0 0

abbrev tall : Heights
tall = up_to 33791 33791

abbrev of : (count price darker lighter : ℕ) → Guarded
of count price darker lighter = record { count = count; price = price; darker = darker; lighter = lighter }

abbrev Gives : GuardedBlock → (y u v : Guarded) → List ℤ → Type 0
Gives g y u v after = (guarded_answer g ≡ coded y u v) × (guarded_buffer g ≡ after)

abbrev Refuses : GuardedBlock → ℕ → ℕ → Type 0
Refuses g number component = (guarded_answer g ≡ refused number component) × (guarded_buffer g ≡ g.call.buffer)

-- ---- luma 4×4
abbrev costs : Costs
costs =
    tables
    (65536 ∷ 32768 ∷ 16384 ∷ 65536 ∷ 65536 ∷ 16384 ∷ 8192 ∷ 2 ∷ [])
    (1 ∷ 2 ∷ 0 ∷ 8192 ∷ 65536 ∷ 16384 ∷ 65536 ∷ 8192 ∷ [])
    (0 ∷ 0 ∷ 32768 ∷ 1 ∷ [])
    (16384 ∷ 1 ∷ 65536 ∷ 32768 ∷ 0 ∷ 0 ∷ 16384 ∷ 16384 ∷ [])

-- residuals of Y, U and V
abbrev ry : List ℤ
ry = p 6 ∷ (replicate 14 (p 0) ++ (m 22 ∷ []))

abbrev ru : List ℤ
ru = m 27 ∷ p 10 ∷ m 31 ∷ m 36 ∷ []

abbrev rv : List ℤ
rv = p 31 ∷ p 0 ∷ p 9 ∷ p 47 ∷ []

abbrev run : ℕ → Three Heights → GuardedBlock
run mask = walks (ry ++ (ru ++ rv)) 2 (at 22 (parts 4096)) (at 16 (parts 32)) (at 10 (parts 1)) mask costs

-- luma's levels by rows: with none, 1, 4 and 8 places put back
abbrev ly0 : List ℤ
ly0 = p 0 ∷ p 1 ∷ p 0 ∷ p 0 ∷ p 1 ∷ m 1 ∷ p 1 ∷ p 0 ∷ p 0 ∷ p 1 ∷ replicate 6 (p 0)

abbrev ly1 : List ℤ
ly1 = m 1 ∷ p 1 ∷ p 0 ∷ p 0 ∷ p 1 ∷ m 1 ∷ p 1 ∷ p 0 ∷ p 0 ∷ p 1 ∷ replicate 6 (p 0)

abbrev ly4 : List ℤ
ly4 = m 1 ∷ p 1 ∷ p 0 ∷ p 0 ∷ p 1 ∷ m 1 ∷ p 1 ∷ p 0 ∷ m 1 ∷ p 1 ∷ replicate 6 (p 0)

abbrev ly8 : List ℤ
ly8 = m 1 ∷ p 1 ∷ m 1 ∷ p 0 ∷ p 1 ∷ m 1 ∷ p 1 ∷ p 0 ∷ m 1 ∷ p 1 ∷ replicate 6 (p 0)

-- U's with 1 put back, and V's, where the mode's block is the plainly rounded one
abbrev lu : List ℤ
lu = m 11 ∷ m 4 ∷ p 6 ∷ m 5 ∷ []

abbrev lv : List ℤ
lv = p 22 ∷ m 2 ∷ m 6 ∷ p 17 ∷ []

-- a block that is skipped, though one m is 1
abbrev faint : Three Heights → GuardedBlock
faint = walks (replicate 16 (m 2) ++ (ru ++ rv)) 2 (at 27 (parts 4096)) (at 16 (parts 32)) (at 10 (parts 1)) 1 costs

-- what is written is the first that fits; each component has its own heights, and one not run asks for none
pub repaired :
    Gives (run 1 (three (up_to 4 8) exact exact)) (of 5 12258922496 4 8) nothing nothing (ly0 ++ (ru ++ rv))
    × Gives (run 1 (three (up_to 6 6) exact exact)) (of 6 12728688640 6 6) nothing nothing (ly1 ++ (ru ++ rv))
    × Gives (run 1 (three (up_to 8 4) exact exact)) (of 7 13198454784 8 4) nothing nothing (ly4 ++ (ru ++ rv))
    × Gives (run 1 (three (up_to 8 3) exact exact)) (of 8 13332676608 6 3) nothing nothing (ly8 ++ (ru ++ rv))
    × Gives (run 7 (three (up_to 6 7) (up_to 2 1) (up_to 0 1)))
    (of 6 12728688640 6 6) (of 4 433586208 2 0) (of 4 68263937 0 1) (ly1 ++ (lu ++ lv))
    × Gives (faint (three (up_to 0 2) exact exact)) (of 0 4563271681 0 2) nothing nothing
    (replicate 16 (p 0) ++ (ru ++ rv))
    × Gives (faint (three (up_to 2 1) exact exact)) (of 1 3158417409 2 0) nothing nothing
    (m 1 ∷ (replicate 15 (p 0) ++ (ru ++ rv)))
unfolding guarded_request guarded_answer guarded_buffer
repaired = ((refl, refl), (refl, refl), (refl, refl), (refl, refl), (refl, refl), (refl, refl), (refl, refl))

-- ---- the order of the faults
-- Y and V as above, and a residual of V that 6 refuses
abbrev wild : Three Heights → GuardedBlock
wild =
    walks (ry ++ (ru ++ (p 31 ∷ p 0 ∷ p 9 ∷ p 1024 ∷ []))) 2 (at 22 (parts 4096)) (at 16 (parts 32)) (at 10 (parts 1)) 7
    costs

-- luma 8×8 that 8 refuses, and whose plainly rounded block is off
abbrev dear : Three Heights → GuardedBlock
dear =
    walks (replicate 41 (p 1023) ++ (replicate 23 (p 1000) ++ replicate 32 (p 0))) 3 (at 3 (parts 268435456))
    (at 3 (parts 1)) (at 3 (parts 1)) 1 (flat 1048576)

pub order :
    -- 6 of V before 15 of Y
    Refuses (wild (three exact exact exact)) 6 2
    -- 8 of Y before 15 of Y
    × Refuses (dear (three exact exact exact)) 8 0
    -- 15 for Y, U, V, each by its own heights, and only of what is run
    × Refuses (run 7 (three exact exact exact)) 15 0
    × Refuses (run 7 (three tall exact exact)) 15 1
    × Refuses (run 7 (three tall tall exact)) 15 2
    × Refuses (run 6 (three exact tall exact)) 15 2
    -- the first candidate is too light, all others too dark; and both of V are 1 too light
    × Refuses (run 1 (three (up_to 5 7) tall tall)) 15 0
    × Refuses (run 4 (three tall tall (up_to 33791 0))) 15 2
unfolding guarded_request guarded_answer guarded_buffer
order = (
  (refl, refl),
  (refl, refl),
  (refl, refl),
  (refl, refl),
  (refl, refl),
  (refl, refl),
  (refl, refl),
  (refl, refl),
)
