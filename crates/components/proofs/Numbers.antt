-- The three-component call with some and with all components run, and the order of its faults, computed over the
-- definitions of the call. The accepted answers were worked out by a program that shares nothing with these
-- definitions.
use mathlib.Core.Path.{◌≡◌, refl}
use mathlib.Core.Bool.{Bool, true}
use mathlib.Core.List.{List, [], ◌∷◌, ◌++◌}
use Prim.Native.Nat.{ℕ}
use lib.ListN.{replicate}
use lib.IntN.{ℤ}
use lib.Ieee.{nan}
use Rattle.price.specs.declared.Costs.{Costs}
use Rattle.price.specs.declared.Settings.{Settings}
use Rattle.refusals.specs.Faults.{refused}
use Rattle.coding.specs.declared.Coded.{Coded}
use Rattle.coding.specs.declared.Mode.{Mode}
use Rattle.coding.specs.declared.Mode.TheVariants.{Walk}
use Rattle.coding.proofs.Numbers.{p, m, parts, at, tables, flat, usual}
use Rattle.components.specs.Call.{SubBlock, requested, coded, sub_block_answer}
use Rattle.components.specs.Call.{sub_block_buffer}

-- a call by its inputs one by one, and document 01's, which walks
abbrev pub asked : Mode → List ℤ → ℕ → (y u v : Settings) → ℕ → Bool → Bool → Costs → SubBlock
asked mode buffer l y u v run intra_slice intra_coded t =
    requested buffer t (record {
      log2_luma = l;
      settings = record { y = y; u = u; v = v };
      run = run;
      intra_slice = intra_slice;
      intra_coded = intra_coded;
      mode = mode;
    })

abbrev walks : List ℤ → ℕ → (y u v : Settings) → ℕ → Bool → Bool → Costs → SubBlock
walks = asked Walk

-- ---- three components, luma 4×4
abbrev of : ℕ → ℕ → Coded
of count price = record { count = count; price = price }

abbrev none : Coded
none = of 0 0

abbrev costs : Costs
costs =
    tables
    (65536 ∷ 32768 ∷ 16384 ∷ 65536 ∷ 65536 ∷ 16384 ∷ 8192 ∷ 2 ∷ [])
    (1 ∷ 2 ∷ 0 ∷ 8192 ∷ 65536 ∷ 16384 ∷ 65536 ∷ 8192 ∷ [])
    (0 ∷ 0 ∷ 32768 ∷ 1 ∷ [])
    (16384 ∷ 1 ∷ 65536 ∷ 32768 ∷ 0 ∷ 0 ∷ 16384 ∷ 16384 ∷ [])

-- residuals of Y, U and V, and a surplus; and the levels of the three
abbrev ry : List ℤ
ry = m 30 ∷ p 15 ∷ p 9 ∷ m 44 ∷ m 13 ∷ p 57 ∷ p 17 ∷ p 0 ∷ p 20 ∷ p 14 ∷ m 52 ∷ p 17 ∷ m 59 ∷ p 56 ∷ p 47 ∷ p 0 ∷ []

abbrev ru : List ℤ
ru = m 27 ∷ p 10 ∷ m 31 ∷ m 36 ∷ []

abbrev rv : List ℤ
rv = p 31 ∷ p 0 ∷ p 9 ∷ p 47 ∷ []

abbrev behind : List ℤ
behind = p 7 ∷ m 2000 ∷ []

abbrev ly : List ℤ
ly = p 2 ∷ p 0 ∷ m 8 ∷ m 6 ∷ m 3 ∷ p 3 ∷ p 0 ∷ p 2 ∷ m 2 ∷ m 3 ∷ m 8 ∷ p 3 ∷ m 4 ∷ p 3 ∷ p 8 ∷ p 0 ∷ []

abbrev lu : List ℤ
lu = m 10 ∷ m 4 ∷ p 6 ∷ m 5 ∷ []

abbrev lv : List ℤ
lv = p 22 ∷ m 2 ∷ m 6 ∷ p 17 ∷ []

abbrev run : ℕ → SubBlock
run mask = walks (ry ++ (ru ++ (rv ++ behind))) 2 (at 22 (parts 4)) (at 16 (parts 32)) (at 10 (parts 1)) mask true true
    costs

abbrev Gives : SubBlock → (y u v : Coded) → List ℤ → Type 0
Gives s y u v after = (sub_block_answer s ≡ coded y u v) × (sub_block_buffer s ≡ after)

-- each stretch is transformed and quantised as its component; one not run keeps its residuals; bits above 2 mean
-- nothing
pub components :
    Gives (run 7) (of 13 3656155240) (of 4 433324064) (of 4 68263937) (ly ++ (lu ++ (lv ++ behind)))
    × Gives (run 5) (of 13 3656155240) none (of 4 68263937) (ly ++ (ru ++ (lv ++ behind)))
    × Gives (run 2) none (of 4 433324064) none (ry ++ (lu ++ (rv ++ behind)))
    × Gives (run 0) none none none (ry ++ (ru ++ (rv ++ behind)))
    × Gives (run 13) (of 13 3656155240) none (of 4 68263937) (ly ++ (ru ++ (lv ++ behind)))
unfolding requested sub_block_answer sub_block_buffer
components = ((refl, refl), (refl, refl), (refl, refl), (refl, refl), (refl, refl))

-- ---- the order of the faults
-- a buffer of n residuals, and the three components' settings
abbrev faulty : ℕ → List ℤ → (y u v : Settings) → ℕ → Costs → SubBlock
faulty l buffer y u v mask t = walks buffer l y u v mask true true t

-- a residual of 1024 throughout Y, U or V, and 0 elsewhere
abbrev bad : (y u v : ℤ) → List ℤ
bad y u v = replicate 16 y ++ (replicate 4 u ++ replicate 4 v)

abbrev good : Settings
good = at 63 usual

abbrev high : Settings
high = at 64 nan

abbrev unweighed : Settings
unweighed = at 63 nan

abbrev Refuses : SubBlock → ℕ → ℕ → Type 0
Refuses s number component = (sub_block_answer s ≡ refused number component) × (sub_block_buffer s ≡ s.buffer)

abbrev wild : List ℤ
wild = bad (p 1024) (p 1024) (p 1024)

pub order :
    -- 1 before all others
    Refuses (faulty 1 (p 1024 ∷ []) high high high 7 (flat 1048577)) 1 0
    × Refuses (faulty 6 (p 1024 ∷ []) high high high 7 (flat 1048577)) 1 0
    -- 2 for Y, U, V, before 3 of any, and only of what is run
    × Refuses (faulty 2 (p 1024 ∷ []) high high high 7 (flat 1048577)) 2 0
    × Refuses (faulty 2 (p 1024 ∷ []) unweighed high high 7 (flat 1048577)) 2 1
    × Refuses (faulty 2 (p 1024 ∷ []) unweighed high high 5 (flat 1048577)) 2 2
    -- 3 for Y, U, V, before 4
    × Refuses (faulty 2 (p 1024 ∷ []) unweighed unweighed unweighed 7 (flat 1048577)) 3 0
    × Refuses (faulty 2 (p 1024 ∷ []) high unweighed unweighed 6 (flat 1048577)) 3 1
    × Refuses (faulty 2 (p 1024 ∷ []) high high unweighed 4 (flat 1048577)) 3 2
    -- 4 before 5, also when nothing runs
    × Refuses (faulty 2 (p 1024 ∷ []) high high high 0 (flat 1048577)) 4 0
    -- 5 before 6, also when nothing runs
    × Refuses (faulty 2 (replicate 23 (p 1024)) good good good 7 (flat 1048576)) 5 0
    × Refuses (faulty 2 (replicate 23 (p 1024)) high high high 8 (flat 1048576)) 5 0
    -- 6 for Y, U, V, and only of what is run
    × Refuses (faulty 2 wild good good good 7 (flat 1048576)) 6 0
    × Refuses (faulty 2 (bad (p 0) (m 1024) (p 1024)) good good good 7 (flat 1048576)) 6 1
    × Refuses (faulty 2 wild high high good 4 (flat 1048576)) 6 2
    × Gives (faulty 2 wild high high high 248 (flat 1048576)) none none none wild
unfolding requested sub_block_answer sub_block_buffer
order = (
  (refl, refl),
  (refl, refl),
  (refl, refl),
  (refl, refl),
  (refl, refl),
  (refl, refl),
  (refl, refl),
  (refl, refl),
  (refl, refl),
  (refl, refl),
  (refl, refl),
  (refl, refl),
  (refl, refl),
  (refl, refl),
  (refl, refl),
)
