-- The loop over the lines of a list, as a law over the side N = 2^l: what a turn asks of its line, and that with it one
-- line more stands in its column. Each loop over lines is these laws at its own l; f is what it makes of each sum.
use mathlib.Core.Path.{◌≡◌, refl, sym, ◌∙◌, ap, subst}
use mathlib.Core.List.{List}
use Prim.Native.Nat.{ℕ, ◌+◌, ◌*◌, ◌^◌, ◌<◌, ◌≤◌}
use native.Mathlib.Omega.{arith}
use lib.ListN.{length}
use lib.IntN.{ℤ}
use Rattle.tables.specs.Matrix.{Matrices}
use Rattle.butterfly.specs.Inner.Lines.{line_at, Room}
use Rattle.columns.specs.Inner.Placed.{Placed}
use Rattle.stages.specs.Inner.Stages.{stage_at, Staged}
use Rattle.stages.proofs.Columns.{line, line_is, line_length, line_room, columns_more, own_column}

module _ (l N : ℕ) (side : N ≡ 2 ^ l) (src : List ℤ) (j : ℕ) where
  -- line j has the room of its list
  pub line_asks : j * N + N ≤ length src → Room l src → (length (line N src j) ≡ 2 ^ l) × Room l (line N src j)
  line_asks ends room = (line_length N src j ends ∙ side, line_room N src j ends l room)

  -- line j goes down its column: r is what is stored
  pub staged_more : (M : Matrices) (f : ℤ → ℤ) (lines : ℕ) (old new : List ℤ) (r : ℕ → ℤ) → j < lines
      → ((k : ℕ) → k < 2 ^ l → r k ≡ f (line_at M (2 ^ l) (line N src j) k)) → Placed lines j (2 ^ l) r old new
      → Staged M f l lines src old j → Staged M f l lines src new (j + 1)
  staged_more M f lines old new r hj holds =
      columns_more (λ j k. f (stage_at M (2 ^ l) src j k)) (2 ^ l) lines (λ j. j) old new j r (own_column lines j hj)
      (λ k h.
      holds k h
      ∙ ap f (subst (λ (m : ℕ). line_at M (2 ^ l) (line m src j) k ≡ stage_at M (2 ^ l) src j k) (sym side)
      (line_is (2 ^ l) src j M k)))

module _ (M : Matrices) (f : ℤ → ℤ) (l lines : ℕ) (src first : List ℤ) where
  -- the first j lines stand in their columns of a list as long as the first one
  abbrev pub Passed : List ℤ → ℕ → Type 0
  Passed dst j = (j ≤ lines) × (length dst ≡ length first) × Staged M f l lines src dst j

  -- line j goes down its column: r is what is stored
  pub passed_more : (old new : List ℤ) (r : ℕ → ℤ) (j : ℕ) → j < lines → length new ≡ length old
      → ((k : ℕ) → k < 2 ^ l → r k ≡ f (line_at M (2 ^ l) (line (2 ^ l) src j) k))
      → Placed lines j (2 ^ l) r old new
      → Passed old j → Passed new (j + 1)
  passed_more old new r j hj ln holds placed was = (
    omega arith,
    ln ∙ was.1,
    staged_more l (2 ^ l) refl src j M f lines old new r hj holds placed was.2,
  )
