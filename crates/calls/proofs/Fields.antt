-- The fields of a verb, in a list that may be longer: an answer is by its verb's own fields alone, and those that cross
-- as numbers of 32 bits are short enough.
use mathlib.Core.Path.{◌≡◌, subst, ap}
use mathlib.Core.List.{List, [], ◌∷◌}
use Prim.Native.Nat.{ℕ, zero, suc, ◌+◌, ◌<◌}
use native.Mathlib.Nat.{suc-add}
use native.Mathlib.Omega.{arith}
use lib.IntN.{ℤ}
use lib.ListN.{length, get_or, take}
use lib.Seq.{get_or-take, take-take}
use Rattle.replies.specs.declared.Reply.{Reply}
use Rattle.verbs.specs.declared.Verb.{Verb}
use Rattle.verbs.specs.declared.Verb.TheVariants.{Transform, Quantise, SubBlock, ScaleBack, Inverse, Guarded, Measure}
use Rattle.verbs.specs.declared.Verb.TheVariants.{Write, Read}
use Rattle.replies.specs.Reply.{list_if}
use Rattle.requests.specs.Request.{kinds_of, has_list, Limited}
use Rattle.heights.specs.Call as heights
use Rattle.calls.specs.Calls.{costs_from, guarded_by, guarded_text, measure_by, measure_text, answered}
use Rattle.calls.specs.Inner.Replied.{Short, ShortHeights, Replied}

-- the costs are the last fields of a verb
costs_in_front : (i : ℕ) (f : List ℕ) → costs_from i (take (i + 28) f) ≡ costs_from i f
costs_in_front zero f = take-take 28 28 f (omega arith)
costs_in_front (suc i) [] = rw (suc-add i 28)
costs_in_front (suc i) (n ∷ f) = rw (suc-add i 28) (costs_in_front i f)

-- the calls of the guarded block and of `measure` are by them
guarded_own : (f : List ℕ) (samples : List ℤ) → guarded_by (take 43 f) samples ≡ guarded_by f samples
guarded_own f samples =
    let field : (i : ℕ) → i < 43 → get_or (take 43 f) i 0 ≡ get_or f i 0 = λ i h. get_or-take 43 f i 0 h in
    rw (
      field 0 (omega arith),
      field 1 (omega arith),
      field 2 (omega arith),
      field 3 (omega arith),
      field 4 (omega arith),
      field 5 (omega arith),
      field 6 (omega arith),
      field 7 (omega arith),
      field 8 (omega arith),
      field 9 (omega arith),
      field 10 (omega arith),
      field 11 (omega arith),
      field 12 (omega arith),
      field 13 (omega arith),
      field 14 (omega arith),
      costs_in_front 15 f,
    )

measure_own : (f : List ℕ) (samples : List ℤ) → measure_by (take 4 f) samples ≡ measure_by f samples
measure_own f samples =
    rw (get_or-take 4 f 0 0 (omega arith), get_or-take 4 f 1 0 (omega arith), get_or-take 4 f 3 0 (omega arith))

by_own_fields : (verb : Verb) (f list : List ℕ) (samples : List ℤ)
    → answered verb (take (length (kinds_of verb)) f) list samples ≡ answered verb f list samples
unfolding answered
by_own_fields Transform f list samples = rw (get_or-take 2 f 0 0 (omega arith), get_or-take 2 f 1 0 (omega arith))
by_own_fields Quantise f list samples =
    let field : (i : ℕ) → i < 33 → get_or (take 33 f) i 0 ≡ get_or f i 0 = λ i h. get_or-take 33 f i 0 h in
    rw (
      field 0 (omega arith),
      field 1 (omega arith),
      field 2 (omega arith),
      field 3 (omega arith),
      field 4 (omega arith),
      costs_in_front 5 f,
    )
by_own_fields SubBlock f list samples =
    let field : (i : ℕ) → i < 37 → get_or (take 37 f) i 0 ≡ get_or f i 0 = λ i h. get_or-take 37 f i 0 h in
    rw (
      field 0 (omega arith),
      field 1 (omega arith),
      field 2 (omega arith),
      field 3 (omega arith),
      field 4 (omega arith),
      field 5 (omega arith),
      field 6 (omega arith),
      field 7 (omega arith),
      field 8 (omega arith),
      costs_in_front 9 f,
    )
by_own_fields ScaleBack f list samples = rw (get_or-take 2 f 0 0 (omega arith), get_or-take 2 f 1 0 (omega arith))
by_own_fields Inverse f list samples = rw (get_or-take 2 f 0 0 (omega arith), get_or-take 2 f 1 0 (omega arith))
by_own_fields Guarded f list samples = ap guarded_text (guarded_own f samples)
by_own_fields Measure f list samples = ap (λ (m : heights.Measure). measure_text m samples) (measure_own f samples)
by_own_fields Write f list samples = rw (get_or-take 1 f 0 0 (omega arith))
by_own_fields Read f list samples = rw (get_or-take 1 f 0 0 (omega arith))

-- where the verb is known
module _ (v : Verb) (f : List ℕ) where
  pub by_verb : (w : Verb) → v ≡ w → (list : List ℕ) (samples before : List ℤ) (r : Reply) (left : List ℕ)
      (after : List ℤ)
      → Replied (answered w f list samples) before r (list_if (has_list w) left) after
      → Replied (answered v (take (length (kinds_of v)) f) list samples) before r (list_if (has_list v) left) after
  by_verb w e list samples before r left after h = rw (e, by_own_fields w f list samples) h

  -- the fields of kind `i`
  pub quantise_short : v ≡ Quantise → Limited (kinds_of v) f → Short f 2 × Short f 4
  quantise_short e h =
      let short = subst (λ (w : Verb). Limited (kinds_of w) f) e h in (short 2 (omega arith), short 4 (omega arith))

  pub sub_block_short : v ≡ SubBlock → Limited (kinds_of v) f
      → Short f 1 × Short f 2 × Short f 4 × Short f 6 × Short f 8
  sub_block_short e h =
      let short = subst (λ (w : Verb). Limited (kinds_of w) f) e h in (
        short 1 (omega arith),
        short 2 (omega arith),
        short 4 (omega arith),
        short 6 (omega arith),
        short 8 (omega arith),
      )

  pub scale_back_short : v ≡ ScaleBack → Limited (kinds_of v) f → Short f 1
  scale_back_short e h = subst (λ (w : Verb). Limited (kinds_of w) f) e h 1 (omega arith)

  pub guarded_short : v ≡ Guarded → Limited (kinds_of v) f
      → Short f 1 × Short f 2 × Short f 4 × Short f 6 × Short f 8 × ShortHeights f
  guarded_short e h =
      let short = subst (λ (w : Verb). Limited (kinds_of w) f) e h in (
        short 1 (omega arith),
        short 2 (omega arith),
        short 4 (omega arith),
        short 6 (omega arith),
        short 8 (omega arith),
        (
          short 9 (omega arith),
          short 10 (omega arith),
          short 11 (omega arith),
          short 12 (omega arith),
          short 13 (omega arith),
          short 14 (omega arith),
        ),
      )

  pub measure_short : v ≡ Measure → Limited (kinds_of v) f → Short f 1 × Short f 2
  measure_short e h =
      let short = subst (λ (w : Verb). Limited (kinds_of w) f) e h in (short 1 (omega arith), short 2 (omega arith))
