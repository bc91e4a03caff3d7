-- Words compared byte by byte, and that a verb is read from its word and from no other.
use mathlib.Core.Path.{◌≡◌, refl, sym, ap, ◌∙◌}
use mathlib.Core.Bool.{Bool, true, false, cond, ◌&&◌, true≢false}
use mathlib.Core.List.{List, [], ◌∷◌}
use Prim.Native.Nat.{ℕ}
use native.Mathlib.Omega.{arith}
use borrow.Author.Tests.{eq-eqb, eqb-true}
use lib.Dec.{eqb}
use Rattle.std.specs.Cmp.Lexicographic.{pointwise}
use Rattle.std.specs.List.{find}
use Rattle.verbs.specs.declared.Verb.{Verb}
use Rattle.verbs.specs.declared.Verb.TheVariants.{Transform, Quantise, SubBlock, ScaleBack, Inverse}
use Rattle.verbs.specs.declared.Verb.TheVariants.{Guarded, Measure, Write, Read}
use Rattle.std.proofs.Common.{Some, None}
use Rattle.verbs.specs.Verbs.{word_of, same_bytes, verb_of}

-- ---- the same bytes
same_itself : (w : List ℕ) → same_bytes w w ≡ true
unfolding same_bytes
same_itself [] = refl
same_itself (b ∷ w) = rw (eq-eqb b b refl) (same_itself w)

same_bytes_lem : (w v : List ℕ) → same_bytes w v ≡ true → w ≡ v
unfolding same_bytes
same_bytes_lem [] [] e = refl
same_bytes_lem [] (c ∷ v) e = absurd (true≢false (sym e))
same_bytes_lem (b ∷ w) [] e = absurd (true≢false (sym e))
same_bytes_lem (b ∷ w) (c ∷ v) e = go (eqb b c) refl (same_bytes_lem w v) e
  where
    go : (t : Bool) → eqb b c ≡ t → (same_bytes w v ≡ true → w ≡ v) → (t && same_bytes w v) ≡ true → b ∷ w ≡ c ∷ v
    go true q rest p = let first = eqb-true b c q in let others = rest p in cc
    go false q rest p = absurd (true≢false (sym p))

-- `==` of std compares so too
pub same_pointwise : (w v : List ℕ) → pointwise eqb w v ≡ same_bytes w v
unfolding same_bytes
same_pointwise [] [] = refl
same_pointwise [] (c ∷ v) = refl
same_pointwise (b ∷ w) [] = refl
same_pointwise (b ∷ w) (c ∷ v) = ap (λ (r : Bool). eqb b c && r) (same_pointwise w v)

-- ---- verbs
abbrev pub verbs : List Verb
verbs = Transform ∷ Quantise ∷ SubBlock ∷ ScaleBack ∷ Inverse ∷ Guarded ∷ Measure ∷ Write ∷ Read ∷ []

-- the first verb whose word has the same bytes
pub first_found : (w : List ℕ) → find (λ v. pointwise eqb w (word_of v)) verbs ≡ verb_of w
unfolding verb_of
first_found w = simp (same_pointwise w)

pub read_back_lem : (v : Verb) → verb_of (word_of v) ≡ Some v
unfolding verb_of
read_back_lem Transform = refl
read_back_lem Quantise = refl
read_back_lem SubBlock = refl
read_back_lem ScaleBack = refl
read_back_lem Inverse = refl
read_back_lem Guarded = refl
read_back_lem Measure = refl
read_back_lem Write = refl
read_back_lem Read = refl

pub from_its_word : (w : List ℕ) (v : Verb) → verb_of w ≡ Some v → w ≡ word_of v
unfolding verb_of
from_its_word w v e =
    go (same_bytes w (word_of Transform)) (same_bytes w (word_of Quantise)) (same_bytes w (word_of SubBlock))
    (same_bytes w (word_of ScaleBack)) (same_bytes w (word_of Inverse)) (same_bytes w (word_of Guarded))
    (same_bytes w (word_of Measure)) (same_bytes w (word_of Write)) (same_bytes w (word_of Read))
    refl refl refl refl refl refl refl refl refl e
  where
    go : (a b c d f g h i j : Bool) → same_bytes w (word_of Transform) ≡ a → same_bytes w (word_of Quantise) ≡ b
        → same_bytes w (word_of SubBlock) ≡ c → same_bytes w (word_of ScaleBack) ≡ d → same_bytes w (word_of Inverse) ≡ f
        → same_bytes w (word_of Guarded) ≡ g → same_bytes w (word_of Measure) ≡ h → same_bytes w (word_of Write) ≡ i
        → same_bytes w (word_of Read) ≡ j
        → cond a (Some Transform)
        (cond b (Some Quantise)
        (cond c (Some SubBlock)
        (cond d (Some ScaleBack)
        (cond f (Some Inverse)
        (cond g (Some Guarded) (cond h (Some Measure) (cond i (Some Write) (cond j (Some Read) None)))))))) ≡ Some v
        → w ≡ word_of v
    go true b c d f g h i j p q r s t x y z u e =
        let is : Transform ≡ v = cc in same_bytes_lem w (word_of Transform) p ∙ ap word_of is
    go false true c d f g h i j p q r s t x y z u e =
        let is : Quantise ≡ v = cc in same_bytes_lem w (word_of Quantise) q ∙ ap word_of is
    go false false true d f g h i j p q r s t x y z u e =
        let is : SubBlock ≡ v = cc in same_bytes_lem w (word_of SubBlock) r ∙ ap word_of is
    go false false false true f g h i j p q r s t x y z u e =
        let is : ScaleBack ≡ v = cc in same_bytes_lem w (word_of ScaleBack) s ∙ ap word_of is
    go false false false false true g h i j p q r s t x y z u e =
        let is : Inverse ≡ v = cc in same_bytes_lem w (word_of Inverse) t ∙ ap word_of is
    go false false false false false true h i j p q r s t x y z u e =
        let is : Guarded ≡ v = cc in same_bytes_lem w (word_of Guarded) x ∙ ap word_of is
    go false false false false false false true i j p q r s t x y z u e =
        let is : Measure ≡ v = cc in same_bytes_lem w (word_of Measure) y ∙ ap word_of is
    go false false false false false false false true j p q r s t x y z u e =
        let is : Write ≡ v = cc in same_bytes_lem w (word_of Write) z ∙ ap word_of is
    go false false false false false false false false true p q r s t x y z u e =
        let is : Read ≡ v = cc in same_bytes_lem w (word_of Read) u ∙ ap word_of is
    go false false false false false false false false false p q r s t x y z u e =
        absurd (let no : ◌≡◌ {A = ℕ} 0 1 = cc in let none : ⊥ = omega arith in none)
