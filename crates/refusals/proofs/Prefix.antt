-- The law of the front of a fault list: where none of the faults of a front holds, the verdict of the whole is the
-- verdict of the rest; and where then the first of the rest holds, the verdict is its refusal. So code that tests one
-- fault after another shows at each test what that test adds, and nothing of the tests before it again.
-- Assumes nothing.
use mathlib.Core.Path.{◌≡◌, refl, ◌∙◌}
use mathlib.Core.Bool.{true, false}
use mathlib.Core.List.{List, [], ◌∷◌, ◌++◌}
use Rattle.refusals.specs.Numbers.{number_of, component_of}
use Rattle.refusals.specs.Faults.{Fault, passed, refused, verdict}
use Rattle.refusals.proofs.First.{First, here, later, None, end, but, refused_with_the_first}

-- of the list fs the faults before the rest are past: none of them holds
pub data Past {I : Type 0} (i : I) (fs : List (Fault I)) : List (Fault I) → Type 0 where
  untested : Past i fs fs
  past : {f : Fault I} {rest : List (Fault I)} → Past i fs (f ∷ rest) → f.holds i ≡ false → Past i fs rest

module _ {I : Type 0} {i : I} where
  pub verdict_past : {fs rest : List (Fault I)} → Past i fs rest → verdict fs i ≡ verdict rest i
  unfolding verdict
  verdict_past untested = refl
  verdict_past (past p h) = verdict_past p ∙ rw h

  pub accepted_past : {fs : List (Fault I)} → Past i fs [] → verdict fs i ≡ passed
  unfolding verdict
  accepted_past p = verdict_past p

  -- the first of the rest, where it holds, is the first of the whole
  pub first_past : {f : Fault I} {fs rest : List (Fault I)} → Past i fs rest → First i f rest → First i f fs
  first_past untested r = r
  first_past (past p h) r = first_past p (later h r)

  pub refused_past : {f : Fault I} {fs rest : List (Fault I)} → Past i fs (f ∷ rest) → f.holds i ≡ true
      → verdict fs i ≡ refused (number_of f.refusal) (component_of (f.component i))
  refused_past {fs = fs} p h = refused_with_the_first i fs (first_past p (here h))

  -- a front of which none holds is past
  pub past_front : {fs : List (Fault I)} (gs : List (Fault I)) → None i fs → Past i (fs ++ gs) gs
  past_front gs end = untested
  past_front gs (but h r) = behind (past untested h) (past_front gs r)
    where
      behind : {fs gs hs : List (Fault I)} → Past i fs gs → Past i gs hs → Past i fs hs
      behind p untested = p
      behind p (past q h) = past (behind p q) h
