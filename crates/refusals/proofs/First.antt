-- The law of the refusals: the verdict is the first fault that holds, and a call without a fault is accepted. Both ways
-- round, so that a verdict and a list of faults say the same. Two calls with the same faults have one verdict. And what
-- an answer says of the verdict that it came with.
-- Assumes nothing.
use mathlib.Core.Path.{◌≡◌, refl}
use mathlib.Core.Bool.{Bool, true, false, cond, ◌&&◌}
use mathlib.Core.List.{List, [], ◌∷◌, ◌++◌}
use Prim.Native.Nat.{ℕ, ◌≤◌}
use native.Mathlib.Omega.{arith}
use lib.Dec.{leb}
use borrow.Author.Tests.{leb-true, not-false}
use Rattle.integers.proofs.Tests.{both}
use Rattle.refusals.specs.Numbers.{number_of, component_of}
use Rattle.refusals.specs.Faults.{Fault, Outcome, accepted, refused, passed, verdict, answering}
use Rattle.refusals.specs.Faults.{outside}

-- f stands in the list behind faults of which none holds
pub data First {I : Type 0} (i : I) (f : Fault I) : List (Fault I) → Type 0 where
  here : {fs : List (Fault I)} → f.holds i ≡ true → First i f (f ∷ fs)
  later : {g : Fault I} {fs : List (Fault I)} → g.holds i ≡ false → First i f fs → First i f (g ∷ fs)

-- none of the list holds
pub data None {I : Type 0} (i : I) : List (Fault I) → Type 0 where
  end : None i []
  but : {f : Fault I} {fs : List (Fault I)} → f.holds i ≡ false → None i fs → None i (f ∷ fs)

module _ {I : Type 0} (i : I) where
  pub refused_with_the_first : {f : Fault I} (fs : List (Fault I)) → First i f fs
      → verdict fs i ≡ refused (number_of f.refusal) (component_of (f.component i))
  unfolding verdict
  refused_with_the_first {f = f} [] r = elim r [ ]
  refused_with_the_first (g ∷ fs) (here h) = rw h
  refused_with_the_first (g ∷ fs) (later h r) = rw h (refused_with_the_first fs r)

  pub accepted_without_a_fault : (fs : List (Fault I)) → None i fs → verdict fs i ≡ passed
  unfolding verdict
  accepted_without_a_fault [] end = refl
  accepted_without_a_fault (f ∷ fs) (but h r) = rw h (accepted_without_a_fault fs r)

  -- ---- and back
  pub no_fault_if_accepted : (fs : List (Fault I)) → verdict fs i ≡ passed → None i fs
  unfolding verdict
  no_fault_if_accepted [] e = end
  no_fault_if_accepted (f ∷ fs) e = split (f.holds i) refl e (no_fault_if_accepted fs)
    where
      split : (t : Bool) → f.holds i ≡ t
          → cond t (refused (number_of f.refusal) (component_of (f.component i))) (verdict fs i) ≡ passed
          → (verdict fs i ≡ passed → None i fs) → None i (f ∷ fs)
      split true h q rest = absurd (let z : ◌≡◌ {A = ℕ} 0 1 = cc in let no : ⊥ = omega arith in no)
      split false h q rest = but h (rest q)

  -- the fault that a refusal comes from
  pub record Came (number component : ℕ) (fs : List (Fault I)) : Type 0 where
    pub fault : Fault I
    pub first : First i fault fs
    pub its_number : number_of fault.refusal ≡ number
    pub its_component : component_of (fault.component i) ≡ component

  pub first_fault_if_refused : (fs : List (Fault I)) (n c : ℕ) → verdict fs i ≡ refused n c → Came n c fs
  unfolding verdict
  first_fault_if_refused [] n c e = absurd (let z : ◌≡◌ {A = ℕ} 0 1 = cc in let no : ⊥ = omega arith in no)
  first_fault_if_refused (f ∷ fs) n c e = split (f.holds i) refl e (first_fault_if_refused fs n c)
    where
      split : (t : Bool) → f.holds i ≡ t
          → cond t (refused (number_of f.refusal) (component_of (f.component i))) (verdict fs i) ≡ refused n c
          → (verdict fs i ≡ refused n c → Came n c fs) → Came n c (f ∷ fs)
      split true h q rest = record { fault = f; first = here h; its_number = cc; its_component = cc }
      split false h q rest =
          let r = rest q in
          record {
            fault = r.fault;
            first = later h r.first;
            its_number = r.its_number;
            its_component = r.its_component;
          }

  -- a list without a fault, taken apart
  pub head_fails : {f : Fault I} {fs : List (Fault I)} → None i (f ∷ fs) → f.holds i ≡ false
  head_fails (but h r) = h

  pub rest_fails : {f : Fault I} {fs : List (Fault I)} → None i (f ∷ fs) → None i fs
  rest_fails (but h r) = r

-- what is not outside lo..hi
pub inside : (lo hi n : ℕ) → outside lo hi n ≡ false → (lo ≤ n) × (n ≤ hi)
inside lo hi n e =
    let b = both (leb lo n) (leb n hi) (not-false (leb lo n && leb n hi) e) in
    (leb-true lo n b.0, leb-true n hi b.1)

-- ---- two lists one after the other
-- the first verdict if it is a refusal, else the second
abbrev pub or_else : Outcome Unit → Outcome Unit → Outcome Unit
or_else (accepted u) v = v
or_else (refused n c) v = refused n c

-- accepted only if both are
pub both_accepted : (x y : Outcome Unit) → or_else x y ≡ passed → (x ≡ passed) × (y ≡ passed)
both_accepted (accepted u) y e = (refl, e)
both_accepted (refused n c) y e = absurd (let z : ◌≡◌ {A = ℕ} 0 1 = cc in let no : ⊥ = omega arith in no)

module _ {I : Type 0} (i : I) where
  pub verdict_append : (fs gs : List (Fault I)) → verdict (fs ++ gs) i ≡ or_else (verdict fs i) (verdict gs i)
  unfolding verdict
  verdict_append [] gs = refl
  verdict_append (f ∷ fs) gs = split (f.holds i) (verdict_append fs gs)
    where
      split : (t : Bool) → verdict (fs ++ gs) i ≡ or_else (verdict fs i) (verdict gs i)
          → cond t (refused (number_of f.refusal) (component_of (f.component i))) (verdict (fs ++ gs) i)
          ≡ or_else (cond t (refused (number_of f.refusal) (component_of (f.component i))) (verdict fs i))
          (verdict gs i)
      split true e = refl
      split false e = e

-- two calls of which the same faults hold, for the same components, have one verdict
pub data Alike {I : Type 0} (i j : I) : List (Fault I) → Type 0 where
  all : Alike i j []
  next : {f : Fault I} {fs : List (Fault I)} → f.holds i ≡ f.holds j → f.component i ≡ f.component j → Alike i j fs
      → Alike i j (f ∷ fs)

pub same_verdict : {I : Type 0} (i j : I) (fs : List (Fault I)) → Alike i j fs → verdict fs i ≡ verdict fs j
unfolding verdict
same_verdict i j [] all = refl
same_verdict i j (f ∷ fs) (next h c a) = rw (h, c, same_verdict i j fs a)

-- ---- a verdict with its answer
module _ {A : Type 0} (a : A) where
  pub refusing_verdict : (v : Outcome Unit) (n c : ℕ) → answering v a ≡ refused n c → v ≡ refused n c
  refusing_verdict (accepted u) n c e = absurd (let z : ◌≡◌ {A = ℕ} 0 1 = cc in let no : ⊥ = omega arith in no)
  refusing_verdict (refused m d) n c e = cc

  pub refusing_answer : (v : Outcome Unit) (n c : ℕ) → v ≡ refused n c → answering v a ≡ refused n c
  refusing_answer v n c e = rw e

  pub answer_given : (v : Outcome Unit) (b : A) → answering v a ≡ accepted b → a ≡ b
  answer_given (accepted u) b e = cc
  answer_given (refused n c) b e = absurd (let z : ◌≡◌ {A = ℕ} 0 1 = cc in let no : ⊥ = omega arith in no)

  pub accepting_verdict : (v : Outcome Unit) (b : A) → answering v a ≡ accepted b → v ≡ passed
  accepting_verdict (accepted u) b e = refl
  accepting_verdict (refused n c) b e = absurd (let z : ◌≡◌ {A = ℕ} 0 1 = cc in let no : ⊥ = omega arith in no)
