-- A block taken in parts: a sum over both is the sum of the two sums, and what holds of each coefficient of a block
-- holds of those of its parts.
use mathlib.Core.Path.{◌≡◌, sym, ap, ◌∙◌}
use mathlib.Core.List.{List, [], ◌∷◌, ◌++◌}
use Prim.Native.Nat.{ℕ, zero, suc}
use native.Mathlib.Omega.{arith}
use lib.IntN.{ℤ}
use Rattle.integers.specs.Sum.{Addition, over}
use Rattle.integers.proofs.Sums.{Lawful}
use Rattle.coefficients.specs.Inner.Coefficients.{Within}

pub over_both : {A B : Type 0} {o : Addition B} → Lawful o → (f : A → B) (l m : List A)
    → over o f (l ++ m) ≡ o.plus (over o f l) (over o f m)
unfolding over
over_both {o = o} w f [] m = sym (w.idl (over o f m))
over_both {o = o} w f (x ∷ xs) m =
    ap (o.plus (f x)) (over_both w f xs m) ∙ sym (w.assoc (f x) (over o f xs) (over o f m))

pub within_front : (a : ℕ) (l m : List ℤ) → Within (l ++ m) a → Within l a
within_front a [] m h k = omega arith
within_front a (z ∷ zs) m h zero = h 0
within_front a (z ∷ zs) m h (suc k) = within_front a zs m (λ j. h (suc j)) k

pub within_back : (a : ℕ) (l m : List ℤ) → Within (l ++ m) a → Within m a
within_back a [] m h k = h k
within_back a (z ∷ zs) m h k = within_back a zs m (λ j. h (suc j)) k
