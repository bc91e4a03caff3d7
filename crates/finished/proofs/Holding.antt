-- A number held at 2^62, as sums are made of it: what is held in between does not show in the sum, and below 2^62
-- nothing is held.
use mathlib.Core.Path.{◌≡◌, sym, ap, ◌∙◌}
use mathlib.Core.Logic.{⊎_elim}
use Prim.Native.Nat.{ℕ, ◌+◌, ◌^◌, ◌≤◌, ◌<◌, min}
use native.Mathlib.Omega.{arith}
use borrow.Author.Tests.{lt-ltb, le-ltb}
use Rattle.integers.proofs.Order.{below_or_not}
use Rattle.finished.specs.Inner.Finished.{held}

pub held_below : (x : ℕ) → x < 2 ^ 62 → held x ≡ x
unfolding held
held_below x h = rw (lt-ltb x (2 ^ 62) h)

pub held_from : (x : ℕ) → 2 ^ 62 ≤ x → held x ≡ 2 ^ 62
unfolding held
held_from x h = rw (le-ltb x (2 ^ 62) h)

pub held_min : (x : ℕ) → min x (2 ^ 62) ≡ held x
held_min x =
    ⊎_elim (λ (l : x < 2 ^ 62). let e : min x (2 ^ 62) ≡ x = omega arith in e ∙ sym (held_below x l))
    (λ (l : 2 ^ 62 ≤ x). let e : min x (2 ^ 62) ≡ 2 ^ 62 = omega arith in e ∙ sym (held_from x l))
    (below_or_not x (2 ^ 62))

pub held_again : (x : ℕ) → x ≤ 2 ^ 62 → held x ≡ x
held_again x h =
    ⊎_elim (λ (l : x < 2 ^ 62). held_below x l)
    (λ (l : 2 ^ 62 ≤ x). let e : 2 ^ 62 ≡ x = omega arith in held_from x l ∙ e) (below_or_not x (2 ^ 62))

-- what is seen below 2^62 is not held
pub held_exact : (x : ℕ) → held x < 2 ^ 62 → held x ≡ x
held_exact x h =
    ⊎_elim (λ (l : x < 2 ^ 62). held_below x l) (λ (l : 2 ^ 62 ≤ x). absurd (omega (arith, held_from x l)))
    (below_or_not x (2 ^ 62))

pub held_more : (a t : ℕ) → held (held a + t) ≡ held (a + t)
held_more a t =
    ⊎_elim (λ (l : a < 2 ^ 62). rw (held_below a l))
    (λ (l : 2 ^ 62 ≤ a).
    held_from (held a + t) (omega (arith, held_from a l)) ∙ sym (held_from (a + t) (omega arith)))
    (below_or_not a (2 ^ 62))

pub held_both : (a b : ℕ) → held (held a + held b) ≡ held (a + b)
held_both a b =
    held_more a (held b)
    ∙ ap held (let e : a + held b ≡ held b + a = omega arith in e)
    ∙ held_more b a
    ∙ ap held (let e : b + a ≡ a + b = omega arith in e)

-- one number more of a sum s: of w, which was left, the number is x, and u is left now
pub held_next : (s w x u y t : ℕ) → w ≡ x + u → y ≡ x → t ≡ held (s + y) → held (t + u) ≡ held (s + w)
held_next s w x u y t q p e =
    ap (λ (z : ℕ). held (z + u)) e
    ∙ held_more (s + y) u
    ∙ ap held (let k : s + y + u ≡ s + w = omega arith in k)
