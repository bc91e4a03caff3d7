-- How many numbers of a list are not 0: by sums, from the front, from behind, and where none is left.
use Rattle.std.proofs.Common.{◌≡◌, ℕ, zero, suc, ◌+◌, ◌<◌, ◌≤◌, cond, List, [], ◌∷◌, ◌++◌, length, get_or}
use Rattle.std.proofs.Common.{take, drop, set, refl, ◌∙◌, add-one, arith, length-drop, drop-cons}
use Rattle.std.proofs.Common.{take-suc-set}
use Rattle.integers.specs.Sum.{over, on_ℕ}
use Rattle.price.specs.Rule.{is_zero}
use Rattle.price.specs.Price.{nonzeros}
use Rattle.price.proofs.Promises.{nonzeros_at_most}

abbrev pub ones : ℕ → ℕ
ones a = cond (is_zero a) 0 1

pub one_more : (a : ℕ) → (a ≡ 0 → ⊥) → ones a ≡ 1
one_more zero h = absurd (h refl)
one_more (suc a) h = refl

pub none_more : (a : ℕ) → a ≡ 0 → ones a ≡ 0
none_more zero e = refl
none_more (suc a) e = absurd (let z : ⊥ = omega arith in z)

pub ones_few : (a : ℕ) → ones a ≤ 1
ones_few zero = omega arith
ones_few (suc a) = omega arith

pub nonzeros_over : (ls : List ℕ) → nonzeros ls ≡ over on_ℕ ones ls
unfolding nonzeros over
nonzeros_over [] = refl
nonzeros_over (zero ∷ ls) = omega (arith, nonzeros_over ls)
nonzeros_over (suc a ∷ ls) = omega (arith, nonzeros_over ls)

nonzeros_cons : (a : ℕ) (ls : List ℕ) → nonzeros (a ∷ ls) ≡ ones a + nonzeros ls
unfolding nonzeros
nonzeros_cons zero ls = omega arith
nonzeros_cons (suc a) ls = omega arith

-- one more in a list that is filled from the front
nonzeros_snoc : (ls : List ℕ) (a : ℕ) → nonzeros (ls ++ (a ∷ [])) ≡ nonzeros ls + ones a
unfolding nonzeros
nonzeros_snoc [] a = nonzeros_cons a [] ∙ omega arith
nonzeros_snoc (zero ∷ ls) a = nonzeros_snoc ls a
nonzeros_snoc (suc b ∷ ls) a = omega (arith, nonzeros_snoc ls a)

pub nonzeros_filled : (ls : List ℕ) (i a : ℕ) → i < length ls → nonzeros (take (i + 1) (set ls i a))
    ≡ nonzeros (take i ls) + ones a
nonzeros_filled ls i a h = rw (add-one, take-suc-set ls i a h) (nonzeros_snoc (take i ls) a)

-- what is left from place n on
pub nonzeros_next : (ls : List ℕ) (n : ℕ) → n < length ls
    → nonzeros (drop n ls) ≡ ones (get_or ls n 0) + nonzeros (drop (n + 1) ls)
nonzeros_next ls n h = rw (add-one, drop-cons ls n 0 h) (nonzeros_cons (get_or ls n 0) (drop (suc n) ls))

pub some_left : (ls : List ℕ) (n : ℕ) → 0 < nonzeros (drop n ls) → n < length ls
some_left ls n h = omega (arith, nonzeros_at_most (drop n ls), length-drop n ls)

pub none_left : (ls : List ℕ) → nonzeros ls ≡ 0 → (k : ℕ) → get_or ls k 0 ≡ 0
unfolding nonzeros
none_left [] e k = refl
none_left (zero ∷ ls) e zero = refl
none_left (zero ∷ ls) e (suc k) = none_left ls e k
none_left (suc a ∷ ls) e k = absurd (let z : ⊥ = omega arith in z)
