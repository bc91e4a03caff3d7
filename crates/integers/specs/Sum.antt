-- Finite sums f 0 + f 1 + .. + f (n - 1), and sums over a list, over whatever can be added: the integers and the
-- naturals here. One definition serves both, so that each law of sums is stated and proved once (proofs/Sums.antt).
use Rattle.std.specs.Prelude.{Bool, false, ◌||◌, List, [], ◌∷◌, ℕ, zero, suc, ◌+◌, max, get_or, ℤ, pos, ◌+ℤ◌}

pub record Addition (A : Type 0) : Type 0 where
  pub nought : A
  pub plus : A → A → A

unfoldable pub sum : {A : Type 0} → Addition A → ℕ → (ℕ → A) → A
sum o zero f = o.nought
sum o (suc n) f = o.plus (sum o n f) (f n)

abbrev pub on_ℤ : Addition ℤ
on_ℤ = record { nought = pos 0; plus = ◌+ℤ◌ }

abbrev pub on_ℕ : Addition ℕ
on_ℕ = record { nought = 0; plus = ◌+◌ }

abbrev pub sum_ℤ : ℕ → (ℕ → ℤ) → ℤ
sum_ℤ n f = sum on_ℤ n f

abbrev pub sum_ℕ : ℕ → (ℕ → ℕ) → ℕ
sum_ℕ n f = sum on_ℕ n f

-- the largest of some naturals, and whether some of several hold, are sums too
abbrev pub on_max : Addition ℕ
on_max = record { nought = 0; plus = max }

abbrev pub on_or : Addition Bool
on_or = record { nought = false; plus = ◌||◌ }

-- the sum of f over the entries of a list
unfoldable pub over : {A B : Type 0} → Addition B → (A → B) → List A → B
over o f [] = o.nought
over o f (x ∷ xs) = o.plus (f x) (over o f xs)

-- the list's number at i, 0 past its end
abbrev pub at : List ℤ → ℕ → ℤ
at l i = get_or l i (pos 0)
