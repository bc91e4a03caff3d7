-- Laws of finite sums, over any addition that is associative and commutative and has a nought: the same terms, sums of
-- sums, a map that keeps sums, splitting, reversal, exchange. `ints` and `nats` are the two instances.
-- Assumes nothing.
use mathlib.Core.Path.{◌≡◌, refl, sym, ◌∙◌, ap}
use Prim.Native.Nat.{ℕ, zero, suc, ◌+◌, ◌-◌, ◌*◌, ◌<◌}
use native.Mathlib.Nat.{add-suc, add-zero, add_assoc, add_comm, zero-add}
use native.Mathlib.Numerals.{add-one}
use native.Mathlib.Omega.{arith}
use lib.IntN.{+ℤ_idl, +ℤ_assoc, +ℤ_comm}
use Rattle.integers.specs.Sum.{Addition, sum, on_ℤ, on_ℕ}

pub record Lawful {A : Type 0} (o : Addition A) : Type 0 where
  pub idl : (a : A) → o.plus o.nought a ≡ a
  pub assoc : (a b c : A) → o.plus (o.plus a b) c ≡ o.plus a (o.plus b c)
  pub comm : (a b : A) → o.plus a b ≡ o.plus b a

pub ints : Lawful on_ℤ
ints = record { idl = +ℤ_idl; assoc = +ℤ_assoc; comm = +ℤ_comm }

pub nats : Lawful on_ℕ
nats = record { idl = zero-add; assoc = add_assoc; comm = add_comm }

module _ {A : Type 0} (o : Addition A) where
  pub sum_suc : (n : ℕ) (f : ℕ → A) → sum o (suc n) f ≡ o.plus (sum o n f) (f n)
  unfolding sum
  sum_suc n f = refl

  -- the same terms
  pub sum_ext : (n : ℕ) (f g : ℕ → A) → ((i : ℕ) → i < n → f i ≡ g i) → sum o n f ≡ sum o n g
  unfolding sum
  sum_ext zero f g h = refl
  sum_ext (suc n) f g h =
      ap (λ (x : A). o.plus x (f n)) (sum_ext n f g (λ i k. h i (omega arith)))
      ∙ ap (λ (x : A). o.plus (sum o n g) x) (h n (omega arith))

  -- a running sum: one term more
  pub sum_more : (n : ℕ) (f : ℕ → A) {s : A} → s ≡ sum o n f → o.plus s (f n) ≡ sum o (n + 1) f
  sum_more n f e = ap (λ (z : A). o.plus z (f n)) e ∙ rw add-one (sym (sum_suc n f))

module _ {A : Type 0} {o : Addition A} (l : Lawful o) where
  idr : (a : A) → o.plus a o.nought ≡ a
  idr a = l.comm a o.nought ∙ l.idl a

  middle : (a b c d : A) → o.plus (o.plus a b) (o.plus c d) ≡ o.plus (o.plus a c) (o.plus b d)
  middle a b c d =
      l.assoc a b (o.plus c d)
      ∙ ap (λ (x : A). o.plus a x) (sym (l.assoc b c d) ∙ ap (λ (x : A). o.plus x d) (l.comm b c) ∙ l.assoc c b d)
      ∙ sym (l.assoc a c (o.plus b d))

  -- a sum of noughts
  pub sum_nought : (n : ℕ) → sum o n (λ i. o.nought) ≡ o.nought
  unfolding sum
  sum_nought zero = refl
  sum_nought (suc n) = idr (sum o n (λ i. o.nought)) ∙ sum_nought n

  -- the terms added one by one
  pub sum_plus : (n : ℕ) (f g : ℕ → A) → sum o n (λ i. o.plus (f i) (g i)) ≡ o.plus (sum o n f) (sum o n g)
  unfolding sum
  sum_plus zero f g = sym (l.idl o.nought)
  sum_plus (suc n) f g =
      ap (λ (x : A). o.plus x (o.plus (f n) (g n))) (sum_plus n f g) ∙ middle (sum o n f) (sum o n g) (f n) (g n)

  -- two sums, one within the other, exchanged
  pub sum_swap : (m n : ℕ) (f : ℕ → ℕ → A) → sum o m (λ i. sum o n (λ j. f i j)) ≡ sum o n (λ j. sum o m (λ i. f i j))
  unfolding sum
  sum_swap zero n f = sym (sum_nought n)
  sum_swap (suc m) n f =
      ap (λ (x : A). o.plus x (sum o n (λ j. f m j))) (sum_swap m n f)
      ∙ sym (sum_plus n (λ j. sum o m (λ i. f i j)) (λ j. f m j))

  -- a sum in two parts
  pub sum_split : (m n : ℕ) (f : ℕ → A) → sum o (m + n) f ≡ o.plus (sum o m f) (sum o n (λ i. f (m + i)))
  unfolding sum
  sum_split m zero f = ap (λ (k : ℕ). sum o k f) (add-zero m) ∙ sym (idr (sum o m f))
  sum_split m (suc n) f =
      ap (λ (k : ℕ). sum o k f) (add-suc m n)
      ∙ ap (λ (x : A). o.plus x (f (m + n))) (sum_split m n f)
      ∙ l.assoc (sum o m f) (sum o n (λ i. f (m + i))) (f (m + n))

  pub sum_front : (n : ℕ) (f : ℕ → A) → sum o (suc n) f ≡ o.plus (f 0) (sum o n (λ i. f (suc i)))
  unfolding sum
  sum_front zero f = l.idl (f 0) ∙ sym (idr (f 0))
  sum_front (suc n) f =
      ap (λ (x : A). o.plus x (f (suc n))) (sum_front n f) ∙ l.assoc (f 0) (sum o n (λ i. f (suc i))) (f (suc n))

  -- the terms from the last to the first
  pub sum_reverse : (n : ℕ) (f : ℕ → A) → sum o n f ≡ sum o n (λ i. f (n - 1 - i))
  unfolding sum
  sum_reverse zero f = refl
  sum_reverse (suc n) f =
      ap (λ (x : A). o.plus x (f n)) (sum_reverse n f)
      ∙ l.comm (sum o n (λ i. f (n - 1 - i))) (f n)
      ∙ ap (λ (k : ℕ). o.plus (f k) (sum o n (λ i. f (n - 1 - i)))) (let e : n ≡ suc n - 1 - 0 = omega arith in e)
      ∙ ap (λ (x : A). o.plus (f (suc n - 1 - 0)) x)
      (sum_ext o n (λ i. f (n - 1 - i)) (λ i. f (suc n - 1 - suc i)) (λ i h. ap f (omega arith)))
      ∙ sym (sum_front n (λ i. f (suc n - 1 - i)))

  -- the two halves together, the second one backwards
  pub sum_halves : (h : ℕ) (f : ℕ → A) → sum o (h + h) f ≡ sum o h (λ i. o.plus (f i) (f (h + h - 1 - i)))
  sum_halves h f =
      sum_split h h f
      ∙ ap (λ (x : A). o.plus (sum o h f) x)
      (sum_reverse h (λ i. f (h + i))
      ∙ sum_ext o h (λ i. f (h + (h - 1 - i))) (λ i. f (h + h - 1 - i)) (λ i k. ap f (omega arith)))
      ∙ sym (sum_plus h f (λ i. f (h + h - 1 - i)))

  -- the terms at even places and those at odd ones
  pub sum_by_parity : (h : ℕ) (f : ℕ → A)
      → sum o (h + h) f ≡ o.plus (sum o h (λ k. f (2 * k))) (sum o h (λ k. f (2 * k + 1)))
  unfolding sum
  sum_by_parity zero f = sym (l.idl o.nought)
  sum_by_parity (suc h) f =
      let evens = sum o h (λ k. f (2 * k)) in
      let odds = sum o h (λ k. f (2 * k + 1)) in
      ap (λ (n : ℕ). sum o n f) (let e : suc h + suc h ≡ suc (suc (h + h)) = omega arith in e)
      ∙ ap (λ (x : A). o.plus (o.plus x (f (h + h))) (f (suc (h + h)))) (sum_by_parity h f)
      ∙ l.assoc (o.plus evens odds) (f (h + h)) (f (suc (h + h)))
      ∙ middle evens odds (f (h + h)) (f (suc (h + h)))
      ∙ ap (λ (n : ℕ). o.plus (o.plus evens (f n)) (o.plus odds (f (suc (h + h)))))
      (let e : h + h ≡ 2 * h = omega arith in e)
      ∙ ap (λ (n : ℕ). o.plus (o.plus evens (f (2 * h))) (o.plus odds (f n)))
      (let e : suc (h + h) ≡ 2 * h + 1 = omega arith in e)

-- a map from one addition to another that keeps noughts and sums keeps finite sums: a factor, a negation, ..
module _ {A B : Type 0} (o : Addition A) (p : Addition B) (m : A → B) (at-nought : m o.nought ≡ p.nought)
    (at-plus : (a b : A) → m (o.plus a b) ≡ p.plus (m a) (m b)) where
  pub sum_map : (n : ℕ) (f : ℕ → A) → sum p n (λ i. m (f i)) ≡ m (sum o n f)
  unfolding sum
  sum_map zero f = sym at-nought
  sum_map (suc n) f = ap (λ (x : B). p.plus x (m (f n))) (sum_map n f) ∙ sym (at-plus (sum o n f) (f n))
