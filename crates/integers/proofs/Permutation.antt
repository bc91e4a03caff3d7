-- The terms of a sum in another order. Numbers below n that stand n times below n, no two alike, are each of them once
-- (hit): as many as there are places would else be fewer. So a sum over them is the sum over the places, whatever is
-- added.
-- Assumes nothing.
use mathlib.Core.Path.{◌≡◌, refl, sym, ap, ◌∙◌}
use mathlib.Core.Logic.{◌⊎◌, inl, inr, ⊎_elim, ◌≢◌}
use mathlib.Core.Bool.{Bool, true, false, cond}
use Prim.Native.Nat.{ℕ, zero, suc, ◌<◌, ◌≤◌}
use native.Mathlib.Nat.{eq-or-lt_of_le, le_of_suc-le-suc, not-suc-le-zero}
use native.Mathlib.Omega.{arith}
use lib.Dec.{eqb}
use borrow.Author.Tests.{eqb-true, eqb-false, eq-eqb, ne_eqb}
use Rattle.integers.specs.Sum.{Addition, sum, on_ℕ, sum_ℕ}
use Rattle.integers.proofs.Sums.{Lawful, nats, sum_ext, sum_nought, sum_swap}
use Rattle.integers.proofs.Dot.{sum_within}

-- a where the two are equal, else nought
abbrev only : {A : Type 0} → Addition A → ℕ → ℕ → A → A
only o i j a = cond (eqb i j) a o.nought

module _ {A : Type 0} (o : Addition A) where
  only_same : (i j : ℕ) (a : A) → i ≡ j → only o i j a ≡ a
  only_same i j a e = rw (eq-eqb i j e)

  only_other : (i j : ℕ) (a : A) → i ≢ j → only o i j a ≡ o.nought
  only_other i j a e = rw (ne_eqb i j e)

module _ {A : Type 0} {o : Addition A} (l : Lawful o) where
  -- a sum with one term alone
  sum_only : (n : ℕ) (g : ℕ → A) (j : ℕ) → j < n → ((i : ℕ) → i < n → i ≢ j → g i ≡ o.nought) → sum o n g ≡ g j
  unfolding sum
  sum_only zero g j h z = absurd (not-suc-le-zero h)
  sum_only (suc n) g j h z =
      ⊎_elim
      (λ (e : j ≡ n).
      ap (λ (x : A). o.plus x (g n))
      (sum_ext o n g (λ i. o.nought) (λ i k. z i (omega arith) (λ q. let z : ⊥ = omega arith in z)) ∙ sum_nought l n)
      ∙ l.idl (g n)
      ∙ ap g (sym e))
      (λ (k : j < n).
      ap (λ (x : A). o.plus (sum o n g) x) (z n (omega arith) (λ q. let z : ⊥ = omega arith in z))
      ∙ l.comm (sum o n g) o.nought
      ∙ l.idl (sum o n g)
      ∙ sum_only n g j k (λ i m. z i (omega arith)))
      (eq-or-lt_of_le (le_of_suc-le-suc h))

-- a place where p is v, or none
find : (n : ℕ) (p : ℕ → ℕ) (v : ℕ) → ((j : ℕ) × (j < n) × (p j ≡ v)) ⊎ ((k : ℕ) → k < n → p k ≢ v)
find zero p v = inr (λ k h. absurd (not-suc-le-zero h))
find (suc n) p v = ⊎_elim (λ q. inl (q.0, omega (arith, q.1), q.2)) (λ none. go (eqb (p n) v) refl none) (find n p v)
  where
    go : (t : Bool) → eqb (p n) v ≡ t → ((k : ℕ) → k < n → p k ≢ v) → ((j : ℕ) × (j < suc n) × (p j ≡ v))
        ⊎ ((k : ℕ) → k < suc n → p k ≢ v)
    go true e none = inl (n, omega arith, eqb-true (p n) v e)
    go false e none =
        inr
        (λ k h.
        ⊎_elim (λ (q : k ≡ n). λ i. eqb-false (p n) v e (ap p (sym q) ∙ i)) (λ (q : k < n). none k q)
        (eq-or-lt_of_le (le_of_suc-le-suc h)))

-- terms of at most 1, of which one is 0, do not come to their count
short : (n : ℕ) (c : ℕ → ℕ) → ((i : ℕ) → i < n → c i ≤ 1) → (j : ℕ) → j < n → c j ≡ 0 → sum_ℕ n c < n
unfolding sum
short zero c h j k e = absurd (not-suc-le-zero k)
short (suc n) c h j k e =
    ⊎_elim
    (λ (q : j ≡ n). omega (arith, sum_within n 1 c (λ i m. h i (omega arith)), ap c q))
    (λ (q : j < n). omega (arith, short n c (λ i m. h i (omega arith)) j q e, h n (omega arith)))
    (eq-or-lt_of_le (le_of_suc-le-suc k))

module _ (n : ℕ) (p : ℕ → ℕ) (inside : (k : ℕ) → k < n → p k < n) (apart : (j k : ℕ) → j < n → k < n → p j ≡ p k
    → j ≡ k) where
  -- the places of the one value p k, and of the one place j of a value
  module _ {A : Type 0} {o : Addition A} (l : Lawful o) (f : ℕ → A) where
    at_place : (k : ℕ) → k < n → sum o n (λ b. only o (p k) b (f b)) ≡ f (p k)
    at_place k h =
        sum_only l n (λ b. only o (p k) b (f b)) (p k) (inside k h)
        (λ i m q. only_other o (p k) i (f i) (λ e. q (sym e)))
        ∙ only_same o (p k) (p k) (f (p k)) refl

    at_value : (b j : ℕ) → j < n → p j ≡ b → sum o n (λ k. only o (p k) b (f b)) ≡ f b
    at_value b j h e =
        sum_only l n (λ k. only o (p k) b (f b)) j h
        (λ i m q. only_other o (p i) b (f b) (λ r. q (apart i j m h (r ∙ sym e))))
        ∙ only_same o (p j) b (f b) e

  -- how often a value is met
  times : ℕ → ℕ
  times b = sum_ℕ n (λ k. only on_ℕ (p k) b 1)

  times_all : sum_ℕ n times ≡ n
  unfolding times sum
  times_all =
      sum_swap nats n n (λ b k. only on_ℕ (p k) b 1)
      ∙ sum_ext on_ℕ n (λ k. sum_ℕ n (λ b. only on_ℕ (p k) b 1)) (λ k. 1) (λ k h. at_place nats (λ b. 1) k h)
      ∙ ones n
    where
      ones : (m : ℕ) → sum_ℕ m (λ k. 1) ≡ m
      ones zero = refl
      ones (suc m) = omega (arith, ones m)

  times_none : (b : ℕ) → ((k : ℕ) → k < n → p k ≢ b) → times b ≡ 0
  unfolding times
  times_none b none =
      sum_ext on_ℕ n (λ k. only on_ℕ (p k) b 1) (λ k. 0) (λ k h. only_other on_ℕ (p k) b 1 (none k h)) ∙ sum_nought nats n

  times_once : (b : ℕ) → times b ≤ 1
  unfolding times
  times_once b =
      ⊎_elim (λ q. omega (arith, at_value nats (λ b. 1) b q.0 q.1 q.2))
      (λ none. omega (arith, times_none b none)) (find n p b)

  pub hit : (b : ℕ) → b < n → (j : ℕ) × (j < n) × (p j ≡ b)
  hit b h =
      ⊎_elim (λ q. q)
      (λ none. absurd (let z : ⊥ = omega (
        arith,
        short n times (λ i m. times_once i) b h (times_none b none),
        times_all,
      ) in z))
      (find n p b)

  pub sum_permuted : {A : Type 0} {o : Addition A} (l : Lawful o) (f : ℕ → A) → sum o n (λ k. f (p k)) ≡ sum o n f
  sum_permuted {o = o} l f =
      sum_ext o n (λ k. f (p k)) (λ k. sum o n (λ b. only o (p k) b (f b))) (λ k h. sym (at_place l f k h))
      ∙ sum_swap l n n (λ k b. only o (p k) b (f b))
      ∙ sum_ext o n (λ b. sum o n (λ k. only o (p k) b (f b))) f (λ b h. let q = hit b h in at_value l f b q.0 q.1
      q.2)
