-- Levels that are put down one by one along the scan: before place n they are those of ls, behind it nothing is put
-- yet.
--
use mathlib.Core.Path.{◌≡◌, refl, sym, ◌∙◌}
use mathlib.Core.Logic.{⊎_elim}
use mathlib.Core.Bool.{cond}
use mathlib.Core.List.{List}
use Prim.Native.Nat.{ℕ, ◌+◌, ◌*◌, ◌≤◌, ◌<◌}
use native.Mathlib.Nat.{eq-or-lt_of_le}
use native.Mathlib.Omega.{arith}
use lib.Dec.{ltb}
use lib.ListN.{length, get_or, set}
use lib.Seq.{get_or-set_same, get_or-set_other}
use borrow.Author.Tests.{lt-ltb, le-ltb}
use Rattle.integers.proofs.Order.{below_or_not}
use Rattle.scan.specs.Scan.{scan_at}
use Rattle.scan.specs.Scanned.{Scanned}
use Rattle.weights.specs.Inner.Places.{Standing, Cleared}
use Rattle.weights.proofs.Places.{inside, apart}

abbrev pub Filled : (width height n : ℕ) → List ℕ → List ℕ → Type 0
Filled width height n levels ls =
    (k : ℕ) → k < width * height → get_or levels (scan_at width height k) 0 ≡ cond (ltb k n) (get_or ls k 0) 0

module _ (width height : ℕ) (levels ls : List ℕ) where
  pub filled_none : Cleared levels → Filled width height 0 levels ls
  filled_none z k h = z (scan_at width height k) ∙ rw (le-ltb k 0 (omega arith))

  -- nothing of ls is left behind place n
  pub filled_all : (n : ℕ) → ((k : ℕ) → n ≤ k → get_or ls k 0 ≡ 0) → Filled width height n levels ls
      → Standing width height levels ls
  filled_all n tail f k h =
      f k h ∙ ⊎_elim (λ (l : k < n). rw (lt-ltb k n l)) (λ (l : n ≤ k). rw (le-ltb k n l) (sym (tail k l)))
      (below_or_not k n)

-- place n is done, and nothing else changes
module _ (width height : ℕ) (levels after ls : List ℕ) (n : ℕ)
    (here : get_or after (scan_at width height n) 0 ≡ get_or ls n 0)
    (there : (k : ℕ) → k < width * height → (k ≡ n → ⊥) → get_or after (scan_at width height k) 0
    ≡ get_or levels (scan_at width height k) 0) where
  filled_on : Filled width height n levels ls → Filled width height (n + 1) after ls
  filled_on f k l =
      ⊎_elim
      (λ (q : k < n). there k l (λ s. omega arith) ∙ f k l ∙ rw (lt-ltb k n q, lt-ltb k (n + 1) (omega arith)))
      (λ (q : n ≤ k).
      ⊎_elim (λ (s : n ≡ k). rw (← s, lt-ltb n (n + 1) (omega arith)) here)
      (λ (m : n < k). there k l (λ s. omega arith) ∙ f k l ∙ rw (le-ltb k n q, le-ltb k (n + 1) (omega arith)))
      (eq-or-lt_of_le q))
      (below_or_not k n)

module _ (width height : ℕ) (levels ls : List ℕ) (n : ℕ) (h : n < width * height) where
  -- place n takes a
  pub filled_next : (held : List ℕ) → Scanned width height held → length levels ≡ width * height → (a : ℕ)
      → get_or ls n 0 ≡ a
      → Filled width height n levels ls
      → Filled width height (n + 1) (set levels (scan_at width height n) a) ls
  filled_next held sc room a e =
      filled_on width height levels (set levels (scan_at width height n) a) ls n
      (get_or-set_same levels (scan_at width height n) a 0 (omega (arith, inside width height held sc n h)) ∙ sym e)
      (λ k l ne. get_or-set_other levels (scan_at width height n) (scan_at width height k) a 0
      (λ s. ne (apart width height held sc k n l h s)))

  -- or stays 0
  pub filled_zero : get_or ls n 0 ≡ 0 → Filled width height n levels ls → Filled width height (n + 1) levels ls
  filled_zero e f = filled_on width height levels levels ls n (f n h ∙ rw (le-ltb n n (omega arith)) (sym e))
      (λ k l ne. refl) f
