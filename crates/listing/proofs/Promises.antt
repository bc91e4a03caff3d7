-- The levels that the quantiser leaves, written as a run list. Whatever it accepts, the writer accepts, with a symbol
-- for each level of the count that it answered: a list with as many places is enough. Read again, the filled places
-- give the levels back.
use mathlib.Core.Path.{◌≡◌, refl, sym, ap, subst, ◌∙◌}
use mathlib.Core.Logic.{⊎_elim, inl, inr}
use mathlib.Core.Bool.{Bool, true, false, cond}
use mathlib.Core.List.{List, [], ◌∷◌, ◌++◌, map, map-map}
use Prim.Native.Nat.{ℕ, zero, suc, ◌+◌, ◌-◌, ◌≤◌, ◌<◌}
use native.Mathlib.Nat.{not-suc-le-zero, le_of_suc-le-suc, le-max_left, le-max_right, zero-add}
use native.Mathlib.Numerals.{one-add}
use native.Mathlib.Omega.{arith}
use borrow.Author.Tests.{ne_eqb}
use lib.Dec.{lit≤}
use lib.ListN.{length, get_or, take, drop, get_or-eq_default}
use lib.Seq.{get_or-take, get_or-drop, length-take-le}
use lib.IntN.{ℤ, pos, negsuc, nat_abs}
use mir.Syntax.{w16}
use mir.Val.{SFits}
use Rattle.integers.specs.Sum.{at}
use Rattle.integers.specs.Tests.{some, eq_ℤ}
use Rattle.integers.proofs.Fit.{fits_within}
use Rattle.integers.proofs.Order.{below_or_not}
use Rattle.integers.proofs.Lists.{passed_by_none}
use Rattle.refusals.specs.Faults.{passed, accepted}
use Rattle.refusals.proofs.First.{no_fault_if_accepted, head_fails, accepting_verdict, answer_given}
use Rattle.scan.proofs.Laid.{laid_length}
use Rattle.runs.specs.Runs as runs
use Rattle.runs.specs.Call.{write_places, symbol_count, write_verdict, write_answer, write_list, read_verdict, read_buffer}
use Rattle.runs.proofs.Places.{Sided, ordered, each_in_block, nonzeros_in_order}
use Rattle.runs.proofs.Writing as writer
use Rattle.runs.proofs.Calls.{write_then_read}
use Rattle.price.specs.Level.{nearest}
use Rattle.price.specs.Rule.{Allowed}
use Rattle.price.specs.Price.{nonzeros}
use Rattle.coding.specs.Block.{Quant, area, shift_here, rule_of, block_places, scanned, places, is_skipped, largest}
use Rattle.coding.specs.Block.{written_in, magnitudes, signs, count_of, quantised}
use Rattle.coding.specs.declared.Coded.{Coded}
use Rattle.coding.specs.Call.{side_fault, quant_faults, quant_verdict, largest_here, coded, quant_answer, quant_buffer}
use Rattle.coding.proofs.Accepted.{Accepted, no_fault}
use Rattle.coding.proofs.Modes.{zero_or_m_or_m-1}
use Rattle.coding.proofs.Promises.{L-count, magnitudes_count, read_back_lem, written_magnitudes, surplus_unchanged}
use Rattle.listing.specs.Listed.{listed, NeverRefused, again, ComesBack}

-- ---- magnitudes of a list
magnitude_at : (zs : List ℤ) (k : ℕ) → nat_abs (at zs k) ≡ get_or (map nat_abs zs) k 0
magnitude_at [] k = refl
magnitude_at (z ∷ zs) zero = refl
magnitude_at (z ∷ zs) (suc k) = magnitude_at zs k

-- the levels that are not 0 are as many as the magnitudes that are not
as_many_nonzero : (zs : List ℤ) → runs.nonzeros zs ≡ nonzeros (map nat_abs zs)
unfolding runs.nonzeros nonzeros
as_many_nonzero [] = refl
as_many_nonzero (pos zero ∷ zs) = zero-add (runs.nonzeros zs) ∙ as_many_nonzero zs
as_many_nonzero (pos (suc n) ∷ zs) =
    ap (λ (t : Bool). cond t 0 1 + runs.nonzeros zs) (ne_eqb (suc n) 0 (λ e. let z : ⊥ = omega arith in z))
    ∙ one-add (runs.nonzeros zs)
    ∙ ap suc (as_many_nonzero zs)
as_many_nonzero (negsuc n ∷ zs) = one-add (runs.nonzeros zs) ∙ ap suc (as_many_nonzero zs)

abbrev zeros : List ℕ → List ℕ
zeros Ls = map (λ L. 0) Ls

zeros_at : (Ls : List ℕ) (k : ℕ) → get_or (zeros Ls) k 0 ≡ 0
zeros_at [] k = refl
zeros_at (L ∷ Ls) zero = refl
zeros_at (L ∷ Ls) (suc k) = zeros_at Ls k

-- none is above the largest
at_most_largest : (m : ℕ → ℕ) (Ls : List ℕ) (k : ℕ) → k < length Ls → m (get_or Ls k 0) ≤ largest m Ls
unfolding largest
at_most_largest m [] k h = absurd (not-suc-le-zero h)
at_most_largest m (L ∷ Ls) zero h = le-max_left (m L) (largest m Ls)
at_most_largest m (L ∷ Ls) (suc k) h =
    omega (arith, at_most_largest m Ls k (le_of_suc-le-suc h), le-max_right (m L) (largest m Ls))

allowed_at_most : (m a : ℕ) → Allowed m a → a ≤ m
allowed_at_most m a (inl e) = omega arith
allowed_at_most m a (inr (inl e)) = omega arith
allowed_at_most m a (inr (inr e)) = omega (arith, e.1)

module _ (c : Quant) (ok : quant_verdict c ≡ passed) where
  facts : Accepted c
  facts = no_fault c ok

  sides : Sided c.lw c.lh
  unfolding quant_verdict quant_faults side_fault
  sides = head_fails c (no_fault_if_accepted c quant_faults ok)

  abbrev left : List ℤ
  left = quant_buffer c

  abbrev levels : List ℤ
  levels = ordered c.lw c.lh left

  -- ---- the levels left: how many are not 0, and how large they are
  as_long : length left ≡ length c.buffer
  unfolding quant_buffer quantised
  as_long = rw ok (laid_length (block_places c) (signs (scanned c) (magnitudes c)) c.buffer)

  long : area c ≤ length left
  long = omega (arith, facts.long, as_long)

  magnitudes_are : map nat_abs levels ≡ magnitudes c
  unfolding block_places
  magnitudes_are = map-map nat_abs (λ p. at left p) (block_places c) ∙ read_back_lem c ok

  count_is : (list : List ℕ) → symbol_count (listed c list) ≡ count_of c
  unfolding symbol_count write_places count_of area
  count_is list =
      sym (nonzeros_in_order c.lw c.lh sides left long) ∙ as_many_nonzero levels ∙ ap nonzeros magnitudes_are

  skipped_small : is_skipped c ≡ true → (k : ℕ) → get_or (magnitudes c) k 0 ≤ 32767
  unfolding magnitudes
  skipped_small e k =
      let none : get_or (zeros (places c)) k 0 ≤ 32767 = omega (arith, zeros_at (places c) k) in rw e none

  walked_small : is_skipped c ≡ false → (k : ℕ) → k < area c → get_or (magnitudes c) k 0 ≤ 32767
  unfolding rule_of largest_here
  walked_small e k h =
      let inner : k < length (places c) = omega (arith, h, L-count c ok) in
      let m = nearest (shift_here c) (get_or (places c) k 0) in
      let a = get_or (written_in c.mode (rule_of c) (places c)) k 0 in
      let few : a ≤ m = allowed_at_most m a (zero_or_m_or_m-1 c.mode (rule_of c) (places c) k inner) in
      let most : m ≤ largest_here c = at_most_largest (nearest (shift_here c)) (places c) k inner in
      let small : a ≤ 32767 = omega (arith, few, most, facts.level e) in
      subst (λ (l : List ℕ). get_or l k 0 ≤ 32767) (sym (written_magnitudes c ok e)) small

  magnitude_small : (k : ℕ) → get_or (magnitudes c) k 0 ≤ 32767
  magnitude_small k = ⊎_elim (by (is_skipped c) refl) behind (below_or_not k (area c))
    where
      by : (t : Bool) → is_skipped c ≡ t → k < area c → get_or (magnitudes c) k 0 ≤ 32767
      by true e h = skipped_small e k
      by false e h = walked_small e k h

      behind : area c ≤ k → get_or (magnitudes c) k 0 ≤ 32767
      behind l =
          let none : get_or (magnitudes c) k 0 ≡ 0 =
          get_or-eq_default (magnitudes c) 0 {n = k} (omega (arith, l, magnitudes_count c ok)) in
          omega (arith, none)

  level_small : (k : ℕ) → k < area c → nat_abs (at left k) ≤ 32767
  unfolding area
  level_small =
      each_in_block c.lw c.lh sides left (λ z. nat_abs z ≤ 32767)
      (λ j. subst (λ (n : ℕ). n ≤ 32767)
      (sym (magnitude_at levels j ∙ ap (λ (l : List ℕ). get_or l j 0) magnitudes_are)) (magnitude_small j))

  none_lowest : some (λ z. eq_ℤ z (negsuc 32767)) (take (area c) left) ≡ false
  none_lowest =
      passed_by_none (pos 0) (λ z. eq_ℤ z (negsuc 32767)) (take (area c) left)
      (λ k h.
      let l : k < area c = omega (arith, h, length-take-le (area c) left long) in
      ap (λ (z : ℤ). eq_ℤ z (negsuc 32767)) (get_or-take (area c) left k (pos 0) l)
      ∙ writer.small_not_lowest (at left k) (level_small k l))

  -- ---- written
  written : (list : List ℕ) → count_of c ≤ length list → write_verdict (listed c list) ≡ passed
  unfolding area
  written list room =
      writer.accepted_if (listed c list)
      (record { sides = sides; long = long; none_lowest = none_lowest; room = omega (arith, room, count_is list) })

  -- ---- read again
  sixteen : ((k : ℕ) → SFits w16 (at c.buffer k)) → (k : ℕ) → SFits w16 (at left k)
  sixteen given k = ⊎_elim inside behind (below_or_not k (area c))
    where
      inside : k < area c → SFits w16 (at left k)
      inside h = fits_within (at left k) 32767 (level_small k h) (lit≤ tt)

      behind : area c ≤ k → SFits w16 (at left k)
      behind h =
          let n = area c in
          let j : n + (k - n) ≡ k = omega arith in
          subst (λ (z : ℤ). SFits w16 z)
          (ap (at c.buffer) (sym j)
          ∙ sym (get_or-drop n c.buffer (k - n) (pos 0))
          ∙ ap (λ (l : List ℤ). at l (k - n)) (sym (surplus_unchanged c ok))
          ∙ get_or-drop n left (k - n) (pos 0)
          ∙ ap (at left) j)
          (given k)

pub quantised_is_never_refused : (c : Quant) → NeverRefused c
quantised_is_never_refused c ok list room =
    let w = written c ok list room in
    (w, writer.answer_is (listed c list) w ∙ ap accepted (count_is c ok list))

-- the count that the quantiser answers is the number of symbols
pub counted_as_answered : (c : Quant) (count p : ℕ) → quant_answer c ≡ coded count p
    → (list : List ℕ) → count ≤ length list
    → write_answer (listed c list) ≡ accepted count
unfolding quant_answer
counted_as_answered c count p e list room =
    let ok = accepting_verdict _ (quant_verdict c) _ e in
    let n : count_of c ≡ count = ap (λ (a : Coded). a.count) (answer_given _ (quant_verdict c) _ e) in
    (quantised_is_never_refused c ok list (omega (arith, room, n))).1 ∙ ap accepted n

pub quantised_comes_back : (c : Quant) → ComesBack c
unfolding area write_places
quantised_comes_back c ok given list buffer room enough =
    subst
    (λ (n : ℕ).
    let r = again c n (write_list (listed c list)) buffer in
    (read_verdict r ≡ passed) × (read_buffer r ≡ take (area c) (quant_buffer c) ++ drop (area c) buffer))
    (count_is c ok list)
    (write_then_read (listed c list) buffer (written c ok list room) (sixteen c ok given) enough)
