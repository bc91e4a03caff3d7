-- What the writer promises. An accepted list begins with the block's symbols, as many as the answer says, and at most
-- as many as the block has places; the places behind them hold what they held. A refused list is as it was.
use mathlib.Core.Path.{◌≡◌, refl, sym, ap, ◌∙◌}
use mathlib.Core.Bool.{Bool, false, cond}
use mathlib.Core.List.{List, [], ◌++◌}
use Prim.Native.Nat.{ℕ, ◌≤◌, ◌<◌}
use native.Mathlib.Omega.{arith}
use borrow.Author.Tests.{ltb-false, eqb-false, ne_eqb, le-ltb, le-leb, lt-leb}
use lib.ListN.{length, take, drop, length-append, length-take, length-map}
use lib.Seq.{get_or-take, length-take-le, take_at, drop_at}
use lib.IntN.{ℤ, pos, negsuc, nat_abs}
use mir.Syntax.{w16}
use mir.Val.{SFits}
use Rattle.integers.specs.Sum.{at}
use Rattle.integers.specs.Tests.{some, eq_ℤ}
use Rattle.integers.proofs.Lists.{none_passes}
use Rattle.refusals.specs.Faults.{passed, accepted, refused}
use Rattle.refusals.proofs.First.{no_fault_if_accepted, head_fails, rest_fails, refusing_verdict}
use Rattle.refusals.proofs.First.{but, end, accepted_without_a_fault, accepting_verdict, answer_given}
use Rattle.runs.specs.Packing.{run_bits, packed}
use Rattle.runs.specs.Runs.{symbols_of}
use Rattle.runs.specs.Call.{Write, write_places, symbol_count, write_side_fault, write_length_fault, level_fault}
use Rattle.runs.specs.Call.{room_fault, write_faults, write_verdict, write_answer, symbols_here, write_list, filled_of}
use Rattle.runs.proofs.RoundTrip.{count_of_symbols, nonzeros_at_most_places}
use Rattle.runs.proofs.Places.{Sided, area, ordered, nonzeros_in_order, each_in_order}

-- the block's levels in scan order
abbrev pub levels : Write → List ℤ
levels w = ordered w.lw w.lh w.buffer

-- what no fault says
pub record Accepted (w : Write) : Type 0 where
  pub sides : Sided w.lw w.lh
  pub long : area w.lw w.lh ≤ length w.buffer
  pub none_lowest : some (λ z. eq_ℤ z (negsuc 32767)) (take (area w.lw w.lh) w.buffer) ≡ false
  pub room : symbol_count w ≤ length w.list

pub no_fault : (w : Write) → write_verdict w ≡ passed → Accepted w
unfolding write_verdict write_faults write_side_fault write_length_fault level_fault room_fault
no_fault w ok =
    let f = no_fault_if_accepted w write_faults ok in
    let g = rest_fails w f in
    let h = rest_fails w g in
    record {
      sides = head_fails w f;
      long = ltb-false (length w.buffer) (area w.lw w.lh) (head_fails w g);
      none_lowest = head_fails w h;
      room = ltb-false (length w.list) (symbol_count w) (head_fails w (rest_fails w h));
    }

pub accepted_if : (w : Write) → Accepted w → write_verdict w ≡ passed
unfolding write_verdict write_faults write_side_fault write_length_fault level_fault room_fault
accepted_if w a =
    let long = le-ltb (length w.buffer) (area w.lw w.lh) a.long in
    let room = le-ltb (length w.list) (symbol_count w) a.room in
    accepted_without_a_fault w write_faults (but a.sides (but long (but a.none_lowest (but room end))))

pub as_many_symbols : (w : Write) → Sided w.lw w.lh → area w.lw w.lh ≤ length w.buffer
    → length (symbols_here w) ≡ symbol_count w
unfolding symbols_here symbol_count
as_many_symbols w sides long =
    length-map (symbols_of (levels w)) (packed run_bits)
    ∙ count_of_symbols (levels w)
    ∙ nonzeros_in_order w.lw w.lh sides w.buffer long

-- a level of 16 bits that is not the lowest
not_lowest : (z : ℤ) → SFits w16 z → eq_ℤ z (negsuc 32767) ≡ false → nat_abs z ≤ 32767
not_lowest (pos n) f e = let b : n < 32768 = f.sfits in omega arith
not_lowest (negsuc n) f e = let b : n < 32768 = f.sfits in omega (arith, eqb-false n 32767 e)

pub small_not_lowest : (z : ℤ) → nat_abs z ≤ 32767 → eq_ℤ z (negsuc 32767) ≡ false
small_not_lowest (pos n) h = refl
small_not_lowest (negsuc n) h = ne_eqb n 32767 (λ e. let z : ⊥ = omega arith in z)

-- ---- the filled stretch: the front of a list, and the empty one where the count is too large
pub too_large_a_count_has_nothing : (n : ℕ) (list : List ℕ) → length list < n → filled_of n list ≡ []
unfolding filled_of
too_large_a_count_has_nothing n list h = ap (λ (t : Bool). cond t (take n list) []) (lt-leb n (length list) h)

pub filled_is_the_front : (n : ℕ) (list : List ℕ) → n ≤ length list → filled_of n list ≡ take n list
unfolding filled_of
filled_is_the_front n list h = ap (λ (t : Bool). cond t (take n list) []) (le-leb n (length list) h)

-- ---- what is accepted
module _ (w : Write) (ok : write_verdict w ≡ passed) where
  abbrev places : ℕ
  places = area w.lw w.lh

  facts : Accepted w
  facts = no_fault w ok

  -- the levels have magnitudes that a symbol has room for
  pub levels_small : ((k : ℕ) → SFits w16 (at w.buffer k)) → (j : ℕ) → nat_abs (at (levels w) j) ≤ 32767
  levels_small sixteen =
      each_in_order w.lw w.lh facts.sides w.buffer (λ z. nat_abs z ≤ 32767) (omega arith) small
    where
      front : length (take places w.buffer) ≡ places
      front = length-take-le places w.buffer facts.long

      small : (k : ℕ) → k < places → nat_abs (at w.buffer k) ≤ 32767
      small k h =
          not_lowest (at w.buffer k) (sixteen k)
          (ap (λ (z : ℤ). eq_ℤ z (negsuc 32767)) (sym (get_or-take places w.buffer k (pos 0) h))
          ∙ none_passes (pos 0) (λ z. eq_ℤ z (negsuc 32767)) (take places w.buffer) facts.none_lowest k
          (omega (arith, front)))

  as_many_here : length (symbols_here w) ≡ symbol_count w
  as_many_here = as_many_symbols w facts.sides facts.long

  pub list_is : write_list w ≡ symbols_here w ++ drop (symbol_count w) w.list
  unfolding write_list
  list_is = rw ok

  pub filled_is : filled_of (symbol_count w) (write_list w) ≡ symbols_here w
  filled_is =
      let n = symbol_count w in
      let behind = drop n w.list in
      ap (filled_of n) list_is
      ∙ filled_is_the_front n (symbols_here w ++ behind)
      (omega (arith, length-append (symbols_here w) behind, as_many_here))
      ∙ take_at (symbols_here w) behind n as_many_here

  pub answer_is : write_answer w ≡ accepted (symbol_count w)
  unfolding write_answer
  answer_is = rw ok

module _ (w : Write) (n : ℕ) (answer : write_answer w ≡ accepted n) where
  verdict_of_lem : write_verdict w ≡ passed
  unfolding write_answer
  verdict_of_lem = accepting_verdict (symbol_count w) (write_verdict w) n answer

  count_is : symbol_count w ≡ n
  unfolding write_answer
  count_is = answer_given (symbol_count w) (write_verdict w) n answer

  pub count_at_most_places : n ≤ write_places w
  unfolding symbol_count
  count_at_most_places =
      let front = take (write_places w) w.buffer in
      omega (arith, count_is, nonzeros_at_most_places front, length-take (write_places w) w.buffer)

  pub places_behind_kept : drop n (write_list w) ≡ drop n w.list
  places_behind_kept =
      ap (drop n) (list_is w verdict_of_lem)
      ∙ drop_at (symbols_here w) (drop (symbol_count w) w.list) n (as_many_here w verdict_of_lem ∙ count_is)
      ∙ ap (λ (k : ℕ). drop k w.list) count_is

pub refused_changes_nothing : (w : Write) (n c : ℕ) → write_answer w ≡ refused n c → write_list w ≡ w.list
unfolding write_answer write_list
refused_changes_nothing w n c e = rw (refusing_verdict (symbol_count w) (write_verdict w) n c e)
