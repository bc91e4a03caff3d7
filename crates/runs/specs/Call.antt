-- `write_symbols` and `read_symbols`: their faults in order, their answers, and what is then held by what they are
-- lent, as functions of all their inputs; and `filled`, which hands back the symbols that were written. The block lies
-- in a buffer, by rows, w wide and h high: the calls have squares.
use Rattle.std.specs.Prelude.{cond, ◌||◌, List, [], ◌∷◌, ◌++◌, map, ℕ, ◌*◌, ◌^◌, ltb, leb, length, take, drop, ℤ, negsuc, Result}
use Rattle.integers.specs.Tests.{some, eq_ℤ}
use Rattle.refusals.specs.declared.Refusal.{Refusal}
use Rattle.refusals.specs.declared.Refusal.TheVariants.{Side, Length, Sample, Room}
use Rattle.refusals.specs.declared.Refusal.TheVariants as refusals
use Rattle.refusals.specs.Sides.{most_log2}
use Rattle.refusals.specs.Faults.{Fault, of_none, outside, Outcome, verdict, answering, if_accepted, whole_outcome_by}
use Rattle.scan.specs.Scan.{scan}
use Rattle.scan.specs.Order.{in_order, laid}
use Rattle.runs.specs.Packing.{run_bits, packed, unpacked}
use Rattle.runs.specs.Runs.{nonzeros, symbols_of, levels_of, misread}

-- ---- the writer: a buffer that begins with the levels of a block, the block's log2 sides, a list to fill
pub record Write : Type 0 where
  pub buffer : List ℤ
  pub lw : ℕ
  pub lh : ℕ
  pub list : List ℕ

abbrev pub writing : List ℤ → (l : ℕ) → List ℕ → Write
writing buffer l list = record { buffer = buffer; lw = l; lh = l; list = list }

unfoldable pub write_places : Write → ℕ
write_places w = 2 ^ w.lw * 2 ^ w.lh

-- how many levels of the block are not 0
unfoldable pub symbol_count : Write → ℕ
unfolding nonzeros write_places
symbol_count w = nonzeros (take (write_places w) w.buffer)

unfoldable pub write_side_fault : Fault Write
write_side_fault =
    record {
      refusal = Side;
      component = of_none;
      holds = λ w. outside 1 most_log2 w.lw || outside 1 most_log2 w.lh;
    }

unfoldable pub write_length_fault : Fault Write
unfolding write_places
write_length_fault =
    record { refusal = Length; component = of_none; holds = λ w. ltb (length w.buffer) (write_places w) }

-- a level is -32768
unfoldable pub level_fault : Fault Write
unfolding some write_places
level_fault =
    record {
      refusal = Sample;
      component = of_none;
      holds = λ w. some (λ z. eq_ℤ z (negsuc 32767)) (take (write_places w) w.buffer);
    }

-- the list has fewer places than the block has levels that are not 0
unfoldable pub room_fault : Fault Write
unfolding symbol_count
room_fault = record { refusal = Room; component = of_none; holds = λ w. ltb (length w.list) (symbol_count w) }

unfoldable pub write_faults : List (Fault Write)
unfolding write_side_fault write_length_fault level_fault room_fault
write_faults = write_side_fault ∷ write_length_fault ∷ level_fault ∷ room_fault ∷ []

unfoldable pub write_verdict : Write → Outcome Unit
unfolding write_faults verdict
write_verdict w = verdict write_faults w

-- the number of symbols
unfoldable pub write_answer : Write → Outcome ℕ
unfolding write_verdict symbol_count
write_answer w = answering (write_verdict w) (symbol_count w)

-- what code answers, by the paper's numbers
abbrev pub write_outcome : Result ℕ Refusal → Outcome ℕ
write_outcome = whole_outcome_by (λ count. count)

-- the block's symbols, packed
unfoldable pub symbols_here : Write → List ℕ
unfolding packed symbols_of scan
symbols_here w = map (packed run_bits) (symbols_of (in_order (2 ^ w.lw) (2 ^ w.lh) w.buffer))

-- an accepted list holds them in front, and its places behind; a refused one what it held
unfoldable pub write_list : Write → List ℕ
unfolding write_verdict symbols_here symbol_count
write_list w =
    let after = symbols_here w ++ drop (symbol_count w) w.list in if_accepted (write_verdict w) after w.list

-- ---- the filled stretch: the front of a list, so many places; empty where it has fewer
unfoldable pub filled_of : (count : ℕ) → List ℕ → List ℕ
filled_of count list = cond (leb count (length list)) (take count list) []

-- ---- the reader: a whole list of symbols, a buffer that begins with a block, the block's log2 sides
pub record Read : Type 0 where
  pub list : List ℕ
  pub buffer : List ℤ
  pub lw : ℕ
  pub lh : ℕ

abbrev pub reading : List ℕ → List ℤ → (l : ℕ) → Read
reading list buffer l = record { list = list; buffer = buffer; lw = l; lh = l }

unfoldable pub read_places : Read → ℕ
read_places r = 2 ^ r.lw * 2 ^ r.lh

unfoldable pub read_side_fault : Fault Read
read_side_fault =
    record {
      refusal = Side;
      component = of_none;
      holds = λ r. outside 1 most_log2 r.lw || outside 1 most_log2 r.lh;
    }

unfoldable pub read_length_fault : Fault Read
unfolding read_places
read_length_fault =
    record { refusal = Length; component = of_none; holds = λ r. ltb (length r.buffer) (read_places r) }

unfoldable pub symbol_fault : Fault Read
unfolding misread read_places
symbol_fault =
    record { refusal = refusals.Symbol; component = of_none; holds = λ r. misread run_bits (read_places r) r.list }

unfoldable pub read_faults : List (Fault Read)
unfolding read_side_fault read_length_fault symbol_fault
read_faults = read_side_fault ∷ read_length_fault ∷ symbol_fault ∷ []

-- the answer, which is the verdict
unfoldable pub read_verdict : Read → Outcome Unit
unfolding read_faults verdict
read_verdict r = verdict read_faults r

-- the levels that the list tells, at the block's places
unfoldable pub restored : Read → List ℤ
unfolding laid scan levels_of unpacked read_places
restored r =
    laid (scan (2 ^ r.lw) (2 ^ r.lh)) (levels_of (read_places r) (map (unpacked run_bits) r.list)) r.buffer

-- an accepted buffer holds them in front, and its surplus; a refused one what it held
unfoldable pub read_buffer : Read → List ℤ
unfolding read_verdict restored
read_buffer r = let after = restored r in if_accepted (read_verdict r) after r.buffer
