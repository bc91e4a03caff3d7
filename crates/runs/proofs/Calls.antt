-- The two calls undo each other. What was written is accepted, and read it is the block that was written; what was
-- accepted and read is written as the list that it came from. So an accepted list is the only one for its block.
use mathlib.Core.Path.{◌≡◌, sym, ap, subst, ◌∙◌}
use mathlib.Core.Bool.{false}
use mathlib.Core.List.{List, ◌++◌, map}
use Prim.Native.Nat.{ℕ, ◌*◌, ◌^◌, ◌≤◌, ◌<◌}
use native.Mathlib.Omega.{arith}
use lib.Pow.{pow_pos}
use lib.ListN.{length, take, drop}
use lib.Seq.{get_or-take, length-take-le}
use lib.IntN.{ℤ, pos, negsuc, nat_abs}
use mir.Syntax.{w16}
use mir.Val.{SFits}
use Rattle.integers.specs.Sum.{at}
use Rattle.integers.specs.Tests.{some, eq_ℤ}
use Rattle.integers.proofs.Lists.{passed_by_none}
use Rattle.refusals.specs.Faults.{passed, accepted}
use Rattle.scan.specs.Scan.{scan}
use Rattle.scan.specs.Order.{laid}
use Rattle.scan.proofs.Laid.{order_laid}
use Rattle.runs.specs.Packing.{run_bits, packed}
use Rattle.runs.specs.Runs.{symbols_of, misread}
use Rattle.runs.specs.Call.{Write, write_places, symbol_count, write_verdict, write_answer, symbols_here, write_list}
use Rattle.runs.specs.Call.{filled_of, Read, read_verdict, read_buffer}
use Rattle.runs.proofs.RoundTrip.{told, written_then_read, written_is_accepted}
use Rattle.runs.proofs.RoundTrip.{only_list, level_told_small}
use Rattle.runs.proofs.Places.{area, ordered, all_met, runs_fit, as_many, each_in_block}
use Rattle.runs.proofs.Places.{front_in_order}
use Rattle.runs.proofs.Writing as writer
use Rattle.runs.proofs.Reading as reader

-- ---- written, then read
-- what was written, read into a buffer
abbrev pub read_back : Write → List ℤ → Read
read_back w buffer =
    record { list = filled_of (symbol_count w) (write_list w); buffer = buffer; lw = w.lw; lh = w.lh }

module _ (w : Write) (buffer : List ℤ) (ok : write_verdict w ≡ passed)
    (sixteen : (k : ℕ) → SFits w16 (at w.buffer k)) (room : write_places w ≤ length buffer) where
  abbrev places : ℕ
  places = area w.lw w.lh

  facts : writer.Accepted w
  facts = writer.no_fault w ok

  small : (j : ℕ) → nat_abs (at (writer.levels w) j) ≤ 32767
  small = writer.levels_small w ok sixteen

  many : length (writer.levels w) ≡ places
  many = as_many w.lw w.lh facts.sides w.buffer

  fit : length (writer.levels w) ≤ 2 ^ run_bits
  fit = omega (arith, many, runs_fit w.lw w.lh facts.sides)

  symbols_are : filled_of (symbol_count w) (write_list w) ≡ map (packed run_bits) (symbols_of (writer.levels w))
  unfolding symbols_here
  symbols_are = writer.filled_is w ok

  right : misread run_bits places (read_back w buffer).list ≡ false
  right =
      ap (misread run_bits places) symbols_are
      ∙ ap (λ (n : ℕ). misread run_bits n (map (packed run_bits) (symbols_of (writer.levels w)))) (sym many)
      ∙ written_is_accepted run_bits (writer.levels w) fit small

  told_again : reader.tells (read_back w buffer) ≡ writer.levels w
  told_again =
      ap (told run_bits places) symbols_are
      ∙ ap (λ (n : ℕ). told run_bits n (map (packed run_bits) (symbols_of (writer.levels w)))) (sym many)
      ∙ written_then_read run_bits (writer.levels w) fit small

  taken_back : read_verdict (read_back w buffer) ≡ passed
  unfolding write_places
  taken_back =
      reader.accepted_if (read_back w buffer) (record { sides = facts.sides; long = room; right = right })

  pub write_then_read : (read_verdict (read_back w buffer) ≡ passed)
      × (read_buffer (read_back w buffer) ≡ take (write_places w) w.buffer ++ drop (write_places w) buffer)
  unfolding write_places
  write_then_read = (
    taken_back,
    reader.buffer_is (read_back w buffer) taken_back
        ∙ ap (λ (zs : List ℤ). laid (scan (2 ^ w.lw) (2 ^ w.lh)) zs buffer) told_again
        ∙ order_laid (2 ^ w.lw) (2 ^ w.lh) (pow_pos w.lw) (pow_pos w.lh) w.buffer buffer
        (all_met w.lw w.lh facts.sides) facts.long room,
  )

-- ---- read, then written
-- what was read, written into a list
abbrev pub write_back : Read → List ℕ → Write
write_back r list = record { buffer = read_buffer r; lw = r.lw; lh = r.lh; list = list }

module _ (r : Read) (list : List ℕ) (ok : read_verdict r ≡ passed) (room : length r.list ≤ length list) where
  abbrev area_read : ℕ
  area_read = area r.lw r.lh

  accepted_read : reader.Accepted r
  accepted_read = reader.no_fault r ok

  symbols_again : symbols_here (write_back r list) ≡ r.list
  unfolding symbols_here
  symbols_again = reader.symbols_are r ok

  long : area_read ≤ length (read_buffer r)
  long = omega (arith, accepted_read.long, reader.buffer_length r)

  count_again : symbol_count (write_back r list) ≡ length r.list
  count_again = sym (writer.as_many_symbols (write_back r list) accepted_read.sides long) ∙ ap length symbols_again

  level_small : (k : ℕ) → k < area_read → nat_abs (at (read_buffer r) k) ≤ 32767
  level_small =
      each_in_block r.lw r.lh accepted_read.sides (read_buffer r) (λ z. nat_abs z ≤ 32767)
      (λ j. subst (λ (zs : List ℤ). nat_abs (at zs j) ≤ 32767) (sym (reader.levels_are r ok))
      (level_told_small run_bits area_read r.list j))

  none_lowest : some (λ z. eq_ℤ z (negsuc 32767)) (take area_read (read_buffer r)) ≡ false
  none_lowest =
      passed_by_none (pos 0) (λ z. eq_ℤ z (negsuc 32767)) (take area_read (read_buffer r))
      (λ k h.
      let l : k < area_read = omega (arith, h, length-take-le area_read (read_buffer r) long) in
      ap (λ (z : ℤ). eq_ℤ z (negsuc 32767)) (get_or-take area_read (read_buffer r) k (pos 0) l)
      ∙ writer.small_not_lowest (at (read_buffer r) k) (level_small k l))

  written_back : write_verdict (write_back r list) ≡ passed
  written_back =
      writer.accepted_if (write_back r list)
      (record {
        sides = accepted_read.sides;
        long = long;
        none_lowest = none_lowest;
        room = omega (arith, room, count_again);
      })

  pub read_then_write : (write_answer (write_back r list) ≡ accepted (length r.list))
      × (write_list (write_back r list) ≡ r.list ++ drop (length r.list) list)
      × (filled_of (length r.list) (write_list (write_back r list)) ≡ r.list)
  read_then_write = (
    writer.answer_is (write_back r list) written_back ∙ ap accepted count_again,
    writer.list_is (write_back r list) written_back
        ∙ ap (λ (us : List ℕ). us ++ drop (symbol_count (write_back r list)) list) symbols_again
        ∙ ap (λ (n : ℕ). r.list ++ drop n list) count_again,
    ap (λ (n : ℕ). filled_of n (write_list (write_back r list))) (sym count_again)
        ∙ writer.filled_is (write_back r list) written_back
        ∙ symbols_again,
  )

-- ---- one list for a block
abbrev pub read_into : (lw lh : ℕ) → List ℤ → List ℕ → Read
read_into lw lh buffer list = record { list = list; buffer = buffer; lw = lw; lh = lh }

pub accepted_list_is_the_only_one : (lw lh : ℕ) (us vs : List ℕ) (b c : List ℤ)
    → read_verdict (read_into lw lh b us) ≡ passed → read_verdict (read_into lw lh c vs) ≡ passed
    → take (2 ^ lw * 2 ^ lh) (read_buffer (read_into lw lh b us))
    ≡ take (2 ^ lw * 2 ^ lh) (read_buffer (read_into lw lh c vs))
    → us ≡ vs
accepted_list_is_the_only_one lw lh us vs b c ok too same =
    let r = read_into lw lh b us in
    let q = read_into lw lh c vs in
    let f = reader.no_fault r ok in
    let g = reader.no_fault q too in
    only_list run_bits (area lw lh) us vs f.right g.right
    (sym (reader.levels_are r ok)
    ∙ sym (front_in_order lw lh f.sides (read_buffer r))
    ∙ ap (ordered lw lh) same
    ∙ front_in_order lw lh g.sides (read_buffer q)
    ∙ reader.levels_are q too)
