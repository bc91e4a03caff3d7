-- What the reader promises. An accepted buffer begins with the block whose levels in scan order are those that the list
-- tells. The surplus behind the block is always as it was, and of a refused buffer all is.
use mathlib.Core.Path.{◌≡◌, refl, sym, ap, ◌∙◌}
use mathlib.Core.Bool.{false}
use mathlib.Core.List.{List, [], map}
use Prim.Native.Nat.{ℕ, ◌^◌, ◌≤◌}
use borrow.Author.Tests.{ltb-false, le-ltb}
use lib.Pow.{pow_pos}
use lib.ListN.{length, drop}
use lib.IntN.{ℤ}
use Rattle.refusals.specs.Faults.{Outcome, passed, accepted, refused, if_accepted}
use Rattle.refusals.proofs.First.{no_fault_if_accepted, head_fails, rest_fails, but, end, accepted_without_a_fault}
use Rattle.scan.specs.Scan.{scan}
use Rattle.scan.specs.Order.{laid}
use Rattle.scan.proofs.Laid as laying
use Rattle.scan.proofs.Laid.{laid_length, laid_in_order}
use Rattle.runs.specs.Packing.{run_bits, packed}
use Rattle.runs.specs.Runs.{symbols_of, misread}
use Rattle.runs.specs.Call.{Read, read_places, read_side_fault, read_length_fault, symbol_fault, read_faults}
use Rattle.runs.specs.Call.{read_verdict, restored, read_buffer}
use Rattle.runs.proofs.Misread.{misread_none}
use Rattle.runs.proofs.RoundTrip.{told, levels_told, read_then_written}
use Rattle.runs.proofs.Places.{Sided, area, ordered, all_met}

-- the levels that the list tells, in scan order
abbrev pub tells : Read → List ℤ
tells r = told run_bits (area r.lw r.lh) r.list

-- what no fault says
pub record Accepted (r : Read) : Type 0 where
  pub sides : Sided r.lw r.lh
  pub long : area r.lw r.lh ≤ length r.buffer
  pub right : misread run_bits (area r.lw r.lh) r.list ≡ false

pub no_fault : (r : Read) → read_verdict r ≡ passed → Accepted r
unfolding read_verdict read_faults read_side_fault read_length_fault symbol_fault
no_fault r ok =
    let f = no_fault_if_accepted r read_faults ok in
    let g = rest_fails r f in
    record {
      sides = head_fails r f;
      long = ltb-false (length r.buffer) (area r.lw r.lh) (head_fails r g);
      right = head_fails r (rest_fails r g);
    }

pub accepted_if : (r : Read) → Accepted r → read_verdict r ≡ passed
unfolding read_verdict read_faults read_side_fault read_length_fault symbol_fault
accepted_if r a =
    accepted_without_a_fault r read_faults
    (but a.sides (but (le-ltb (length r.buffer) (area r.lw r.lh) a.long) (but a.right end)))

module _ (r : Read) (ok : read_verdict r ≡ passed) where
  facts : Accepted r
  facts = no_fault r ok

  pub buffer_is : read_buffer r ≡ laid (scan (2 ^ r.lw) (2 ^ r.lh)) (tells r) r.buffer
  unfolding read_buffer
  buffer_is = rw ok

  pub levels_are : ordered r.lw r.lh (read_buffer r) ≡ tells r
  levels_are =
      let met = all_met r.lw r.lh facts.sides in
      let many = levels_told run_bits (area r.lw r.lh) r.list facts.right in
      ap (ordered r.lw r.lh) buffer_is
      ∙ laid_in_order (2 ^ r.lw) (2 ^ r.lh) (pow_pos r.lw) (pow_pos r.lh) (tells r) r.buffer
      (many ∙ sym met) facts.long

  -- and written again they are the list
  pub symbols_are : map (packed run_bits) (symbols_of (ordered r.lw r.lh (read_buffer r))) ≡ r.list
  symbols_are =
      ap (λ (zs : List ℤ). map (packed run_bits) (symbols_of zs)) levels_are
      ∙ read_then_written run_bits (area r.lw r.lh) r.list facts.right

-- whichever the verdict
either : {A B : Type 0} (f : A → B) (v : Outcome Unit) (a b : A) → f a ≡ f b → f (if_accepted v a b) ≡ f b
either f (accepted u) a b e = e
either f (refused n c) a b e = refl

pub buffer_length : (r : Read) → length (read_buffer r) ≡ length r.buffer
unfolding read_buffer
buffer_length r =
    either length (read_verdict r) (restored r) r.buffer
    (laid_length (scan (2 ^ r.lw) (2 ^ r.lh)) (tells r) r.buffer)

pub surplus_kept : (r : Read) → drop (read_places r) (read_buffer r) ≡ drop (read_places r) r.buffer
unfolding read_buffer
surplus_kept r =
    either (drop (read_places r)) (read_verdict r) (restored r) r.buffer
    (laying.surplus_kept (2 ^ r.lw) (2 ^ r.lh) (pow_pos r.lw) (pow_pos r.lh) (tells r) r.buffer)

pub refused_changes_nothing : (r : Read) (n c : ℕ) → read_verdict r ≡ refused n c → read_buffer r ≡ r.buffer
unfolding read_buffer
refused_changes_nothing r n c e = rw e

-- the empty list is none of the faults
pub empty_list_accepted : (buffer : List ℤ) (lw lh : ℕ) → Sided lw lh → area lw lh ≤ length buffer
    → read_verdict (record { list = []; buffer = buffer; lw = lw; lh = lh }) ≡ passed
empty_list_accepted buffer lw lh sides long =
    accepted_if (record { list = []; buffer = buffer; lw = lw; lh = lh })
    (record { sides = sides; long = long; right = misread_none run_bits (area lw lh) })
