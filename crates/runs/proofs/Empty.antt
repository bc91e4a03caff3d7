-- The empty list is the empty block's, of both calls and both ways: a block of zeros is written as no symbol, and a
-- block written as no symbol is of zeros; the empty list tells a block of zeros, and no other list does.
use mathlib.Core.Path.{◌≡◌, refl, sym, ap, ◌∙◌}
use mathlib.Core.List.{List, [], ◌∷◌, ◌++◌, map}
use Prim.Native.Nat.{ℕ, ◌<◌}
use native.Mathlib.Omega.{arith}
use lib.ListN.{length, drop, length-map}
use lib.IntN.{pos}
use Rattle.integers.specs.Sum.{at}
use Rattle.refusals.specs.Faults.{passed, accepted}
use Rattle.refusals.proofs.First.{accepting_verdict, answer_given}
use Rattle.runs.specs.Packing.{run_bits, packed}
use Rattle.runs.specs.Runs.{symbols_of}
use Rattle.runs.specs.Call.{Write, write_places, symbol_count, write_verdict, write_answer, symbols_here, write_list}
use Rattle.runs.specs.Call.{Read, read_places, read_verdict, read_buffer}
use Rattle.runs.proofs.RoundTrip.{empty_iff}
use Rattle.runs.proofs.Places.{Sided, ordered, each_in_order, each_in_block}
use Rattle.runs.proofs.Writing as writer
use Rattle.runs.proofs.Reading as reader

no_length : {A : Type 0} (l : List A) → length l ≡ 0 → l ≡ []
no_length [] e = refl
no_length (x ∷ xs) e = absurd (let z : ⊥ = omega arith in z)

-- ---- written
module _ (w : Write) (ok : write_verdict w ≡ passed) where
  sides_of : Sided w.lw w.lh
  sides_of = (writer.no_fault w ok).sides

  pub empty_block_has_empty_list : ((k : ℕ) → k < write_places w → at w.buffer k ≡ pos 0)
      → (write_answer w ≡ accepted 0) × (write_list w ≡ w.list)
  unfolding write_places symbols_here
  empty_block_has_empty_list nought =
      let zs = writer.levels w in
      let none : symbols_of zs ≡ [] =
      (empty_iff zs).1
      (each_in_order w.lw w.lh sides_of w.buffer (λ z. z ≡ pos 0) refl nought) in
      let here : symbols_here w ≡ [] = ap (map (packed run_bits)) none in
      let count : symbol_count w ≡ 0 =
      sym (writer.as_many_symbols w sides_of (writer.no_fault w ok).long) ∙ ap length here in (
        writer.answer_is w ok ∙ ap accepted count,
        writer.list_is w ok
            ∙ ap (λ (us : List ℕ). us ++ drop (symbol_count w) w.list) here
            ∙ ap (λ (n : ℕ). drop n w.list) count,
      )

pub empty_list_is_of_an_empty_block : (w : Write) → write_answer w ≡ accepted 0
    → (k : ℕ) → k < write_places w → at w.buffer k ≡ pos 0
unfolding write_answer write_places symbols_here
empty_list_is_of_an_empty_block w answer =
    let zs = writer.levels w in
    let ok = accepting_verdict (symbol_count w) (write_verdict w) 0 answer in
    let facts = writer.no_fault w ok in
    let count : symbol_count w ≡ 0 = answer_given (symbol_count w) (write_verdict w) 0 answer in
    let none : symbols_of zs ≡ [] =
    no_length (symbols_of zs)
    (sym (length-map (symbols_of zs) (packed run_bits))
    ∙ writer.as_many_symbols w facts.sides facts.long
    ∙ count) in
    each_in_block w.lw w.lh facts.sides w.buffer (λ z. z ≡ pos 0) ((empty_iff zs).0 none)

-- ---- read
module _ (r : Read) (ok : read_verdict r ≡ passed) where
  sides_read : Sided r.lw r.lh
  sides_read = (reader.no_fault r ok).sides

  pub empty_list_tells_an_empty_block : r.list ≡ [] → (k : ℕ) → k < read_places r → at (read_buffer r) k ≡ pos 0
  unfolding read_places
  empty_list_tells_an_empty_block e =
      let zs = ordered r.lw r.lh (read_buffer r) in
      let count : length (symbols_of zs) ≡ 0 =
      sym (length-map (symbols_of zs) (packed run_bits)) ∙ ap length (reader.symbols_are r ok ∙ e) in
      each_in_block r.lw r.lh sides_read (read_buffer r) (λ z. z ≡ pos 0)
      ((empty_iff zs).0 (no_length (symbols_of zs) count))

  pub empty_block_is_told_by_the_empty_list : ((k : ℕ) → k < read_places r → at (read_buffer r) k ≡ pos 0)
      → r.list ≡ []
  unfolding read_places
  empty_block_is_told_by_the_empty_list nought =
      let zs = ordered r.lw r.lh (read_buffer r) in
      sym (reader.symbols_are r ok)
      ∙ ap (map (packed run_bits)) ((empty_iff zs).1
      (each_in_order r.lw r.lh sides_read (read_buffer r) (λ z. z ≡ pos 0) refl nought))
