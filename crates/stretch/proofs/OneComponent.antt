-- One component: not run, it is left alone; run, its transform is accepted and leaves its coefficients, so that the
-- quantiser's call is the definition's.
use mathlib.Core.Path.{◌≡◌, refl, sym, ap, ◌∙◌, subst}
use mathlib.Core.Bool.{true, false}
use mathlib.Core.List.{List}
use Prim.Native.Nat.{ℕ}
use lib.IntN.{ℤ}
use Rattle.refusals.specs.declared.Component.{Component}
use Rattle.refusals.specs.Faults.{Outcome, passed}
use Rattle.transform.specs.Coefficients.{coefficients}
use Rattle.transform.specs.Call.{Trans, places, trans_verdict, trans_buffer}
use Rattle.transform.specs.Call as trans
use Rattle.price.specs.declared.Costs.{Costs}
use Rattle.coding.specs.declared.Coded.{Coded}
use Rattle.coding.specs.declared.Coding.{Coding}
use Rattle.coding.specs.Block.{called}
use Rattle.coding.specs.Call.{coded, quant_answer, quant_buffer}
use Rattle.components.specs.declared.Request.{Request}
use Rattle.components.specs.Call.{bit}
use Rattle.components.proofs.Log2.{log2_inside}
use Rattle.components.proofs.Blocks.{block_accepted, block_leaves}
use Rattle.stretch.specs.Inner.Part.{log2_in, coding_of, quant_in, Ready, part_answer, part_left}

pub not_run : (k : Component) (t : Costs) (q : Request) (r : List ℤ) → bit k q.run ≡ false
    → (coded 0 0 ≡ part_answer k t q r) × (r ≡ part_left k t q r)
unfolding part_answer part_left
not_run k t q r e = rw e (refl, refl)

module _ (k : Component) (t : Costs) (q : Request) (r : List ℤ) (ready : Ready k t q r)
    (run : bit k q.run ≡ true) where
  abbrev its_trans : Trans
  its_trans = trans.called r (log2_in k q) (log2_in k q)

  trans_accepted : trans_verdict its_trans ≡ passed
  unfolding places
  trans_accepted =
      let i = log2_inside k q.log2_luma ready.low ready.high in
      block_accepted its_trans i i ready.long (ready.tame run)

  trans_leaves : (l : ℕ) → l ≡ log2_in k q → trans_buffer (trans.called r l l) ≡ coefficients r l l
  unfolding places
  trans_leaves l e =
      let i = log2_inside k q.log2_luma ready.low ready.high in
      subst (λ (n : ℕ). trans_buffer (trans.called r n n) ≡ coefficients r n n) (sym e)
      (block_leaves its_trans i i ready.long (ready.tame run))

  pub trans_passes : (l : ℕ) → l ≡ log2_in k q → trans_verdict (trans.called r l l) ≡ passed
  trans_passes l e = subst (λ (n : ℕ). trans_verdict (trans.called r n n) ≡ passed) (sym e) trans_accepted

  -- the call that the quantiser is given is the definition's, by what it is asked and the buffer that it is lent
  module _ (b : List ℤ) (c : Coding) (asked : c ≡ coding_of k q)
      (transformed : b ≡ trans_buffer (trans.called r c.log2 c.log2)) where
    quant_called : called b t c ≡ quant_in k t q r
    unfolding quant_in
    quant_called =
        ap (λ (x : List ℤ). called x t c) (transformed ∙ trans_leaves c.log2 (ap (λ (x : Coding). x.log2) asked))
        ∙ ap (λ (x : Coding). called (coefficients r x.log2 x.log2) t x) asked

    -- what the quantiser makes of it is what is said of the component
    pub part_coded : (answer : Outcome Coded) (left : List ℤ) → answer ≡ quant_answer (called b t c)
        → left ≡ quant_buffer (called b t c) → (answer ≡ part_answer k t q r) × (left ≡ part_left k t q r)
    unfolding part_answer part_left
    part_coded answer left ea ef = rw run (ea ∙ ap quant_answer quant_called, ef ∙ ap quant_buffer quant_called)
