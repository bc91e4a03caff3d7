-- Answer and buffer by the verdict, of the quantiser alone and of the three-component call: accepted, the counts and
-- prices and what was coded, or is kept; refused, the verdict's numbers and what the buffer held. And back: which
-- verdict an answer comes from.
use mathlib.Core.Path.{◌≡◌, refl, sym, ap, ◌∙◌}
use mathlib.Core.Bool.{true, false}
use mathlib.Core.List.{◌++◌}
use Prim.Native.Nat.{ℕ, ◌+◌}
use lib.ListN.{drop}
use Rattle.refusals.specs.declared.Component.{Component}
use Rattle.refusals.specs.declared.Component.TheVariants.{Y, U, «V»}
use Rattle.refusals.specs.Faults.{Outcome, accepted, passed, refused, answering}
use Rattle.coding.specs.declared.Coded.{Coded}
use Rattle.coding.specs.Block.{Quant, count_of, price_of, quantised}
use Rattle.coding.specs.Call as quant
use Rattle.components.specs.Call.{SubBlock, runs, area, start, stretch, quant_of, share, Shares, coded, levels}
use Rattle.components.specs.Call.{coded_buffer, sub_block_verdict, sub_block_answer, sub_block_buffer}

-- ---- the quantiser alone
abbrev pub alone : Outcome Unit → (count price : ℕ) → Outcome Coded
alone v count price = answering v (record { count = count; price = price })

pub answer_alone : (c : Quant) → quant.quant_answer c ≡ alone (quant.quant_verdict c) (count_of c) (price_of c)
unfolding quant.quant_answer
answer_alone c = refl

pub buffer_alone : (c : Quant) → quant.quant_verdict c ≡ passed → quant.quant_buffer c ≡ quantised c
unfolding quant.quant_buffer
buffer_alone c e = rw e

-- ---- the three-component call
abbrev shares : (y u v : Coded) → Shares
shares y u v = record { y = y; u = u; v = v }

-- what was coded of the three tells what was coded of each
pub coded_tells : (a b c x y z : Coded) → coded a b c ≡ coded x y z → (a ≡ x) × (b ≡ y) × (c ≡ z)
coded_tells a b c x y z e =
    let f : shares a b c ≡ shares x y z = cc in
    (ap (λ (s : Shares). s.y) f, ap (λ (s : Shares). s.u) f, ap (λ (s : Shares). s.v) f)

abbrev pub outcome : Outcome Unit → (y u v : Coded) → Outcome Shares
outcome x y u v = answering x (shares y u v)

pub answer_whole : (s : SubBlock) → sub_block_answer s ≡ outcome (sub_block_verdict s) (share Y s) (share U s) (share «V» s)
unfolding sub_block_answer
answer_whole s = refl

pub buffer_whole : (s : SubBlock) → sub_block_verdict s ≡ passed
    → sub_block_buffer s ≡ levels Y s ++ (levels U s ++ (levels «V» s ++ drop (start «V» s + area «V» s) s.buffer))
unfolding sub_block_buffer coded_buffer
buffer_whole s e = rw e

-- what then stands in a component's stretch, run or not
module _ (s : SubBlock) (k : Component) where
  pub levels_run : runs k s ≡ true → levels k s ≡ quantised (quant_of k s)
  unfolding levels
  levels_run e = rw e

  pub levels_not_run : runs k s ≡ false → levels k s ≡ stretch k s
  unfolding levels
  levels_not_run e = rw e

module _ (s : SubBlock) (number component : ℕ) where
  pub refused_answer : sub_block_verdict s ≡ refused number component → sub_block_answer s ≡ refused number component
  refused_answer v = answer_whole s ∙ ap (λ (x : Outcome Unit). outcome x (share Y s) (share U s) (share «V» s)) v

  pub refused_leaves : sub_block_verdict s ≡ refused number component → sub_block_buffer s ≡ s.buffer
  unfolding sub_block_buffer
  refused_leaves v = rw v

  -- an answer that refuses comes from a verdict that does
  pub refused_verdict : sub_block_answer s ≡ refused number component → sub_block_verdict s ≡ refused number component
  refused_verdict e = by (sub_block_verdict s) (share Y s) (share U s) (share «V» s) (sym (answer_whole s) ∙ e)
    where
      by : (v : Outcome Unit) (a b c : Coded) → outcome v a b c ≡ refused number component
          → v ≡ refused number component
      by (accepted t) a b c e = cc
      by (refused i j) a b c e = cc

-- a call that answers what was coded is accepted
pub coded_accepted : (s : SubBlock) (x y z : Coded) → sub_block_answer s ≡ coded x y z → sub_block_verdict s ≡ passed
coded_accepted s x y z e = by (sub_block_verdict s) (share Y s) (share U s) (share «V» s) (sym (answer_whole s) ∙ e)
  where
    by : (v : Outcome Unit) (a b c : Coded) → outcome v a b c ≡ coded x y z → v ≡ passed
    by (accepted t) a b c f = refl
    by (refused m k) a b c f = cc
