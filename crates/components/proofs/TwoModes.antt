-- One three-component call in its two modes. Refusals are unchanged by the mode: the verdict is the same in both, so
-- that a call that is refused in one is refused in the other with the same number and component, and leaves the same
-- buffer. The price that the second mode reports of a component is never above the walk's, the 0 of a component not run
-- included.
use mathlib.Core.Path.{◌≡◌, refl, sym, ap, ◌∙◌}
use mathlib.Core.Bool.{Bool, true, false, cond}
use Prim.Native.Nat.{ℕ, ◌≤◌}
use native.Mathlib.Omega.{arith}
use Rattle.refusals.specs.declared.Component.{Component}
use Rattle.refusals.specs.declared.Component.TheVariants.{Y, U, «V»}
use Rattle.refusals.specs.Faults.{refused}
use Rattle.coding.specs.declared.Coded.{Coded}
use Rattle.coding.specs.declared.Mode.{Mode}
use Rattle.coding.specs.declared.Mode.TheVariants.{Walk, Least}
use Rattle.coding.specs.Block.{price_of}
use Rattle.coding.proofs.TwoModes as quant
use Rattle.components.specs.Call.{SubBlock, runs, quant_on, quant_of, price, share, coded}
use Rattle.components.specs.Call.{sub_block_verdict, sub_block_answer, sub_block_buffer}
use Rattle.components.proofs.Answer.{coded_tells, coded_accepted, refused_answer, refused_leaves}
use Rattle.components.proofs.Answer.{refused_verdict}
use Rattle.components.proofs.Alone.{answer_of_three}

-- the same call in another mode
abbrev pub in_mode : Mode → SubBlock → SubBlock
in_mode mode s = record s { mode = mode }

-- ---- refusals: no fault asks for the mode
pub refusals_unchanged : (m n : Mode) (s : SubBlock) → sub_block_verdict (in_mode m s) ≡ sub_block_verdict (in_mode n s)
unfolding sub_block_verdict
refusals_unchanged m n s = refl

pub refused_in_both : (m n : Mode) (s : SubBlock) (number component : ℕ)
    → sub_block_answer (in_mode m s) ≡ refused number component
    → (sub_block_answer (in_mode n s) ≡ refused number component)
    × (sub_block_buffer (in_mode n s) ≡ sub_block_buffer (in_mode m s))
refused_in_both m n s number component e =
    let v = refused_verdict (in_mode m s) number component e in
    let w = refusals_unchanged n m s ∙ v in (
      refused_answer (in_mode n s) number component w,
      refused_leaves (in_mode n s) number component w ∙ sym (refused_leaves (in_mode m s) number component v),
    )

-- ---- prices
-- the quantiser's call for a component changes its mode with the whole
quant_in_mode : (mode : Mode) (s : SubBlock) (k : Component)
    → quant_of k (in_mode mode s) ≡ quant.in_mode mode (quant_of k s)
unfolding quant_of quant_on
quant_in_mode mode s Y = refl
quant_in_mode mode s U = refl
quant_in_mode mode s «V» = refl

where_run : (s : SubBlock) (k : Component) → price_of (quant_of k (in_mode Least s)) ≤ price_of (quant_of k (in_mode Walk s))
where_run s k = rw (quant_in_mode Least s k, quant_in_mode Walk s k) (quant.price_never_dearer (quant_of k s))

-- of every call: 0 in both modes where the component is not run
pub price_never_dearer : (s : SubBlock) (k : Component) → price k (in_mode Least s) ≤ price k (in_mode Walk s)
unfolding price
price_never_dearer s k = by (runs k s)
  where
    of : Mode → ℕ
    of mode = price_of (quant_of k (in_mode mode s))

    by : (t : Bool) → cond t (of Least) 0 ≤ cond t (of Walk) 0
    by true = where_run s k
    by false = omega arith

-- an answer reports the prices of its call
reported : (s : SubBlock) (y u v : Coded) → sub_block_answer s ≡ coded y u v
    → (price Y s ≡ y.price) × (price U s ≡ u.price) × (price «V» s ≡ v.price)
unfolding share
reported s y u v e =
    let f = answer_of_three s (coded_accepted s y u v e) in
    let k = coded_tells (share Y s) (share U s) (share «V» s) y u v (sym f ∙ e) in
    (ap (λ (x : Coded). x.price) k.0, ap (λ (x : Coded). x.price) k.1, ap (λ (x : Coded). x.price) k.2)

pub reported_never_dearer : (s : SubBlock) (y u v y' u' v' : Coded) → sub_block_answer (in_mode Least s) ≡ coded y u v
    → sub_block_answer (in_mode Walk s) ≡ coded y' u' v'
    → (y.price ≤ y'.price) × (u.price ≤ u'.price) × (v.price ≤ v'.price)
reported_never_dearer s y u v y' u' v' e f =
    let a = reported (in_mode Least s) y u v e in
    let b = reported (in_mode Walk s) y' u' v' f in
    let of = price_never_dearer s in
    (omega (arith, of Y), omega (arith, of U), omega (arith, of «V»))
