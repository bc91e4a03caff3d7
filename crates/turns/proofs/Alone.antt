-- What the quantiser alone says of a component that is run, once the early tests of the call have passed; that its call
-- there is the definition's; and where the three stretches end.
use mathlib.Core.Path.{◌≡◌, refl}
use mathlib.Core.Bool.{true}
use mathlib.Core.List.{List}
use Prim.Native.Nat.{ℕ, ◌+◌, ◌/◌}
use native.Mathlib.Omega.{arith}
use lib.IntN.{ℤ}
use Rattle.refusals.specs.declared.Component.{Component}
use Rattle.refusals.specs.declared.Component.TheVariants.{Y, U, «V»}
use Rattle.refusals.specs.Faults.{verdict}
use Rattle.transform.proofs.Bounds.{coefficients_long, none_is_least}
use Rattle.price.specs.declared.Costs.{Costs}
use Rattle.coding.specs.Block.{called, area}
use Rattle.coding.specs.Call.{quant_verdict}
use Rattle.components.specs.declared.Request.{Request}
use Rattle.components.specs.Call.{SubBlock, requested, bit, stretch, start, trans_of, quant_on, quant_of}
use Rattle.components.specs.Call as three
use Rattle.components.specs.Inner.Groups.{late_faults}
use Rattle.components.proofs.Log2.{log2_high, log2_inside}
use Rattle.components.proofs.Late.{alone_late}
use Rattle.admission.specs.Inner.Tested.{Sizes}
use Rattle.stretch.specs.Inner.Part.{log2_in, quant_in, Ready}

-- the quantiser alone finds no early fault in the coefficients of tame residuals
pub alone_is_late : (k : Component) (t : Costs) (q : Request) (r : List ℤ) → Ready k t q r → bit k q.run ≡ true
    → quant_verdict (quant_in k t q r) ≡ verdict late_faults (quant_in k t q r)
unfolding quant_in called area
alone_is_late k t q r ready run =
    let l = log2_in k q in
    let i = log2_inside k q.log2_luma ready.low ready.high in
    let s = log2_high k q.log2_luma ready.high in
    alone_late (quant_in k t q r) i i (ready.qp run) (ready.lambda run) ready.costs
    (omega (arith, coefficients_long r l l))
    (none_is_least l l s s r ready.long (ready.tame run))

-- on the stretch of a request's buffer
module _ (b : List ℤ) (t : Costs) (q : Request) where
  abbrev s : SubBlock
  s = requested b t q

  pub quant_is : (k : Component) → quant_in k t q (stretch k s) ≡ quant_of k s
  unfolding quant_in called quant_of quant_on trans_of requested
  quant_is Y = refl
  quant_is U = refl
  quant_is «V» = refl

  -- where the three stretches end
  pub three_end : (n : ℕ) → Sizes q.log2_luma n → n + n / 4 + n / 4 ≡ start «V» s + three.area «V» s
  unfolding start three.area requested
  three_end n z = λ i. z.luma i + z.chroma i + z.chroma i
