-- The three stretches at the front of a buffer: what stands there is each component's, and the buffer has room for them
-- where its length is not refused.
use mathlib.Core.Path.{◌≡◌, ap, sym, ◌∙◌}
use mathlib.Core.Bool.{true, false}
use mathlib.Core.List.{List}
use Prim.Native.Nat.{ℕ, ◌+◌, ◌*◌, ◌/◌, ◌^◌, ◌≤◌, ◌<◌}
use borrow.Author.Tests.{lt-ltb, le-ltb}
use lib.Dec.{ltb}
use lib.ListN.{take, drop}
use lib.IntN.{ℤ}
use Rattle.refusals.specs.declared.Component.{Component}
use Rattle.refusals.specs.declared.Component.TheVariants.{Y, U, «V»}
use Rattle.price.specs.declared.Costs.{Costs}
use Rattle.components.specs.declared.Request.{Request}
use Rattle.components.specs.Call.{requested, area, start, stretch}
use Rattle.admission.specs.Inner.Tested.{Sizes, residuals}

module _ (b : List ℤ) (t : Costs) (q : Request) (n : ℕ) (z : Sizes q.log2_luma n) where
  pub stretch_is : (k : Component) → residuals k n b ≡ stretch k (requested b t q)
  unfolding stretch area start requested
  stretch_is Y = λ i. take (z.luma i) b
  stretch_is U = λ i. take (z.chroma i) (drop (z.luma i) b)
  stretch_is «V» = λ i. take (z.chroma i) (drop (z.luma i + z.chroma i) b)

-- the end of the three stretches is the room that they need
module _ (log2 n end len : ℕ) (z : Sizes log2 n) (is : end ≡ n + n / 4 + n / 4) where
  room : 2 ^ log2 * 2 ^ log2 * 3 / 2 ≡ end
  room = ap (λ (k : ℕ). k * 3 / 2) (sym z.luma) ∙ sym z.three ∙ sym is

  pub short : len < end → ltb len (2 ^ log2 * 2 ^ log2 * 3 / 2) ≡ true
  short h = rw room (lt-ltb len end h)

  pub long : end ≤ len → ltb len (2 ^ log2 * 2 ^ log2 * 3 / 2) ≡ false
  long h = rw room (le-ltb len end h)
