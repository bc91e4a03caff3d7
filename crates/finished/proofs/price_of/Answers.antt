-- `finished::price_of` meets its contract: by the size of the block, the parts of its price are put together.
use mathlib.Core.Path.{◌≡◌, ap, ◌∙◌}
use mathlib.Core.List.{List}
use Prim.Native.Nat.{ℕ, ◌-◌}
use native.Mathlib.Omega.{arith}
use lib.ListN.{length, take, drop, length-drop}
use lib.Seq.{take_all}
use Rattle.integers.specs.Sum.{over, on_ℕ}
use Rattle.scaling.specs.declared.scale.Scale.{Scale}
use Rattle.finished.specs.Inner.Finished.{held, uncoded_at}
use Rattle.finished.proofs.Whole.{empty_price_lem, coded_price_lem}
use Rattle.finished.proofs.price_of.Goals as goal

-- D of the places behind the block's size
rest_is : (g : Scale) (cs : List ℕ) (n d : ℕ)
    → d ≡ held (over on_ℕ (uncoded_at g) (take (length cs - n) (drop n cs)))
    → d ≡ held (over on_ℕ (uncoded_at g) (drop n cs))
rest_is g cs n d e =
    e ∙ ap (λ l. held (over on_ℕ (uncoded_at g) l)) (take_all _ (drop n cs) (simp length-drop (omega arith)))

pub returns-then-n-eq0 : goal.returns-then-n-eq0
returns-then-n-eq0 c =
    let a = c.args in
    let rest = rest_is a.weights.scale a.cs.now c.size_of-n.result _ c.uncoded_of-rest.ensures.0 in
    c.add.ensures.0
    ∙ empty_price_lem a.weights.prices a.weights.scale a.cs.now a.levels.now _ _ c.size_of-n.ensures.0 rest
    c.if-n-eq0.true

pub returns : goal.returns
returns c =
    let a = c.args in
    let rest = rest_is a.weights.scale a.cs.now c.size_of-n.result _ c.uncoded_of-rest.ensures.0 in
    c.add-3.ensures.0
    ∙ coded_price_lem a.weights.prices a.weights.scale a.cs.now a.levels.now _ _ c.size_of-n.ensures.0 rest
    c.if-n-eq0.false _ _ _ c.costs_of-front.ensures.0 c.flags_of-flags.ensures.0 c.add-2.ensures.0
