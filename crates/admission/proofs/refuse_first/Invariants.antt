-- `admission::refuse_first` meets its contract: the components before the one at hand passed, so that what is found of
-- all is what is found of the rest.
use Rattle.std.proofs.Common.{◌≡◌, Bool, ◌&&◌, drop}
use Rattle.refusals.specs.declared.Component.{Component}
use Rattle.components.specs.Call.{bit}
use Rattle.admission.specs.Inner.Tested.{first_of, first_in}
use Rattle.admission.proofs.refuse_first.Given as goal

abbrev pub invariant-loop-component : goal.invariant-loop-component
invariant-loop-component g l =
    (test : Component → Bool) → ((k : Component) (b : Bool) → goal.F-post g l.bad k b → b ≡ test k)
    → first_of l.why (λ k. bit k l.run && test k)
    ≡ first_in l.why (λ k. bit k l.run && test k) (drop l.component-index l.component-items)
