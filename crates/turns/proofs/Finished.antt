-- The end of a call over the three components, whatever is coded of each: from its early tests and what the three
-- answered and left in their turns to an answer and a buffer by one verdict, which is that of the early tests and then
-- of each component's late ones.
use mathlib.Core.Path.{◌≡◌, refl, sym, ap, ◌∙◌}
use mathlib.Core.List.{List, ◌++◌}
use Prim.Native.Nat.{ℕ, ◌+◌}
use lib.ListN.{drop}
use lib.IntN.{ℤ}
use Rattle.std.specs.Prelude.{Result, Ok, Err}
use Rattle.refusals.specs.declared.Refused.{Refused}
use Rattle.refusals.specs.declared.Three.{Three}
use Rattle.refusals.specs.declared.Component.{Component}
use Rattle.refusals.specs.declared.Component.TheVariants.{Y, U, «V»}
use Rattle.refusals.specs.Faults.{Outcome, accepted, passed, refused, verdict, answering, if_accepted, outcome_by}
use Rattle.refusals.proofs.First.{or_else}
use Rattle.price.specs.declared.Costs.{Costs}
use Rattle.components.specs.declared.Request.{Request}
use Rattle.components.specs.Call.{SubBlock, requested, stretch, start, area}
use Rattle.components.specs.Inner.Groups.{settings_faults, buffer_faults, EarlyPassed}
use Rattle.components.specs.Inner.Turns.{past, joined}
use Rattle.components.proofs.Turns.{first_refusal, each_passed, joined_outcomes}
use Rattle.turns.specs.Inner.Parts.{Called}

module _ {A : Type 0} where
  -- what is answered is Ok, and what is refused Err
  ok_of : (r : Result A Refused) (a : A) → outcome_by (λ x. x) r ≡ accepted a → r ≡ Ok a
  ok_of (Ok x) a e = let i : x ≡ a = cc in ap Ok i
  ok_of (Err x) a e = cc

  err_of : (r : Result A Refused) (n c : ℕ) → outcome_by (λ x. x) r ≡ refused n c → (x : Refused) × (r ≡ Err x)
  err_of (Ok x) n c e = cc
  err_of (Err x) n c e = (x, refl)

module _ {A : Type 0} (b : List ℤ) (t : Costs) (q : Request) (answers : Component → List ℤ → Outcome A)
    (leaves : Component → List ℤ → List ℤ) (v : Outcome Unit) (late : Component → Outcome Unit) (share : Component → A)
    (levels : Component → List ℤ) where
  abbrev s : SubBlock
  s = requested b t q

  abbrev all_late : Outcome Unit
  all_late = first_refusal late

  abbrev shares : Three A
  shares = record { y = share Y; u = share U; v = share «V» }

  abbrev coded : List ℤ
  coded = levels Y ++ (levels U ++ (levels «V» ++ drop (start «V» s + area «V» s) s.buffer))

  -- what is to be known of a call: its verdict, and of each component, past the early tests, what is answered, and past
  -- its late tests what is left
  pub record Known : Type 0 where
    pub groups : v ≡ or_else (verdict settings_faults s) (or_else (verdict buffer_faults s) all_late)
    pub answered : EarlyPassed s → (k : Component) → answers k (stretch k s) ≡ answering (late k) (share k)
    pub left : EarlyPassed s → (k : Component) → late k ≡ passed → leaves k (stretch k s) ≡ levels k

  module _ (known : Known) (after : List ℤ) (r : Result (Three A) Refused) (called : Called answers leaves s after r) where
    abbrev pub Ends : Type 0
    Ends = (outcome_by (λ x. x) r ≡ answering v shares) × (after ≡ if_accepted v coded s.buffer)

    ends_refused : (n c : ℕ) → outcome_by (λ x. x) r ≡ refused n c → v ≡ refused n c → Ends
    ends_refused n c e f = rw f (e, (let p = err_of r n c e in called.kept p.0 p.1))

    ends_late : EarlyPassed s → outcome_by (λ x. x) r ≡ answering all_late shares → v ≡ all_late → (w : Outcome Unit)
        → all_late ≡ w → Ends
    ends_late early e f (refused n c) g = ends_refused n c (e ∙ rw g) (f ∙ g)
    ends_late early e f (accepted u) g =
        let is = λ (k : Component). known.left early k (each_passed late g k) in
        let rest = drop (start «V» s + area «V» s) s.buffer in (
          e ∙ ap (λ (x : Outcome Unit). answering x shares) (sym f),
          called.left shares (ok_of r shares (e ∙ rw g))
              ∙ (λ i. is Y i ++ (is U i ++ (is «V» i ++ rest)))
              ∙ (λ i. if_accepted (sym (f ∙ g) i) coded s.buffer),
        )

    pub ends : Ends
    ends = by (verdict settings_faults s) (verdict buffer_faults s) refl refl
      where
        by : (x y : Outcome Unit) → verdict settings_faults s ≡ x → verdict buffer_faults s ≡ y → Ends
        by (refused n c) y e h =
            ends_refused n c
            (called.answer
            ∙ (λ i. past (e i) (past (verdict buffer_faults s) (joined (answers Y (stretch Y s)) (answers U (stretch U s))
            (answers «V» (stretch «V» s))))))
            (known.groups ∙ (λ i. or_else (e i) (or_else (verdict buffer_faults s) all_late)))
        by (accepted u) (refused n c) e h =
            ends_refused n c
            (called.answer
            ∙ (λ i. past (e i) (past (h i) (joined (answers Y (stretch Y s)) (answers U (stretch U s)) (answers «V»
            (stretch «V» s))))))
            (known.groups ∙ (λ i. or_else (e i) (or_else (h i) all_late)))
        by (accepted u) (accepted w) e h =
            let early : EarlyPassed s = record { settings = e; buffer = h } in
            let is = known.answered early in
            ends_late early
            (called.answer
            ∙ (λ i. past (e i) (past (h i) (joined (is Y i) (is U i) (is «V» i))))
            ∙ joined_outcomes (late Y) (late U) (late «V») (share Y) (share U) (share «V»))
            (known.groups ∙ (λ i. or_else (e i) (or_else (h i) all_late))) all_late refl
