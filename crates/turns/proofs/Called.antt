-- The call from its parts: an early test refuses, or the three have had their turns at the front of the buffer.
use mathlib.Core.Path.{◌≡◌, refl, sym, ap, ◌∙◌}
use mathlib.Core.List.{List, ◌++◌, append_assoc}
use Prim.Native.Nat.{ℕ, ◌+◌, ◌/◌}
use lib.ListN.{take, drop, take-append-drop}
use lib.IntN.{ℤ}
use Rattle.std.specs.Prelude.{Result, Ok, Err, IsErrAnd}
use Rattle.std.proofs.lemmas.Result.{err_from_is_err_and}
use Rattle.refusals.specs.declared.Refused.{Refused}
use Rattle.refusals.specs.declared.Three.{Three}
use Rattle.refusals.specs.declared.Component.{Component}
use Rattle.refusals.specs.declared.Component.TheVariants.{Y, U, «V»}
use Rattle.refusals.specs.Numbers.{number_of, component_of}
use Rattle.refusals.specs.Faults.{Outcome, passed, refused, verdict, outcome_by}
use Rattle.price.specs.declared.Costs.{Costs}
use Rattle.components.specs.declared.Request.{Request}
use Rattle.components.specs.Call.{SubBlock, requested, stretch}
use Rattle.components.specs.Inner.Groups.{settings_faults, buffer_faults, EarlyPassed}
use Rattle.admission.specs.Inner.Tested.{Sizes, residuals}
use Rattle.components.specs.Inner.Turns.{past, joined}
use Rattle.turns.specs.Inner.Parts.{Parted, Called}
use Rattle.turns.proofs.Passed.{room_holds}
use Rattle.turns.proofs.Alone.{three_end}

module _ {A : Type 0} (answers : Component → List ℤ → Outcome A) (leaves : Component → List ℤ → List ℤ) (b : List ℤ)
    (t : Costs) (q : Request) (r : Result (Three A) Refused) where
  abbrev s : SubBlock
  s = requested b t q

  abbrev three : Outcome (Three A)
  three = joined (answers Y (stretch Y s)) (answers U (stretch U s)) (answers «V» (stretch «V» s))

  abbrev says : Refused → Outcome Unit
  says e = refused (number_of e.why) (component_of e.component)

  -- ---- an early test refuses
  module _ (e : Refused) (is : r ≡ Err e) where
    no_shares : (a : Three A) → r ≡ Ok a → ⊥
    no_shares a f = cc

    pub settings_refused : says e ≡ verdict settings_faults s → Called answers leaves s b r
    unfolding requested
    settings_refused f =
        record {
          answer = ap (outcome_by (λ a. a)) is ∙ (λ i. past (f i) (past (verdict buffer_faults s) three));
          left = λ a g. absurd (no_shares a g);
          kept = λ x g. refl;
        }

    pub buffer_refused : passed ≡ verdict settings_faults s → says e ≡ verdict buffer_faults s → Called answers leaves s b r
    unfolding requested
    buffer_refused f g =
        record {
          answer = ap (outcome_by (λ a. a)) is ∙ (λ i. past (f i) (past (g i) three));
          left = λ a h. absurd (no_shares a h);
          kept = λ x h. refl;
        }

  -- what is handed on is what the test says
  module _ (e : Refused) (handed : IsErrAnd r (λ x. x ≡ e)) where
    pub settings_handed : says e ≡ verdict settings_faults s → Called answers leaves s b r
    settings_handed f = let p = err_from_is_err_and r handed in settings_refused p.0 p.1 (rw p.2 f)

    pub buffer_handed : passed ≡ verdict settings_faults s → says e ≡ verdict buffer_faults s → Called answers leaves s b r
    buffer_handed f g = let p = err_from_is_err_and r handed in buffer_refused p.0 p.1 f (rw p.2 g)

  -- ---- or none does
  module _ (n : ℕ) (z : Sizes q.log2_luma n) (end : ℕ) (its_end : end ≡ n + n / 4 + n / 4) (early : EarlyPassed s) where
    is : (k : Component) → residuals k n (take end b) ≡ stretch k s
    is = room_holds b t q early n z end its_end

    pub three_coded : (front : List ℤ) → Parted answers leaves n (take end b) front r
        → ((x : Refused) → r ≡ Err x → front ≡ take end b) → Called answers leaves s (front ++ drop end b) r
    unfolding requested
    three_coded front parted kept =
        let D = drop end b in
        let y = leaves Y (stretch Y s) in
        let u = leaves U (stretch U s) in
        let v = leaves «V» (stretch «V» s) in
        record {
          answer = parted.answer ∙ (λ i. joined (answers Y (is Y i)) (answers U (is U i)) (answers «V» (is «V» i)))
              ∙ (λ i. past (sym early.settings i) (past (sym early.buffer i) three));
          left = λ a h. ap (λ (l : List ℤ). l ++ D) (parted.left a h ∙ (λ i. leaves Y (is Y i) ++ (leaves U (is U i) ++ leaves «V» (is «V» i))))
              ∙ append_assoc y (u ++ v) D
              ∙ ap (λ (l : List ℤ). y ++ l) (append_assoc u v D)
              ∙ ap (λ (k : ℕ). y ++ (u ++ (v ++ drop k b))) (its_end ∙ three_end b t q n z);
          kept = λ x h. ap (λ (l : List ℤ). l ++ drop end b) (kept x h) ∙ take-append-drop end b;
        }
