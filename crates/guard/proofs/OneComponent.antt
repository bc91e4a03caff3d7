-- One component of the guarded call that is run: what the quantiser alone refuses is refused, and what it accepts is a
-- block to be guarded.
use mathlib.Core.Path.{◌≡◌, refl, sym, ap, subst, ◌∙◌}
use mathlib.Core.Bool.{true, false}
use mathlib.Core.List.{List}
use Prim.Native.Nat.{◌≤◌}
use native.Mathlib.Omega.{arith}
use lib.ListN.{length, take}
use lib.Seq.{length-take-le}
use lib.IntN.{ℤ}
use Rattle.std.specs.Prelude.{Result, Ok, Err}
use Rattle.refusals.specs.declared.Refused.{Refused}
use Rattle.refusals.specs.Three.{part_of}
use Rattle.guarding.specs.declared.Guarded.{Guarded}
use Rattle.refusals.specs.declared.Component.{Component}
use Rattle.refusals.specs.Numbers.{number_of, component_of}
use Rattle.refusals.specs.Sides.{most_log2}
use Rattle.refusals.specs.Faults.{Outcome, accepted, passed, refused, answering}
use Rattle.refusals.proofs.First.{refusing_verdict, accepting_verdict, answer_given, inside}
use Rattle.price.specs.declared.Costs.{Costs}
use Rattle.coding.specs.declared.Coded.{Coded}
use Rattle.coding.specs.declared.Coding.{Coding}
use Rattle.coding.specs.Block.{count_of, price_of}
use Rattle.coding.specs.Call.{quant_verdict, quant_answer}
use Rattle.components.specs.declared.Request.{Request}
use Rattle.components.specs.Call.{bit}
use Rattle.components.specs.Inner.Turns.{past}
use Rattle.components.proofs.Log2.{log2_high, log2_inside}
use Rattle.components.proofs.Answer.{answer_alone, buffer_alone}
use Rattle.rooms.proofs.Fitting.{fits}
use Rattle.stretch.specs.Inner.Part.{log2_in, coding_of, quant_in, Ready, part_answer, part_left}
use Rattle.heights.specs.declared.Heights.{Heights}
use Rattle.refusals.specs.declared.Three.{Three}
use Rattle.guarding.specs.Call.{nothing}
use Rattle.guarding.specs.Inner.Held.{guard_by, guard_outcome, Guardable, held_answer, Held}
use Rattle.guard.specs.Inner.Part.{OfMode, guard_in, guard_part_answer, guard_part_left, HeldPart}

-- what holds of residuals, of what is asked and of heights holds of what equals them
moved : (P : List ℤ → Coding → Heights → Type 0) {r s : List ℤ} {c d : Coding} {h i : Heights} → r ≡ s → c ≡ d → h ≡ i
    → P r c h → P s d i
moved P {s = s} {c = c} {d = d} {h = h} er ec eh p =
    subst (λ (x : Heights). P s d x) eh
    (subst (λ (x : Coding). P s x h) ec (subst (λ (x : List ℤ). P x c h) er p))

module _ (k : Component) (t : Costs) (q : Request) (h : Three Heights) (r : List ℤ) where
  -- ---- not run
  pub not_run : bit k q.run ≡ false → HeldPart k t q h r r (Ok nothing)
  unfolding guard_part_answer guard_part_left
  not_run e = record { answer = rw e; left = λ a f. rw e }

  -- ---- run
  module _ (ready : Ready k t q r) (run : bit k q.run ≡ true) where
    -- a block has 1,024 places at most
    small : length r ≤ 1024
    small = fits most_log2 (log2_in k q) (log2_high k q.log2_luma ready.high) r ready.long

    pub has_room : (part : List ℤ) → length part ≡ length r → (shown : List ℤ) → 1024 ≤ length shown
        → length part ≤ length shown
    has_room part long shown room = omega (arith, small)

    call_is : quant_in k t q r ≡ (guard_in k t q h r).call
    unfolding quant_in guard_in guard_by
    call_is = refl

    -- the answer, past a known verdict
    answer_past : (v : Outcome Unit) → quant_verdict (quant_in k t q r) ≡ v
        → guard_part_answer k t q h r ≡ past v (held_answer (guard_in k t q h r))
    unfolding guard_part_answer
    answer_past v e =
        rw run (ap (λ (x : Outcome Unit). past x (held_answer (guard_in k t q h r)))
        (ap quant_verdict (sym call_is) ∙ e))

    coded_is : part_answer k t q r ≡ quant_answer (quant_in k t q r)
    unfolding part_answer
    coded_is = rw run

    verdict_of_lem : {a : Outcome Coded} → a ≡ part_answer k t q r
        → a ≡ answering (quant_verdict (quant_in k t q r)) (record {
          count = count_of (quant_in k t q r);
          price = price_of (quant_in k t q r);
        })
    verdict_of_lem e = e ∙ coded_is ∙ answer_alone (quant_in k t q r)

    -- ---- refused
    pub refused_part : (after : List ℤ) (e : Refused) {x : Result Guarded Refused} → x ≡ Err e
        → refused (number_of e.why) (component_of e.component) ≡ part_answer k t q r
        → HeldPart k t q h r after x
    refused_part after e is says =
        record {
          answer = ap guard_outcome is
              ∙ sym (answer_past _ (refusing_verdict _ (quant_verdict (quant_in k t q r)) _ _ (sym (verdict_of_lem says))));
          left = λ a f. cc;
        }

    -- ---- coded
    module _ (a : Coded) (coded : accepted a ≡ part_answer k t q r) where
      accepts : quant_verdict (quant_in k t q r) ≡ passed
      accepts = accepting_verdict _ (quant_verdict (quant_in k t q r)) a (sym (verdict_of_lem coded))

      pub of_mode : OfMode (quant_in k t q r) a
      of_mode =
          let given = sym (answer_given _ (quant_verdict (quant_in k t q r)) a (sym (verdict_of_lem coded))) in
          (ap (λ (x : Coded). x.count) given, ap (λ (x : Coded). x.price) given)

      -- by what code has of the component: its residuals, what is asked of it and its heights
      module _ {rs : List ℤ} {c : Coding} {own : Heights} (er : r ≡ rs) (ec : c ≡ coding_of k q)
          (eh : own ≡ part_of k h) where
        pub guardable : (before shown : List ℤ) → before ≡ part_left k t q r → length before ≡ length r
            → 1024 ≤ length shown
            → Guardable rs t c own before (take (length before) shown) × OfMode (guard_by rs t c own).call a
        unfolding guard_by quant_in part_left
        guardable before shown left long room =
            let sides =
            inside 1 most_log2 (log2_in k q) (log2_inside k q.log2_luma ready.low ready.high) in
            moved
            (λ (x : List ℤ) (y : Coding) (z : Heights).
            Guardable x t y z before (take (length before) shown) × OfMode (guard_by x t y z).call a)
            er (sym ec) (sym eh) (
              record {
                low = sides.0;
                high = sides.1;
                long = ready.long;
                tame = ready.tame run;
                accepts = accepts;
                levels = left ∙ rw run (buffer_alone (quant_in k t q r) accepts);
                room = length-take-le (length before) shown (omega (arith, small, room)) ∙ long;
              },
              of_mode,
            )

        pub held_part : (after : List ℤ) (x : Result Guarded Refused) → Held (guard_by rs t c own) after x
            → HeldPart k t q h r after x
        unfolding guard_part_left guard_in
        held_part after x held =
            let ours =
            moved (λ (r : List ℤ) (c : Coding) (h : Heights). Held (guard_by r t c h) after x) (sym er) ec eh held in
            record {
              answer = ours.answer ∙ sym (answer_past passed accepts);
              left = λ b f. rw run (ours.left b f);
            }
