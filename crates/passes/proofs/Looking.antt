-- The loop back along the scan: at n code holds what is known from place n on, and what each place from n to `end`
-- takes. It begins at `end`, from which on nothing is kept.
use mathlib.Core.Path.{◌≡◌, sym, ap, subst, ◌∙◌}
use mathlib.Core.Logic.{⊎_elim}
use mathlib.Core.Bool.{true, false}
use mathlib.Core.List.{List, [], ◌∷◌}
use Prim.Native.Nat.{ℕ, zero, suc, ◌+◌, ◌-◌, ◌*◌, ◌≤◌, ◌<◌, ◌^◌}
use native.Mathlib.Nat.{zero-mul, eq-or-lt_of_le}
use native.Mathlib.Omega.{arith}
use lib.ListN.{length, get_or, set, drop, length-set, length-drop}
use lib.Seq.{get_or-set_same, get_or-set_other, get_or-drop, drop-cons}
use Rattle.scan.specs.Scan.{scan_at}
use Rattle.price.specs.Rule.{Rule}
use Rattle.price.specs.Price.{uncoded}
use Rattle.price.specs.Inner.Search.{ahead}
use Rattle.scaling.specs.declared.scale.Scale.{Scale}
use Rattle.weights.specs.declared.prices.Prices.{Prices}
use Rattle.weights.specs.declared.kept.Kept.{Kept}
use Rattle.weights.specs.Inner.Places.{kept_at}
use Rattle.weights.specs.Inner.Chosen.{rule_of, places_of}
use Rattle.weights.proofs.Places.{places_count, place_at, some_kept}
use Rattle.ahead.specs.declared.Ahead.{Ahead}
use Rattle.ahead.specs.declared.Taken.{Taken}
use Rattle.ahead.specs.declared.Weighed.{Weighed}
use Rattle.ahead.specs.Inner.Ahead.{passed_by, Ready, WeighedBy}
use Rattle.passes.specs.Inner.Passes.{Held, from, Known, Ends, Takes, nothing, passed, Decided}
use Rattle.passes.proofs.Holding.{held_small, passed_taken, passed_held, none_held}
use Rattle.passes.proofs.Choosing.{weighed_zero, weighed_level, weighed_on, weighed_held}

less_left : (r : Rule) (ps : List ℕ) (i : ℕ) → uncoded r (drop i ps) ≤ uncoded r ps
unfolding uncoded
less_left r ps zero = omega arith
less_left r [] (suc i) = omega arith
less_left r (L ∷ ps) (suc i) = omega (arith, less_left r ps i)

-- what holds at n and behind it, where n is written
put : (n : ℕ) (P : ℕ → Taken → Type 0) (l : List Taken) (v : Taken) → n < length l → P n v
    → ((j : ℕ) → suc n ≤ j → P j (get_or l j nothing))
    → (j : ℕ) → n ≤ j → P j (get_or (set l n v) j nothing)
put n P l v h here behind j le =
    ⊎_elim
    (λ (e : n ≡ j). subst (λ (j : ℕ). P j (get_or (set l n v) j nothing)) e
    (subst (P n) (sym (get_or-set_same l n v nothing h)) here))
    (λ (m : n < j).
    subst (P j) (sym (get_or-set_other l n j v nothing (λ e. let z : ⊥ = omega arith in z))) (behind j m))
    (eq-or-lt_of_le le)

-- at n code holds what is known from place n on, and what each place from there to `end` takes
pub record Looking (given : Kept) (end : ℕ) (all : List Taken) (t : Ahead) (n : ℕ) : Type 0 where
  pub place : n ≤ end
  pub known : Known given n t
  pub decided : Decided given n end all
  pub room : length all ≡ given.scan.w * given.scan.h

module _ (given : Kept) (end : ℕ) (ends : Ends given end) where
  abbrev p : Prices
  p = given.weights.prices

  abbrev g : Scale
  g = given.weights.scale

  abbrev area : ℕ
  area = given.scan.w * given.scan.h

  abbrev kept : ℕ → ℕ
  kept n = kept_at given.scan.w given.scan.h given.magnitudes.now n

  abbrev r : Rule
  r = rule_of given

  abbrev ps : List ℕ
  ps = places_of given

  places_many : length ps ≡ area
  places_many = places_count _ _ _ given.scan.scanned g given.magnitudes.now

  pub begun : (all : List Taken) → length all ≡ area
      → Looking given end all (record { zero = 2 ^ 63; level = 2 ^ 63; rest = 0 }) end
  begun all room =
      record {
        place = omega arith;
        known = none_held p g (area - end) (from given end) none_there;
        decided = λ j l m. absurd (omega arith);
        room = room;
      }
    where
      none_there : (k : ℕ) → k < length (from given end) → get_or (from given end) k 0 ≡ 0
      none_there k h =
          let lt : end + k < area = omega (arith, length-drop end ps, places_many) in
          get_or-drop end ps k 0
          ∙ place_at _ _ _ given.scan.scanned g _ (end + k) lt
          ∙ ap (λ (a : ℕ). a * g.q) (ends.tail (end + k) (omega arith) lt)
          ∙ zero-mul g.q

  -- ---- place n, which is before what is done
  module _ (all : List Taken) (t : Ahead) (n : ℕ) (i : Looking given end all t (suc n)) where
    pub inside_n : n < area
    inside_n = omega (arith, i.place, ends.within)

    here : get_or ps n 0 ≡ kept n * g.q
    here = place_at _ _ _ given.scan.scanned g _ n inside_n

    known_by : (L : ℕ) (v : Ahead) → get_or ps n 0 ≡ L → Held p g (suc (area - suc n)) (L ∷ from given (suc n)) v
        → Known given n v
    known_by L v e k =
        let all : from given n ≡ get_or ps n 0 ∷ from given (suc n) =
        drop-cons ps n 0 (omega (arith, places_many, inside_n)) in
        let one_more : suc (area - suc n) ≡ area - n = omega (arith, inside_n) in
        rw (all, ← one_more, e) k

    pub small : (t.zero ≤ 2 ^ 63 + 2 ^ 61) × (t.level ≤ 2 ^ 63 + 2 ^ 61)
    small = held_small p g (area - suc n) (from given (suc n)) t (omega (arith, given.scan.scanned.few)) i.known

    decides : (a : Taken) → Takes r ps n (kept n) a → Decided given n end (set all n a)
    decides a here =
        put n (λ (j : ℕ) (b : Taken). j < end → Takes r ps j (kept j) b) all a (omega (arith, inside_n, i.room))
        (λ l. here) i.decided

    pub passes : kept n ≡ 0 → Looking given end (set all n passed) (passed_by p t) n
    passes e =
        let L : get_or ps n 0 ≡ 0 = here ∙ ap (λ (a : ℕ). a * g.q) e ∙ zero-mul g.q in
        record {
          place = omega (arith, i.place);
          known = known_by 0 (passed_by p t) L (passed_held p g (area - suc n) (from given (suc n)) t i.known);
          decided = decides passed (record {
            zero = rw L (sym (passed_taken p g true (from given (suc n)) (ahead r (from given (suc n)))));
            level = rw L (sym (passed_taken p g false (from given (suc n)) (ahead r (from given (suc n)))));
            on = λ o. absurd (omega arith);
          });
          room = length-set all n passed ∙ i.room;
        }

    module _ (o : 1 ≤ kept n) where
      pub ready : Ready p g t (kept n * g.q)
      ready =
          let w = given.choosable.weighable in
          record {
            fine = w.fine (scan_at given.scan.w given.scan.h n);
            some = w.some (scan_at given.scan.w given.scan.h n) o;
            zero = small.0;
            level = small.1;
            rest = omega (arith, i.known.rest, less_left r ps (suc n), given.choosable.left, given.choosable.small);
          }

      pub weighs : (w : Weighed) → WeighedBy p g t (kept n * g.q) w → Looking given end (set all n w.taken) w.ahead n
      weighs w q =
          let L = kept n * g.q in
          let next = from given (suc n) in
          let left = area - suc n in
          record {
            place = omega (arith, i.place);
            known = known_by L w.ahead here (weighed_held p g left next t i.known L ready w q);
            decided = decides w.taken (record {
              zero = rw here (sym (weighed_zero p g left next t i.known L ready w q));
              level = rw here (sym (weighed_level p g left next t i.known L ready w q));
              on = λ o. sym (weighed_on p g left next t i.known L ready w q);
            });
            room = length-set all n w.taken ∙ i.room;
          }

  -- the same before m, of what code meets there
  module _ {all : List Taken} {t : Ahead} {m : ℕ} (j : Looking given end all t m) (more : 0 < m) where
    behind : Looking given end all t (suc (m - 1))
    behind = let e : suc (m - 1) ≡ m = omega arith in rw e j

    pub small_at : t.zero ≤ 2 ^ 63 + 2 ^ 61
    small_at = (small all t (m - 1) behind).0

    module _ {a : ℕ} (is : a ≡ kept (m - 1)) where
      pub passes_at : a ≡ 0 → (v : Ahead) → v ≡ passed_by p t → Looking given end (set all (m - 1) passed) v (m - 1)
      passes_at e v q = rw q (passes all t (m - 1) behind (sym is ∙ e))

      module _ (nonzero : a ≡ 0 → ⊥) where
        some : 1 ≤ kept (m - 1)
        some = some_kept _ (λ e. nonzero (is ∙ e))

        pub ready_at : Ready p g t (a * g.q)
        ready_at = rw is (ready all t (m - 1) behind some)

        pub weighs_at : (w : Weighed) → WeighedBy p g t (a * g.q) w
            → Looking given end (set all (m - 1) w.taken) w.ahead (m - 1)
        weighs_at w q = weighs all t (m - 1) behind some w (rw is at q)
