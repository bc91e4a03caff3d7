-- The block that is read off, place by place. A place takes what is chosen there after the level before; behind a
-- nonzero level that does not go on all is 0, and so it is where nothing is kept. With that the loop of read_off reads
-- off what the search has.
use mathlib.Core.Path.{◌≡◌, refl, sym, ap, ◌∙◌}
use mathlib.Core.Bool.{Bool, true, false, cond}
use mathlib.Core.List.{List, [], ◌∷◌}
use Prim.Native.Nat.{ℕ, zero, suc, ◌+◌, ◌-◌, ◌*◌, ◌≤◌, ◌<◌}
use native.Mathlib.Nat.{zero-mul}
use native.Mathlib.Numerals.{add-one}
use native.Mathlib.Omega.{arith}
use lib.ListN.{length, get_or, set, drop, length-set}
use lib.Seq.{drop-cons, get_or-drop, drop-drop}
use Rattle.scan.specs.Scan.{scan_at}
use Rattle.scan.specs.Scanned.{Scanned}
use Rattle.price.specs.Rule.{Rule, is_zero}
use Rattle.price.specs.Cheapest.{empty_block}
use Rattle.price.specs.Inner.Search.{Ahead, ahead, taken, taken_by, goes_on, read_off}
use Rattle.scaling.specs.declared.scale.Scale.{Scale}
use Rattle.scaling.proofs.Scaling.{nearest_of_0}
use Rattle.weights.specs.declared.prices.Prices.{Prices}
use Rattle.weights.specs.Inner.Prices.{rule_by}
use Rattle.weights.specs.Inner.Places.{kept_at, kept_places, Cleared}
use Rattle.weights.proofs.Places.{places_count, place_at, some_kept}
use Rattle.weights.proofs.Filling.{Filled, filled_none, filled_next, filled_all}
use Rattle.ahead.specs.declared.Taken.{Taken}
use Rattle.passes.specs.Inner.Passes.{EndsAt, Takes, taken_after, Read}

-- ---- one place
pub empty_at : (ps : List ℕ) (k : ℕ) → get_or (empty_block ps) k 0 ≡ 0
unfolding empty_block
empty_at [] k = refl
empty_at (p ∷ ps) zero = refl
empty_at (p ∷ ps) (suc k) = empty_at ps k

quiet_taken : (r : Rule) (z : Bool) (p : ℕ) (ps : List ℕ) (t : Ahead) → r.top p ≡ 0 → taken r z p ps t ≡ 0
unfolding taken taken_by
quiet_taken r z p ps t e = rw e

-- what follows a place that takes a, where going on is worth it by `on`
abbrev following : Rule → List ℕ → (a : ℕ) → (on : Bool) → List ℕ
following r ps a on =
    cond (is_zero a) (read_off r (is_zero a) ps) (cond on (read_off r (is_zero a) ps) (empty_block ps))

quiet_following : (r : Rule) (ps : List ℕ) (k : ℕ) → ((z : Bool) → get_or (read_off r z ps) k 0 ≡ 0) → (a : ℕ)
    (on : Bool)
    → get_or (following r ps a on) k 0 ≡ 0
quiet_following r ps k h zero on = h true
quiet_following r ps k h (suc a) true = h false
quiet_following r ps k h (suc a) false = empty_at ps k

quiet_read : (r : Rule) (z : Bool) (ps : List ℕ) (k : ℕ) → (k < length ps → r.top (get_or ps k 0) ≡ 0)
    → get_or (read_off r z ps) k 0 ≡ 0
unfolding read_off
quiet_read r z [] k e = refl
quiet_read r z (p ∷ ps) zero e = quiet_taken r z p ps (ahead r ps) (e (omega arith))
quiet_read r z (p ∷ ps) (suc k) e =
    quiet_following r ps k (λ z. quiet_read r z ps k (λ h. e (omega arith))) (taken r z p ps (ahead r ps))
    (goes_on r ps (ahead r ps))

-- what place n takes, and whether a nonzero level there goes on
abbrev taken_at : Rule → List ℕ → ℕ → Bool → ℕ
taken_at r ps n z = taken r z (get_or ps n 0) (drop (suc n) ps) (ahead r (drop (suc n) ps))

abbrev goes_on_at : Rule → List ℕ → ℕ → Bool
goes_on_at r ps n = goes_on r (drop (suc n) ps) (ahead r (drop (suc n) ps))

-- place n of ls, where ls from there on is what is read off
module _ (r : Rule) (z : Bool) (ps ls : List ℕ) (n : ℕ) (h : n < length ps) (same : drop n ls
    ≡ read_off r z (drop n ps)) where
  from_there : drop n ls ≡ taken_at r ps n z ∷ following r (drop (suc n) ps) (taken_at r ps n z) (goes_on_at r ps n)
  unfolding read_off
  from_there = same ∙ rw (drop-cons ps n 0 h)

  one_place : (get_or ls n 0 ≡ taken_at r ps n z)
      × (drop (n + 1) ls ≡ following r (drop (suc n) ps) (taken_at r ps n z) (goes_on_at r ps n))
  one_place = (
    ap (λ (k : ℕ). get_or ls k 0) (omega arith) ∙ sym (get_or-drop n ls 0 0)
        ∙ ap (λ (l : List ℕ). get_or l 0 0) from_there,
    sym (drop-drop 1 n ls) ∙ ap (drop 1) from_there,
  )

-- where a place has taken a: the block goes on, or is 0 from the next place on
goes : (r : Rule) (ps rest : List ℕ) (a : ℕ) (on : Bool) → rest ≡ following r ps a on → (1 ≤ a → on ≡ true)
    → rest ≡ read_off r (is_zero a) ps
goes r ps rest zero on q e = q
goes r ps rest (suc a) on q e = q ∙ rw (e (omega arith))

ends_there : (r : Rule) (ps rest : List ℕ) (a : ℕ) (on : Bool) → rest ≡ following r ps a on → 1 ≤ a → on ≡ false
    → (k : ℕ) → get_or rest k 0 ≡ 0
ends_there r ps rest zero on q some e k = absurd (omega arith)
ends_there r ps rest (suc a) on q some e k = ap (λ (l : List ℕ). get_or l k 0) (q ∙ rw e) ∙ empty_at ps k

-- a rule of prices and a scale rounds 0 to 0
pub top_of_0 : (p : Prices) (g : Scale) → (rule_by p g).top 0 ≡ 0
unfolding rule_by
top_of_0 p g = nearest_of_0 g.shift (omega (arith, g.sound.low))

-- ---- the loop, of one block
module _ (r : Rule) (g : Scale) (width height : ℕ) (magnitudes : List ℕ) where
  abbrev kept : ℕ → ℕ
  kept n = kept_at width height magnitudes n

  abbrev ps : List ℕ
  ps = kept_places g width height magnitudes

  abbrev ls : List ℕ
  ls = read_off r false ps

  -- before place n: as much of the block stands, and the rest of it is what is read off of the places that are left
  pub record Reading (levels : List ℕ) (prev n : ℕ) : Type 0 where
    pub room : length levels ≡ width * height
    pub standing : Filled width height n levels ls
    pub going : drop n ls ≡ read_off r (is_zero prev) (drop n ps)

  pub begun : (levels : List ℕ) → length levels ≡ width * height → Cleared levels → Reading levels 1 0
  begun levels room z = record { room = room; standing = filled_none width height levels ls z; going = refl }

  module _ (held : List ℕ) (sc : Scanned width height held) (top : r.top 0 ≡ 0) (end : ℕ)
      (ends : EndsAt width height magnitudes end) where
    quiet_place : (k : ℕ) → k < width * height → kept k ≡ 0 → r.top (get_or ps k 0) ≡ 0
    quiet_place k h e =
        ap r.top
        (place_at width height held sc g magnitudes k h ∙ ap (λ (a : ℕ). a * g.q) e
        ∙ zero-mul g.q)
        ∙ top

    places_many : length ps ≡ width * height
    places_many = places_count width height held sc g magnitudes

    -- from `end` on the block is 0
    tail : (k : ℕ) → end ≤ k → get_or ls k 0 ≡ 0
    tail k h =
        quiet_read r false ps k
        (λ l. let i : k < width * height = omega (arith, places_many) in quiet_place k i (ends.tail k h i))

    pub read : (levels : List ℕ) (prev n : ℕ) → end ≤ n → Reading levels prev n → Read r width height ps levels
    read levels prev n le i =
        record {
          room = i.room;
          levels = filled_all width height levels ls n (λ k l. tail k (omega arith)) i.standing;
        }

    module _ (levels : List ℕ) (prev n : ℕ) (i : Reading levels prev n) (lt : n < end) (t : Taken)
        (takes : Takes r ps n (kept n) t) (a : ℕ) (chose : a ≡ taken_after t prev) (after : List ℕ)
        (puts : after ≡ set levels (scan_at width height n) a) where
      inside : n < width * height
      inside = omega (arith, ends.within)

      is_taken : a ≡ taken_at r ps n (is_zero prev)
      is_taken = chose ∙ by prev
        where
          by : (prev : ℕ) → taken_after t prev ≡ taken_at r ps n (is_zero prev)
          by zero = takes.zero
          by (suc b) = takes.level

      -- something is kept where a nonzero level is taken
      kept_there : 1 ≤ a → 1 ≤ kept n
      kept_there some =
          some_kept _ (λ e. absurd (omega (
            arith,
            is_taken,
            quiet_taken r (is_zero prev) (get_or ps n 0) (drop (suc n) ps)
                (ahead r (drop (suc n) ps)) (quiet_place n inside e),
          )))

      place : (get_or ls n 0 ≡ a) × (drop (n + 1) ls ≡ following r (drop (suc n) ps) a (goes_on_at r ps n))
      place =
          let s = one_place r (is_zero prev) ps ls n (omega (arith, inside, places_many)) i.going in
          (s.0 ∙ sym is_taken, rw is_taken s.1)

      room : length after ≡ width * height
      room = ap length puts ∙ length-set levels (scan_at width height n) a ∙ i.room

      standing : Filled width height (n + 1) after ls
      standing =
          rw puts
          (filled_next width height levels ls n inside held sc i.room a place.0 i.standing)

      pub goes_further : (1 ≤ a → t.goes_on ≡ true) → Reading after a (n + 1)
      goes_further on =
          record {
            room = room;
            standing = standing;
            going =
                goes r (drop (suc n) ps) (drop (n + 1) ls) a (goes_on_at r ps n) place.1
                (λ some. sym (takes.on (kept_there some)) ∙ on some)
                ∙ ap (λ (k : ℕ). read_off r (is_zero a) (drop k ps)) (sym (add-one n));
          }

      pub stops : 1 ≤ a → t.goes_on ≡ false → Read r width height ps after
      stops some off =
          record {
            room = room;
            levels = filled_all width height after ls (n + 1) behind standing;
          }
        where
          behind : (k : ℕ) → n + 1 ≤ k → get_or ls k 0 ≡ 0
          behind k h =
              ap (λ (j : ℕ). get_or ls j 0) (let s : k ≡ n + 1 + (k - (n + 1)) = omega arith in s)
              ∙ sym (get_or-drop (n + 1) ls (k - (n + 1)) 0)
              ∙ ends_there r (drop (suc n) ps) (drop (n + 1) ls) a (goes_on_at r ps n) place.1 some
              (sym (takes.on (kept_there some)) ∙ off) (k - (n + 1))
