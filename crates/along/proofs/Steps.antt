-- The loop of the walk over magnitudes that are kept by rows: its totals are the walk's over the places passed, its
-- magnitudes those walked, and no total passes 2^62. A place where nothing is kept has m = 0, and is passed; behind the
-- last place where something is kept the walk may stop.
use mathlib.Core.Path.{◌≡◌, refl, sym, ap, subst, ◌∙◌}
use mathlib.Core.Logic.{inl, inr, ⊎_elim}
use mathlib.Core.Bool.{Bool, true, false, cond}
use mathlib.Core.List.{List, [], ◌∷◌}
use Prim.Native.Nat.{ℕ, zero, suc, ◌+◌, ◌-◌, ◌*◌, ◌≤◌, ◌<◌, ◌^◌}
use native.Mathlib.Omega.{arith}
use native.Mathlib.Numerals.{add-one}
use native.Mathlib.Nat.{mul-le-mul, eq-or-lt_of_le, not-suc-le-zero, le_of_suc-le-suc}
use lib.ListN.{length, get_or, set, take, drop, length-set, length-drop, get_or-eq_default}
use lib.Seq.{get_or-drop, drop-cons}
use Rattle.integers.proofs.Order.{below_or_not}
use Rattle.scan.specs.Scan.{scan_at}
use Rattle.price.specs.Level.{nearest, distortion}
use Rattle.price.specs.Rule.{Rule, Allowed, is_zero}
use Rattle.price.specs.Price.{uncoded, nonzeros}
use Rattle.price.specs.Walk.{walked}
use Rattle.price.specs.Inner.OnePass.{Totals, step, walk}
use Rattle.price.proofs.Choice.{length_walked, walked_cheapest}
use Rattle.price.proofs.OnePass.{one_pass_level}
use Rattle.price.proofs.Bounds.{walk_within}
use Rattle.price.proofs.Tail.{Quiet, quiet_walk, walk_parts}
use Rattle.price.proofs.Counting.{ones, one_more, none_more}
use Rattle.scan.specs.Scanned.{Scanned}
use Rattle.scaling.specs.declared.scale.Scale.{Scale}
use Rattle.weights.specs.declared.prices.Prices.{Prices}
use Rattle.weights.specs.declared.kept.Kept.{Kept}
use Rattle.weights.specs.Inner.Prices.{rule_by, rate_by}
use Rattle.weights.specs.Inner.Places.{kept_at, kept_from, kept_places, Weighable, Cleared}
use Rattle.weights.proofs.Filling.{Filled, filled_none, filled_zero, filled_next, filled_all}
use Rattle.weights.proofs.Places.{places_count, place_at, nothing_there, kept_in_all, kept_next, kept_inside, none_kept}
use Rattle.weights.proofs.Places.{some_kept}
use Rattle.step.specs.declared.Walk.{Walk}
use Rattle.step.specs.Inner.Totals.{totals_of, passed, Ready}
use Rattle.step.proofs.Weighing.{quiet}
use Rattle.along.specs.Inner.Walking.{BeginsAt, Begins, WalkedAlong}

-- one place more
walk_next : (r : Rule) (m : ℕ) (w : Totals) (ps : List ℕ) (i : ℕ) → i < length ps
    → walk r m w (take (suc i) ps) ≡ step r (m + i) (walk r m w (take i ps)) (get_or ps i 0)
unfolding walk
walk_next r m w [] i h = absurd (not-suc-le-zero h)
walk_next r m w (p ∷ ps) zero h = ap (λ (k : ℕ). step r k w p) (omega arith)
walk_next r m w (p ∷ ps) (suc i) h =
    walk_next r (suc m) (step r m w p) ps i (le_of_suc-le-suc h)
    ∙ ap (λ (k : ℕ). step r k (walk r (suc m) (step r m w p) (take i ps)) (get_or ps i 0)) (omega arith)

pub allowed_below : (m a : ℕ) → Allowed m a → a ≤ m
allowed_below m a (inl e) = omega arith
allowed_below m a (inr (inl e)) = omega arith
allowed_below m a (inr (inr e)) = omega arith

uncoded_first : (r : Rule) (ps : List ℕ) (i : ℕ) → i < length ps → r.dist (get_or ps i 0) 0 ≤ uncoded r (drop i ps)
unfolding uncoded
uncoded_first r ps i h = rw (drop-cons ps i 0 h) (omega arith)

-- a block's walk is one over magnitudes that are kept by rows
pub of_block : (k : Kept) (first : Walk) → Begins k first
    → BeginsAt k.weights.prices k.weights.scale first k.scan.w k.scan.h k.magnitudes.now
of_block k first b = record { weighable = k.choosable.weighable; left = b.left; base = b.base }

module _ (p : Prices) (g : Scale) (w₀ : Walk) (width height : ℕ) (kept : List ℕ) where
  abbrev r : Rule
  r = rule_by p g

  abbrev ps : List ℕ
  ps = kept_places g width height kept

  abbrev ls : List ℕ
  ls = walked r (is_zero w₀.prev) ps

  abbrev total : ℕ → Totals
  total n = walk r 0 (totals_of w₀) (take n ps)

  -- the loop before place n, with `left` places to step at
  pub record Walking (levels : List ℕ) (w : Walk) (end left n : ℕ) : Type 0 where
    pub place : n ≤ width * height
    pub room : length levels ≡ width * height
    pub same : totals_of w ≡ total n
    pub standing : Filled width height n levels ls
    pub ended : end ≤ n
    pub tail : (k : ℕ) → end ≤ k → k < n → get_or ls k 0 ≡ 0
    pub rest : left ≡ kept_from width height kept n

  module _ (held : List ℕ) (sc : Scanned width height held) (b : BeginsAt p g w₀ width height kept) where
    abbrev ok : Weighable p g width height kept
    ok = b.weighable

    next : (n : ℕ) → n < width * height → total (n + 1) ≡ step r n (total n) (kept_at width height kept n * g.q)
    next n h =
        ap (λ (k : ℕ). total k) (add-one n)
        ∙ walk_next r 0 (totals_of w₀) ps n (omega (arith, places_count width height held sc g kept))
        ∙ ap (λ (k : ℕ). step r k (total n) (get_or ps n 0)) (omega arith)
        ∙ ap (step r n (total n)) (place_at width height held sc g kept n h)

    free : (z : Bool) → r.rate z 0 ≤ 2 ^ 48
    unfolding rule_by rate_by
    free true = p.modest.zeros
    free false = p.modest.zero

    more_small : r.more ≤ 2 ^ 48
    unfolding rule_by
    more_small = p.modest.more

    pub bounded : (n : ℕ) → n ≤ width * height → (total n).base ≤ 2 ^ 62
    bounded n h =
        let x = (walk_within r (2 ^ 48) free 0 (totals_of w₀) ps n b.left).1 in
        let y : n * (2 ^ 48 + r.more) ≤ 4096 * (2 ^ 48 + 2 ^ 48) =
        mul-le-mul (let k : n ≤ 4096 = omega (arith, sc.few) in k)
        (let k : 2 ^ 48 + r.more ≤ 2 ^ 48 + 2 ^ 48 = omega (arith, more_small) in k) in
        omega (arith, b.base)

    by_dist : (L : ℕ) → r.dist L 0 ≡ distortion g.shift g.error L 0
    unfolding rule_by
    by_dist L = refl

    enough : (n : ℕ) → n < width * height
        → distortion g.shift g.error (kept_at width height kept n * g.q) 0 ≤ (total n).base
    enough n h =
        let x = (walk_within r (2 ^ 48) free 0 (totals_of w₀) ps n b.left).0 in
        let y = uncoded_first r ps n (omega (arith, places_count width height held sc g kept)) in
        omega (
          arith,
          by_dist (get_or ps n 0),
          ap (λ (L : ℕ). distortion g.shift g.error L 0)
              (place_at width height held sc g kept n h),
        )

    level_at : (n : ℕ) → n < width * height → (total (n + 1)).prev ≡ get_or ls n 0
    level_at n h =
        ap (λ (k : ℕ). (total k).prev) (add-one n)
        ∙ one_pass_level r 0 (totals_of w₀) ps n (omega (arith, places_count width height held sc g kept))

    level_below : (n : ℕ) → n < width * height → get_or ls n 0 ≤ nearest g.shift (kept_at width height kept n * g.q)
    unfolding rule_by
    level_below n h =
        let a = allowed_below _ _
        (walked_cheapest r (is_zero w₀.prev) ps n (omega (arith, places_count width height held sc g kept))).allowed in
        omega (arith, ap (nearest g.shift) (place_at width height held sc g kept n h))

    level_small : (n : ℕ) → n < width * height → get_or ls n 0 ≤ 32767
    level_small n h = omega (arith, level_below n h, (ok.fine (scan_at width height n)).level)

    pub begun : (levels : List ℕ) (left : ℕ) → length levels ≡ width * height → Cleared levels → left ≡ nonzeros kept
        → Walking levels w₀ 0 left 0
    unfolding walk
    begun levels left e z q =
        record {
          place = omega arith;
          room = e;
          same = refl;
          standing = filled_none width height levels ls z;
          ended = omega arith;
          tail = λ k l h. absurd (not-suc-le-zero h);
          rest = q ∙ kept_in_all width height kept held sc ok.room;
        }

    -- while a place is left to step at, n lies inside the block
    pub going : (levels : List ℕ) (w : Walk) (end left n : ℕ) → Walking levels w end left n → 0 < left
        → n < width * height
    going levels w end left n i h = kept_inside width height kept held sc n (omega (arith, i.rest))

    module _ (levels : List ℕ) (w : Walk) (end left n : ℕ) (i : Walking levels w end left n)
        (h : n < width * height) where
      pub base_small : w.base ≤ 2 ^ 62
      base_small = omega (arith, ap (λ (t : Totals). t.base) i.same, bounded n i.place)

      pub ready : 1 ≤ kept_at width height kept n → Ready p g w n (kept_at width height kept n * g.q)
      ready o =
          record {
            fine = ok.fine (scan_at width height n);
            some = ok.some (scan_at width height n) o;
            left = omega (arith, ap (λ (t : Totals). t.base) i.same, enough n h);
            base = base_small;
            place = omega (arith, sc.few);
          }

      below_next : (P : ℕ → Type 0) → ((k : ℕ) → k < n → P k) → P n → (k : ℕ) → k < n + 1 → P k
      below_next P old new k l =
          ⊎_elim (λ (e : k ≡ n). subst P (sym e) new) (λ (q : k < n). old k q)
          (eq-or-lt_of_le (le_of_suc-le-suc (subst (λ (m : ℕ). k < m) (add-one n) l)))

      rest_next : left ≡ ones (kept_at width height kept n) + kept_from width height kept (n + 1)
      rest_next = i.rest ∙ kept_next width height kept held sc n h

      pub passes : (v : Walk) → kept_at width height kept n ≡ 0 → totals_of v ≡ passed p (totals_of w)
          → Walking levels v end left (n + 1)
      passes v e q =
          let s : totals_of v ≡ total (n + 1) =
          q ∙ ap (passed p) i.same
          ∙ sym (next n h
          ∙ quiet p g n (total n) (kept_at width height kept n * g.q)
          (nothing_there g (kept_at width height kept n) e) (enough n h)) in
          let l : get_or ls n 0 ≡ 0 = sym (level_at n h) ∙ sym (ap (λ (t : Totals). t.prev) s)
          ∙ ap (λ (t : Totals). t.prev) q in
          record {
            place = omega arith;
            room = i.room;
            same = s;
            standing = filled_zero width height levels ls n h l i.standing;
            ended = omega (arith, i.ended);
            tail =
                λ k m lt.
                below_next (λ (k : ℕ). end ≤ k → get_or ls k 0 ≡ 0) (λ j lt le. i.tail j le lt) (λ le. l) k lt m;
            rest = omega (arith, rest_next, none_more (kept_at width height kept n) e);
          }

      module _ (v : Walk) (q : totals_of v ≡ step r n (totals_of w) (kept_at width height kept n * g.q)) where
        stepped : totals_of v ≡ total (n + 1)
        stepped = q ∙ ap (λ (t : Totals). step r n t (kept_at width height kept n * g.q)) i.same ∙ sym (next n h)

        taken : v.prev ≡ get_or ls n 0
        taken = ap (λ (t : Totals). t.prev) stepped ∙ level_at n h

        pub taken_small : v.prev ≤ 32767
        taken_small = omega (arith, taken, level_small n h)

        pub steps : (e : ℕ) → e ≡ cond (is_zero v.prev) end (n + 1) → (kept_at width height kept n ≡ 0 → ⊥)
            → Walking (set levels (scan_at width height n) v.prev) v e (left - 1) (n + 1)
        steps e f some =
            record {
              place = omega arith;
              room = length-set levels (scan_at width height n) v.prev ∙ i.room;
              same = stepped;
              standing = filled_next width height levels ls n h held sc i.room v.prev (sym taken) i.standing;
              ended = ended_by v.prev f;
              tail = tail_by v.prev f taken;
              rest = omega (arith, rest_next, one_more (kept_at width height kept n) some);
            }
          where
            ended_by : (a : ℕ) → e ≡ cond (is_zero a) end (n + 1) → e ≤ n + 1
            ended_by zero f = omega (arith, i.ended)
            ended_by (suc a) f = omega arith

            tail_by : (a : ℕ) → e ≡ cond (is_zero a) end (n + 1) → a ≡ get_or ls n 0 → (k : ℕ) → e ≤ k → k < n + 1
                → get_or ls k 0 ≡ 0
            tail_by zero f t k m lt =
                below_next (λ (k : ℕ). end ≤ k → get_or ls k 0 ≡ 0) (λ j lt le. i.tail j le lt) (λ le. sym t) k lt
                (omega arith)
            tail_by (suc a) f t k m lt = absurd (let z : ⊥ = omega arith in z)

    -- the same, of what code finds at place n: there the walk steps or passes
    module _ {levels : List ℕ} {w : Walk} {end left n : ℕ} (i : Walking levels w end left n) (more : 0 < left)
        {s t a : ℕ} (hs : s ≡ n) (ht : t ≡ scan_at width height s) (ha : (d : ℕ) → a ≡ get_or kept t d) where
      inside_n : n < width * height
      inside_n = going levels w end left n i more

      place_is : t ≡ scan_at width height n
      place_is = ht ∙ ap (scan_at width height) hs

      value_is : a ≡ kept_at width height kept n
      value_is = ha 0 ∙ ap (λ (k : ℕ). get_or kept k 0) place_is

      pub passes_at : a ≡ 0 → (v : Walk) → totals_of v ≡ passed p (totals_of w) → Walking levels v end left (n + 1)
      passes_at e v q = passes levels w end left n i inside_n v (sym value_is ∙ e) q

      module _ (some : a ≡ 0 → ⊥) where
        pub ready_at : Ready p g w n (a * g.q)
        ready_at =
            subst (λ (b : ℕ). Ready p g w n (b * g.q)) (sym value_is)
            (ready levels w end left n i inside_n (some_kept _ (λ e. some (value_is ∙ e))))

        module _ (v : Walk) (q : totals_of v ≡ step r n (totals_of w) (a * g.q)) where
          by_kept : totals_of v ≡ step r n (totals_of w) (kept_at width height kept n * g.q)
          by_kept = q ∙ ap (λ (b : ℕ). step r n (totals_of w) (b * g.q)) value_is

          pub taken_at : v.prev ≤ 32767
          taken_at = taken_small levels w end left n i inside_n v by_kept

          pub steps_at : (after : List ℕ) → after ≡ set levels t v.prev → (e : ℕ)
              → e ≡ cond (is_zero v.prev) end (n + 1) → Walking after v e (left - 1) (n + 1)
          steps_at after put e f =
              subst (λ (l : List ℕ). Walking l v e (left - 1) (n + 1))
              (sym (put ∙ ap (λ (k : ℕ). set levels k v.prev) place_is))
              (steps levels w end left n i inside_n v by_kept e f (λ z. some (value_is ∙ z)))

    behind_none : (k : ℕ) → width * height ≤ k → get_or ls k 0 ≡ 0
    behind_none k h =
        get_or-eq_default ls 0
        (omega (arith, length_walked r (is_zero w₀.prev) ps, places_count width height held sc g kept))

    -- no place is left to step at: nothing is kept from n on
    module _ (levels : List ℕ) (w : Walk) (end left n : ℕ) (i : Walking levels w end left n) (none : left ≡ 0) where
      none_there : (k : ℕ) → n ≤ k → k < width * height → kept_at width height kept k ≡ 0
      none_there = none_kept width height kept held sc n (sym i.rest ∙ none)

      none_walked : (k : ℕ) → n ≤ k → get_or ls k 0 ≡ 0
      none_walked k m =
          ⊎_elim (λ (lt : k < width * height). omega (
            arith,
            level_below k lt,
            nothing_there g (kept_at width height kept k) (none_there k m lt),
          ))
          (λ (le : width * height ≤ k). behind_none k le)
          (below_or_not k (width * height))

      quiet_behind : Quiet r (drop n ps)
      unfolding rule_by
      quiet_behind k h =
          let lt : n + k < width * height = omega (arith, length-drop n ps, places_count width height held sc g kept) in
          ap r.top (get_or-drop n ps k 0 ∙ place_at width height held sc g kept (n + k) lt)
          ∙ nothing_there g (kept_at width height kept (n + k)) (none_there (n + k) (omega arith) lt)

      stopped : ((walk r 0 (totals_of w₀) ps).best ≡ (total n).best)
          × ((walk r 0 (totals_of w₀) ps).cut ≡ (total n).cut)
      stopped = rw (← walk_parts r 0 (totals_of w₀) ps n) (quiet_walk r (0 + n) (total n) (drop n ps) quiet_behind)

      pub walked_over : WalkedAlong p g w₀ width height kept levels (record { walk = w; end = end })
      walked_over =
          record {
            best = ap (λ (t : Totals). t.best) i.same ∙ sym stopped.0;
            cut = ap (λ (t : Totals). t.cut) i.same ∙ sym stopped.1;
            room = i.room;
            levels = filled_all width height levels ls n none_walked i.standing;
            within = omega (arith, i.ended, i.place);
            tail = λ k l. ⊎_elim (λ (q : k < n). i.tail k l q) (λ (q : n ≤ k). none_walked k q) (below_or_not k n);
          }
