-- The cut: levels from it on are 0, and before it as they were walked. With the walk from its first totals that is the
-- block that the definition writes, and its price.
use mathlib.Core.Path.{◌≡◌, refl, sym, ap, subst, ◌∙◌}
use mathlib.Core.Logic.{◌⊎◌, inl, inr, ⊎_elim, ◌≢◌}
use mathlib.Core.Bool.{Bool, true, false, cond, ◌&&◌}
use mathlib.Core.List.{List, [], ◌∷◌}
use Prim.Native.Nat.{ℕ, zero, suc, ◌+◌, ◌*◌, ◌≤◌, ◌<◌, max}
use native.Mathlib.Omega.{arith}
use native.Mathlib.Nat.{eq-or-lt_of_le}
use lib.Dec.{ltb, leb, eqb, leb-suc-suc}
use lib.ListN.{length, get_or, set, length-set}
use lib.Seq.{get_or-set_same, get_or-set_other}
use borrow.Author.Tests.{ltb-true, ltb-false, eqb-true, eqb-false, lt-ltb, le-ltb, le-leb, lt-leb}
use Rattle.integers.proofs.Order.{below_or_not}
use Rattle.scan.specs.Scan.{scan_at}
use Rattle.scan.proofs.OneToOne.{scan_inside, scan_apart}
use Rattle.price.specs.Price.{uncoded, price}
use Rattle.price.specs.Walk.{walked, cut_at, cut_of, written}
use Rattle.price.specs.Inner.OnePass.{Totals, start_with, walk}
use Rattle.price.proofs.OnePass.{one_pass_cut_with, one_pass_price_with}
use Rattle.scan.specs.Scanned.{Scanned}
use Rattle.price.specs.Rule.{Rule}
use Rattle.weights.specs.declared.kept.Kept.{Kept}
use Rattle.weights.specs.Inner.Prices.{rule_by}
use Rattle.weights.specs.Inner.Places.{Standing}
use Rattle.weights.specs.Inner.Chosen.{rule_of, places_of, ChosenBy}
use Rattle.step.specs.Inner.Totals.{totals_of}
use Rattle.along.specs.declared.Walked.{Walked}
use Rattle.along.specs.Inner.Walking.{WalkedOver}
use Rattle.walk.specs.Inner.Cutting.{first_totals, CutBehind}

cut_at_lem : (c : ℕ) (ls : List ℕ) (k : ℕ) → get_or (cut_at c ls) k 0 ≡ cond (ltb k c) (get_or ls k 0) 0
unfolding cut_at
cut_at_lem c [] k = none (ltb k c)
  where
    none : (t : Bool) → ◌≡◌ {A = ℕ} 0 (cond t 0 0)
    none true = refl
    none false = refl
cut_at_lem zero (a ∷ ls) zero = refl
cut_at_lem zero (a ∷ ls) (suc k) = cut_at_lem zero ls k ∙ rw (le-ltb k 0 (omega arith), le-ltb (suc k) 0 (omega arith))
cut_at_lem (suc c) (a ∷ ls) zero = rw (lt-ltb 0 (suc c) (omega arith))
cut_at_lem (suc c) (a ∷ ls) (suc k) =
    cut_at_lem c ls k ∙ ap (λ (t : Bool). cond t (get_or ls k 0) 0) (sym (leb-suc-suc (suc k) c))

cut_levels : (width height cut end : ℕ) (ls before after : List ℕ) → Standing width height before ls
    → ((k : ℕ) → end ≤ k → get_or ls k 0 ≡ 0)
    → CutBehind width height cut end before after → Standing width height after (cut_at cut ls)
cut_levels width height cut end ls before after s t c k h =
    c.levels k h ∙ go ∙ sym (cut_at_lem cut ls k)
  where
    old : get_or before (scan_at width height k) 0 ≡ get_or ls k 0
    old = s k h

    go : cond (leb cut k && ltb k (max cut end)) 0 (get_or before (scan_at width height k) 0)
        ≡ cond (ltb k cut) (get_or ls k 0) 0
    go =
        ⊎_elim
        (λ (q : k < cut). rw (lt-leb cut k q, lt-ltb k cut q) old)
        (λ (q : cut ≤ k).
        ⊎_elim (λ (m : k < max cut end). rw (le-leb cut k q, lt-ltb k (max cut end) m, le-ltb k cut q))
        (λ (m : max cut end ≤ k). rw (le-leb cut k q, le-ltb k (max cut end) m, le-ltb k cut q) (old
        ∙ t k (omega arith)))
        (below_or_not k (max cut end)))
        (below_or_not k cut)

-- ---- the whole, from the first totals
module _ (k : Kept) where
  abbrev r : Rule
  r = rule_of k

  abbrev ps : List ℕ
  ps = places_of k

  abbrev whole : Totals
  whole = walk r 0 (totals_of (first_totals k.weights.prices k.d)) ps

  from_start : whole ≡ walk r 0 (start_with r k.d) ps
  unfolding start_with rule_by
  from_start = refl

  whole_cut : whole.cut ≡ cut_of r ps
  whole_cut = ap (λ (t : Totals). t.cut) from_start ∙ one_pass_cut_with r ps k.d k.choosable.left

  whole_price : whole.best + uncoded r ps ≡ k.d + price r (written r ps) ps
  whole_price =
      ap (λ (t : Totals). t.best + uncoded r ps) from_start ∙ one_pass_price_with r ps k.d k.choosable.left

  pub chosen_by : (before after : List ℕ) (o : Walked) → WalkedOver k (first_totals k.weights.prices k.d) before o
      → CutBehind k.scan.w k.scan.h o.walk.cut o.end before after
      → ChosenBy written k after o.walk.best
  unfolding written
  chosen_by before after o by c =
      let ls = walked r false ps in
      record {
        room = c.room;
        levels =
            subst (λ (n : ℕ). Standing k.scan.w k.scan.h after (cut_at n ls)) (by.cut ∙ whole_cut)
            (cut_levels k.scan.w k.scan.h o.walk.cut o.end ls before after by.levels by.tail c);
        price = ap (λ (x : ℕ). x + uncoded r ps) by.best ∙ whole_price;
      }

-- the loop that cuts: at n it has put 0 at the places from the cut to n
module _ (width height cut : ℕ) (held : List ℕ) (sc : Scanned width height held) (before : List ℕ) where
  pub cut_none : length before ≡ width * height → CutBehind width height cut cut before before
  cut_none e = record { room = e; levels = λ k h. sym (none k (ltb k cut) refl) }
    where
      none : (k : ℕ) (t : Bool) → ltb k cut ≡ t
          → cond (leb cut k && ltb k (max cut cut)) 0 (get_or before (scan_at width height k) 0)
          ≡ get_or before (scan_at width height k) 0
      none k true e = let q = ltb-true k cut e in rw (lt-leb cut k q)
      none k false e =
          let q = ltb-false k cut e in
          rw (le-leb cut k q, le-ltb k (max cut cut) (let m : max cut cut ≤ k = omega arith in m))

  pub cut_more : (n : ℕ) (levels : List ℕ) → cut ≤ n → n < width * height → CutBehind width height cut n before levels
      → CutBehind width height cut (n + 1) before (set levels (scan_at width height n) 0)
  cut_more n levels le lt c =
      record {
        room = length-set levels (scan_at width height n) 0
            ∙ c.room;
        levels = λ k h. ⊎_elim (here k h) (there k h) (same_or_not k n);
      }
    where
      same_or_not : (k n : ℕ) → (k ≡ n) ⊎ (k ≢ n)
      same_or_not k n = go (eqb k n) refl
        where
          go : (t : Bool) → eqb k n ≡ t → (k ≡ n) ⊎ (k ≢ n)
          go true e = inl (eqb-true k n e)
          go false e = inr (eqb-false k n e)

      here : (k : ℕ) → k < width * height → k ≡ n
          → get_or (set levels (scan_at width height n) 0) (scan_at width height k) 0
          ≡ cond (leb cut k && ltb k (max cut (n + 1))) 0 (get_or before (scan_at width height k) 0)
      here k h e =
          let l : cut ≤ k = omega arith in
          let u : k < max cut (n + 1) = omega arith in
          let i = scan_inside width height sc.wide sc.high n (omega (arith, sc.full)) in
          ap (λ (m : ℕ). get_or (set levels (scan_at width height n) 0) (scan_at width height m) 0) e
          ∙ get_or-set_same levels (scan_at width height n) 0 0 (omega (arith, c.room))
          ∙ rw (le-leb cut k l, lt-ltb k (max cut (n + 1)) u)

      same_test : (k : ℕ) → k ≢ n → ltb k (max cut n) ≡ ltb k (max cut (n + 1))
      same_test k ne =
          ⊎_elim
          (λ (q : k < max cut n). lt-ltb k (max cut n) q
          ∙ sym (lt-ltb k (max cut (n + 1)) (let m : k < max cut (n + 1) = omega arith in m)))
          (λ (q : max cut n ≤ k). le-ltb k (max cut n) q ∙ sym (le-ltb k (max cut (n + 1)) (over_it q)))
          (below_or_not k (max cut n))
        where
          over_it : max cut n ≤ k → max cut (n + 1) ≤ k
          over_it q =
              ⊎_elim (λ (e : n ≡ k). absurd (ne (sym e))) (λ (l : n < k). omega arith)
              (eq-or-lt_of_le (let m : n ≤ k = omega arith in m))

      there : (k : ℕ) → k < width * height → k ≢ n
          → get_or (set levels (scan_at width height n) 0) (scan_at width height k) 0
          ≡ cond (leb cut k && ltb k (max cut (n + 1))) 0 (get_or before (scan_at width height k) 0)
      there k h ne =
          get_or-set_other levels (scan_at width height n) (scan_at width height k) 0 0
          (λ e. ne (scan_apart width height sc.wide sc.high k n (omega (arith, sc.full))
          (omega (arith, sc.full))
          e))
          ∙ c.levels k h
          ∙ ap (λ (t : Bool). cond (leb cut k && t) 0 (get_or before (scan_at width height k) 0)) (same_test k ne)

  pub cut_done : (n end : ℕ) (levels : List ℕ) → n ≡ max cut end → cut ≤ n → CutBehind width height cut n before levels
      → CutBehind width height cut end before levels
  cut_done n end levels e le c =
      let q : max cut n ≡ max cut end = omega arith in
      record {
        room = c.room;
        levels = λ k h. c.levels k h
            ∙ ap (λ (m : ℕ). cond (leb cut k && ltb k m) 0 (get_or before (scan_at width height k) 0)) q;
      }
