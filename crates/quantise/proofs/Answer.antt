-- What the definition answers of document 01's call, as code finds it: the faults one by one, and skip, M, D and the
-- rule by the numbers that code works out from the block by rows.
use mathlib.Core.Path.{◌≡◌, refl, sym, ap, subst, fun_ext, ◌∙◌}
use mathlib.Core.Bool.{Bool, true, false, not, ◌||◌}
use mathlib.Core.List.{List, [], ◌∷◌, map}
use Prim.Native.Nat.{ℕ, suc, ◌+◌, ◌*◌, ◌/◌, ◌^◌, ◌≤◌, ◌<◌, max}
use native.Mathlib.Omega.{arith}
use lib.Dec.{leb, ltb}
use lib.Pow.{pow_pos}
use lib.ListN.{length, replicate, length-replicate, get_or-replicate}
use lib.Seq.{take_all, ext_get_or}
use lib.IntN.{ℤ, pos, negsuc, nat_abs}
use borrow.Author.Tests.{lt-ltb, le-ltb, le-leb}
use Rattle.integers.specs.Sum.{at, Addition, over, on_ℕ, on_max, on_or}
use Rattle.integers.specs.Tests.{some, eq_ℤ}
use Rattle.integers.proofs.Sums.{Lawful, nats}
use Rattle.integers.proofs.Over.{tests, maxima, some_over, over_map}
use Rattle.scan.specs.Scan.{scan, scan_at}
use Rattle.tables.specs.Scales.{forward, scale_of, error_scale}
use Rattle.tables.proofs.Range.{scale_range}
use Rattle.scan.proofs.OneToOne.{scan_length}
use Rattle.scan.proofs.Order.{scan_over, scan_hit}
use Rattle.scan.specs.Order.{laid, in_order}
use Rattle.scan.proofs.Laid.{laid_length}
use Rattle.refusals.specs.Numbers.{number_of, component_of}
use Rattle.refusals.specs.Sides.{most_log2}
use Rattle.refusals.specs.Faults.{Fault, refused, outside, passed}
use Rattle.refusals.proofs.First.{First, later, None, end, but, refused_with_the_first, accepted_without_a_fault}
use Rattle.price.specs.declared.Settings.{Settings}
use Rattle.price.specs.Lambda.{lambda_refused}
use Rattle.price.specs.Level.{shift_of, scaled, nearest, distortion, threshold}
use Rattle.price.specs.declared.Costs.{Costs}
use Rattle.price.specs.Costs.{Rows, cost_refused, entry, rate}
use Rattle.price.specs.Rule.{Rule}
use Rattle.price.specs.Price.{uncoded, nonzeros, price}
use Rattle.coding.specs.declared.Coded.{Coded}
use Rattle.scaling.specs.declared.scale.Scale.{Scale}
use Rattle.weights.specs.declared.prices.Prices.{Prices}
use Rattle.price.specs.Rows.{rows_of}
use Rattle.price.proofs.Bounds.{uncoded_over}
use Rattle.coding.specs.declared.Coding.{Coding}
use Rattle.coding.specs.Block.{Quant, called, written_in, log2_of, area, scale_here, shift_here, lambda_here}
use Rattle.coding.specs.Block.{rows_here, rule_of, block_places, scanned, places, is_skipped, largest, magnitudes}
use Rattle.coding.specs.Block.{signs}
use Rattle.coding.specs.Block.{count_of, price_of, quantised}
use Rattle.coding.specs.Call.{side_fault, qp_fault, lambda_fault, cost_fault, length_fault, sample_fault, largest_here}
use Rattle.coding.specs.Call.{level_fault, price_fault, uncoded_here, distortion_fault, quant_faults, quant_verdict}
use Rattle.coding.specs.Call.{coded, quant_answer, quant_buffer}
use Rattle.scaling.specs.Inner.Scale.{ScaleOf}
use Rattle.weights.specs.Inner.Prices.{rule_by, rate_by}
use Rattle.contexts.specs.Inner.Reading.{PricesOf}
use Rattle.quantise.specs.Inner.Early.{EarlyPassed}
use Rattle.coefficients.specs.Inner.Coefficients.{zero_distortion}
use Rattle.levels.specs.Inner.Levels.{places_by, CodedAs}
use Rattle.contexts.proofs.Pricing.{rate_weighed}
use Rattle.coefficients.proofs.Reaching.{largest_is}
use Rattle.coding.proofs.Promises.{skipped_is_cleared, skipped_count_and_price}
use Rattle.coding.proofs.Skipped.{skipped_d_below}

-- ---- the two ways out
module _ (c : Quant) where
  pub refused_answer : {f : Fault Quant} → First c f quant_faults
      → (quant_answer c ≡ refused (number_of f.refusal) (component_of (f.component c)))
      × (quant_buffer c ≡ c.buffer)
  unfolding quant_answer quant_buffer quant_verdict
  refused_answer h = let e = refused_with_the_first c quant_faults h in rw e (refl, refl)

  pub accepted_answer : None c quant_faults → (quant_answer c ≡ coded (count_of c) (price_of c))
      × (quant_buffer c ≡ quantised c)
  unfolding quant_answer quant_buffer quant_verdict
  accepted_answer h = let e = accepted_without_a_fault c quant_faults h in rw e (refl, refl)

-- the faults that the coefficients show, behind those of sides, settings, costs and length
abbrev pub late : List (Fault Quant)
late = sample_fault ∷ level_fault ∷ price_fault ∷ distortion_fault ∷ []

-- sums over places are sums over the block
largest_over : (m : ℕ → ℕ) (ps : List ℕ) → largest m ps ≡ over on_max m ps
unfolding largest over
largest_over m [] = refl
largest_over m (p ∷ ps) = ap (max (m p)) (largest_over m ps)

-- a rule by its numbers
made : (shift error : ℕ) → (Bool → ℕ → ℕ) → (coded empty more last : ℕ) → Rule
made shift error rate coded empty more last =
    record {
      top = nearest shift;
      dist = distortion shift error;
      rate = rate;
      coded = coded;
      empty = empty;
      more = more;
      last = last;
    }

module _ (B : List ℤ) (t : Costs) (a : Coding) where
  abbrev pub call : Quant
  call = called B t a

  -- its inputs by short names
  abbrev l : ℕ
  l = a.log2

  abbrev s : Settings
  s = a.settings

  abbrev intra : Bool
  intra = a.intra_slice

  abbrev rows : Rows
  rows = rows_of a.component a.intra_coded

  -- ---- the first five faults
  pub side_test : (b : Bool) → outside 1 most_log2 l ≡ b → side_fault.holds call ≡ b
  unfolding side_fault called
  side_test b e = rw e (twice b)
    where
      twice : (b : Bool) → (b || b) ≡ b
      twice true = refl
      twice false = refl

  side_right : 1 ≤ l → l ≤ most_log2 → side_fault.holds call ≡ false
  unfolding side_fault called
  side_right g h = rw (le-leb 1 l g, le-leb l most_log2 h)

  pub qp_high : 63 < s.qp → qp_fault.holds call ≡ true
  unfolding qp_fault called
  qp_high h = lt-ltb 63 s.qp h

  pub qp_right : s.qp ≤ 63 → qp_fault.holds call ≡ false
  unfolding qp_fault called
  qp_right h = le-ltb 63 s.qp h

  pub lambda_test : (b : Bool) → lambda_refused s.lambda ≡ b → lambda_fault.holds call ≡ b
  unfolding lambda_fault called
  lambda_test b e = e

  pub cost_test : (b : Bool) → cost_refused t ≡ b → cost_fault.holds call ≡ b
  unfolding cost_fault called
  cost_test b e = e

  pub length_low : length B < 2 ^ l * 2 ^ l → length_fault.holds call ≡ true
  unfolding length_fault called area
  length_low h = lt-ltb (length B) (2 ^ l * 2 ^ l) h

  pub length_right : 2 ^ l * 2 ^ l ≤ length B → length_fault.holds call ≡ false
  unfolding length_fault called area
  length_right h = le-ltb (length B) (2 ^ l * 2 ^ l) h

  -- ---- a block that has its own buffer
  module _ (early : EarlyPassed B t a) where
    abbrev side : ℕ
    side = 2 ^ l

    some_side : 1 ≤ side
    some_side = pow_pos l

    full : length (scan side side) ≡ side * side
    full = scan_length l l early.high early.high

    in_block : {A : Type 0} {o : Addition A} → Lawful o → (f : ℤ → A) → over o f (in_order side side B) ≡ over o f B
    in_block {o = o} a f =
        scan_over side side some_side some_side full a f B (pos 0) (omega (arith, early.long))
        ∙ ap (over o f) (take_all (side * side) B (omega (arith, early.long)))

    half_sum : (l + l) / 2 ≡ l
    half_sum = omega arith

    pub scanned_here : scanned call ≡ in_order side side B
    unfolding scanned block_places called
    scanned_here = refl

    -- q is a scale of document 01's
    scale_here_lem : 14564 ≤ scale_here call
    unfolding scale_here called
    scale_here_lem = (scale_range s.qp).0

    -- the empty block's flag
    pub empty_here : (rule_of call).empty ≡ lambda_here call * entry t.cbf rows.cbf 0
    unfolding rule_of rows_here called
    empty_here = refl

    -- the quick skip
    pub skipped_here : is_skipped call
        ≡ not (some (λ z. leb (threshold intra (shift_of l s.qp)) (scaled (scale_of forward s.qp) z)) B)
    unfolding is_skipped shift_here log2_of places scanned block_places scale_here called
    skipped_here =
        let u = threshold intra (shift_of l s.qp) in
        let q = scale_of forward s.qp in
        ap (λ (n : ℕ). not
        (some (λ L. leb (threshold intra (shift_of n s.qp)) L) (map (λ z. scaled q z) (in_order side side B))))
        half_sum
        ∙ ap not
        (some_over (λ L. leb u L) (map (λ z. scaled q z) (in_order side side B))
        ∙ over_map on_or (λ L. leb u L) (λ z. scaled q z) (in_order side side B)
        ∙ in_block tests (λ z. leb u (scaled q z))
        ∙ sym (some_over (λ z. leb u (scaled q z)) B))

    -- ---- the last four faults
    pub sample_here : (b : Bool) → some (λ z. eq_ℤ z (negsuc 32767)) B ≡ b → sample_fault.holds call ≡ b
    unfolding sample_fault called area
    sample_here b e =
        ap (some (λ z. eq_ℤ z (negsuc 32767))) (take_all (2 ^ l * 2 ^ l) B (omega (arith, early.long))) ∙ e

    module _ (not-skipped : is_skipped call ≡ false) where
      pub level_here : (b : Bool) → ltb 32767 (largest_here call) ≡ b → level_fault.holds call ≡ b
      unfolding level_fault
      level_here b e = rw not-skipped e

      pub price_here : (b : Bool) → ltb (2 ^ 41) (lambda_here call * suc (largest_here call)) ≡ b
          → price_fault.holds call ≡ b
      unfolding price_fault
      price_here b e = rw not-skipped e

      pub distortion_here : (b : Bool) → ltb (2 ^ 60) (uncoded_here call) ≡ b → distortion_fault.holds call ≡ b
      unfolding distortion_fault
      distortion_here b e = rw not-skipped e

    pub past_early : {f : Fault Quant} → First call f late → First call f quant_faults
    unfolding quant_faults
    past_early h =
        later (side_right early.low early.high)
        (later (qp_right early.qp)
        (later (lambda_test false early.lambda)
        (later (cost_test false early.costs) (later (length_right (omega (arith, early.long))) h))))

    pub none_at_all : None call late → None call quant_faults
    unfolding quant_faults
    none_at_all h =
        but (side_right early.low early.high)
        (but (qp_right early.qp)
        (but (lambda_test false early.lambda)
        (but (cost_test false early.costs) (but (length_right (omega (arith, early.long))) h))))

    -- ---- a skipped block becomes all 0, with count 0 and the price of an empty block
    module _ (yes : is_skipped call ≡ true) (none : some (λ z. eq_ℤ z (negsuc 32767)) B ≡ false) where
      no_fault : None call quant_faults
      unfolding level_fault price_fault distortion_fault
      no_fault = none_at_all (but (sample_here false none) (but (rw yes) (but (rw yes) (but (rw yes) end))))

      skip_accepted : quant_verdict call ≡ passed
      unfolding quant_verdict
      skip_accepted = accepted_without_a_fault call quant_faults no_fault

      cleared : quant_buffer call ≡ replicate (length B) (pos 0)
      unfolding quantised called area
      cleared =
          ext_get_or (pos 0) (quant_buffer call) (replicate (length B) (pos 0))
          (kept ∙ sym (length-replicate (length B) (pos 0)))
          (λ b h.
          let inside : b < length B = omega (arith, kept) in
          let q = scan_hit side side some_side some_side full b (omega (arith, early.long)) in
          subst (λ (n : ℕ). at (quant_buffer call) n ≡ pos 0) q.2 (at_place q.0 q.1)
          ∙ sym (get_or-replicate (length B) b (pos 0) (pos 0) inside))
        where
          kept : length (quant_buffer call) ≡ length B
          kept =
              ap length (accepted_answer call no_fault).1
              ∙ laid_length (block_places call) (signs (scanned call) (magnitudes call)) B

          at_place : (n : ℕ) → n < side * side → at (quant_buffer call) (scan_at side side n) ≡ pos 0
          at_place n h = skipped_is_cleared call skip_accepted yes n h

      pub skipped_d : uncoded_here call < 2 ^ 57
      skipped_d = skipped_d_below call skip_accepted scale_here_lem yes

      pub skipped_answer : (quant_answer call ≡ coded 0 (uncoded_here call + (rule_of call).empty))
          × (quant_buffer call ≡ replicate (length B) (pos 0))
      skipped_answer = (skipped_count_and_price call skip_accepted yes, cleared)

    -- ---- the numbers by a scale
    module _ (g : Scale) (w : ScaleOf forward l s.qp g) where
      pub shift_here_lem : shift_here call ≡ g.shift
      unfolding shift_here log2_of called
      shift_here_lem = ap (λ (n : ℕ). shift_of n s.qp) half_sum ∙ sym w.shift

      pub places_here : places call ≡ places_by g side side B
      unfolding places scanned block_places scale_here called
      places_here = ap (λ (q : ℕ). map (λ z. scaled q z) (in_order side side B)) (sym w.q)

      -- M
      pub largest_here_lem : (top : ℕ) → top ≡ over on_max nat_abs B → largest_here call ≡ nearest g.shift (top * g.q)
      unfolding largest_here
      largest_here_lem top e =
          let m = nearest g.shift in
          ap (λ (n : ℕ). largest (nearest n) (places call)) shift_here_lem
          ∙ ap (largest m) places_here
          ∙ largest_over m (places_by g side side B)
          ∙ over_map on_max m (λ z. scaled g.q z) (in_order side side B)
          ∙ in_block maxima (λ z. m (scaled g.q z))
          ∙ largest_is g.shift g.q (omega (arith, g.sound.low)) B
          ∙ ap (λ (n : ℕ). m (n * g.q)) (sym e)

      error_here : error_scale ((l + l) / 2) (scale_of forward s.qp) ≡ g.error
      error_here =
          ap (λ (n : ℕ). error_scale n (scale_of forward s.qp)) half_sum ∙ ap (error_scale l) (sym w.q) ∙ sym w.error

      -- D
      dist_here : (L : ℕ) → (rule_of call).dist L 0 ≡ distortion g.shift g.error L 0
      unfolding rule_of log2_of scale_here called
      dist_here L = rw (shift_here_lem, error_here)

      pub uncoded_here_lem : uncoded_here call ≡ over on_ℕ (zero_distortion g) B
      unfolding uncoded_here
      uncoded_here_lem =
          uncoded_over (rule_of call) (places call)
          ∙ ap (λ (f : ℕ → ℕ). over on_ℕ f (places call)) (fun_ext dist_here)
          ∙ ap (over on_ℕ (λ L. distortion g.shift g.error L 0)) places_here
          ∙ over_map on_ℕ (λ L. distortion g.shift g.error L 0) (λ z. scaled g.q z) (in_order side side B)
          ∙ in_block nats (zero_distortion g)

      -- the rule
      module _ (p : Prices) (e : PricesOf 32768 (lambda_here call) t rows p) where
        pub rule_here : rule_of call ≡ rule_by p g
        unfolding rule_of rule_by rows_here log2_of scale_here called made
        rule_here =
            let rate_here : (z : Bool) (a : ℕ) → lambda_here call * rate 32768 t rows z a ≡ rate_by p z a =
            λ z a. sym (rate_weighed 32768 (lambda_here call) t rows p e z a) in
            let f = made g.shift g.error in
            ap (λ (n : ℕ). made n (error_scale ((l + l) / 2) (scale_of forward s.qp))
            (λ z a. lambda_here call * rate 32768 t rows z a)
            (lambda_here call * entry t.cbf rows.cbf 1) (lambda_here call * entry t.cbf rows.cbf 0)
            (lambda_here call * entry t.last rows.last 0) (lambda_here call * entry t.last rows.last 1)) shift_here_lem
            ∙ rw (error_here, ← e.coded, ← e.empty, ← e.more, ← e.last)
            (ap (λ (r : Bool → ℕ → ℕ). f r p.coded p.empty p.more p.last) (fun_ext (λ z. fun_ext (rate_here z))))

        pub uncoded_is : uncoded_here call ≡ uncoded (rule_by p g) (places_by g side side B)
        unfolding uncoded_here
        uncoded_is =
            ap (λ (r : Rule). uncoded r (places call)) rule_here ∙ ap (uncoded (rule_by p g)) places_here

      -- ---- a block without a fault
      module _ (no : is_skipped call ≡ false) (no_fault : None call late)
          (p : Prices) (e : PricesOf 32768 (lambda_here call) t rows p) where
        mode_here : call.mode ≡ a.mode
        unfolding called
        mode_here = refl

        written_here : magnitudes call ≡ written_in a.mode (rule_by p g) (places_by g side side B)
        unfolding magnitudes
        written_here = rw no (rw (mode_here, rule_here p e, places_here))

        price_is : price_of call ≡ price (rule_of call) (magnitudes call) (places call)
        unfolding price_of
        price_is = refl

        pub coded_answer : (after : List ℤ) (r : Coded) → CodedAs a.mode p g side side B after r
            → (quant_answer call ≡ coded r.count r.price) × (quant_buffer call ≡ after)
        unfolding count_of quantised block_places called
        coded_answer after r c =
            let ok = accepted_answer call (none_at_all no_fault) in
            let n : count_of call ≡ r.count = ap nonzeros written_here ∙ sym c.count in
            let x : price_of call ≡ r.price =
            price_is
            ∙ ap (λ (R : Rule). price R (magnitudes call) (places call)) (rule_here p e)
            ∙ ap (λ (ms : List ℕ). price (rule_by p g) ms (places call)) written_here
            ∙ ap (price (rule_by p g) (written_in a.mode (rule_by p g) (places_by g side side B))) places_here
            ∙ sym c.price in (
              ok.0 ∙ ap (λ (y : ℕ). coded y (price_of call)) n ∙ ap (coded r.count) x,
              ok.1
                  ∙ ap (λ (ms : List ℕ). laid (scan side side) (signs (scanned call) ms) B) written_here
                  ∙ ap (λ (zs : List ℤ). laid (scan side side) (signs zs (written_in a.mode (rule_by p g)
                  (places_by g side side B))) B) scanned_here
                  ∙ sym c.buffer,
            )
