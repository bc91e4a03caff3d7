-- What comes of a block behind refusals 1 to 5, by what code finds of it, step by step: it is skipped, or the first of
-- refusals 6 to 9 that holds is said, or it is written. Each step is said once, and rests on those before it.
use mathlib.Core.Path.{◌≡◌, sym, ap, subst, ◌∙◌}
use mathlib.Core.Bool.{true, false, not}
use mathlib.Core.List.{List, [], ◌∷◌}
use Prim.Native.Nat.{ℕ, suc, ◌+◌, ◌*◌, ◌^◌, ◌≤◌, ◌<◌}
use native.Mathlib.Nat.{mul-le-mul_left}
use native.Mathlib.Numerals.{add-one}
use native.Mathlib.Omega.{arith}
use lib.Dec.{leb, ltb}
use lib.IntN.{ℤ, nat_abs, negsuc}
use borrow.Author.Tests.{lt-ltb, le-ltb, eq-eqb, ne_eqb}
use Rattle.integers.specs.Sum.{at, over, on_ℕ}
use Rattle.integers.specs.Tests.{some, eq_ℤ}
use Rattle.tables.specs.Scales.{forward, scale_of}
use Rattle.refusals.specs.Faults.{Fault, Outcome, refused}
use Rattle.refusals.proofs.First.{First, here, later, but, end}
use Rattle.price.specs.Level.{shift_of, scaled, threshold}
use Rattle.price.specs.declared.Costs.{Costs}
use Rattle.price.specs.Costs.{Rows, entry}
use Rattle.price.proofs.Rates.{costs_in_range}
use Rattle.price.specs.Rows.{rows_of}
use Rattle.contexts.specs.Inner.Rows.{rows_in}
use Rattle.coding.specs.Block.{Quant, called, rule_of, is_skipped, lambda_here}
use Rattle.coding.specs.Call.{quant_faults, sample_fault, level_fault, price_fault, distortion_fault, largest_here}
use Rattle.coding.specs.Call.{uncoded_here, coded, quant_answer, quant_buffer}
use Rattle.coefficients.specs.Inner.Coefficients.{Held, energy, zero_distortion}
use Rattle.tables.proofs.Range.{scale_range}
use Rattle.coefficients.proofs.Reaching.{lowest_reaches, within_largest}
use Rattle.coefficients.proofs.Small.{energy_at_most}
use Rattle.quantise.proofs.Accepting.{each_small, all_few, all_fine, skipped_energy, held_is}
use Rattle.quantise.proofs.Accepting.{held_beyond}
use Rattle.quantise.proofs.Answer.{refused_answer, skipped_here, largest_here_lem, uncoded_here_lem, uncoded_is}
use Rattle.quantise.proofs.Answer.{sample_here, level_here, price_here, distortion_here, past_early}
use Rattle.quantise.proofs.Answer.{empty_here, skipped_d, skipped_answer, coded_answer}
use Rattle.coding.specs.declared.Coding.{Coding}
use Rattle.scaling.specs.declared.scale.Scale.{Scale}
use Rattle.scaling.specs.Inner.Scale.{ScaleOf}
use Rattle.coefficients.specs.Inner.Coefficients.{Reached, Largest}
use Rattle.price.specs.Level.{nearest}
use Rattle.price.specs.Lambda.{LambdaWhole}
use Rattle.contexts.specs.declared.Contexts.{Contexts}
use Rattle.contexts.specs.Inner.Rows.{ContextsOf}
use Rattle.contexts.specs.Inner.Reading.{EmptyPrice, PricesOf}
use Rattle.weights.specs.declared.prices.Prices.{Prices}
use Rattle.quantise.specs.Inner.Early.{EarlyPassed}
use Rattle.std.specs.Prelude.{Option, Some, None, is_none, replicate, pos, length}
use Rattle.refusals.specs.Numbers.{number_of, component_of}
use Rattle.coding.specs.declared.Coded.{Coded}
use Rattle.quantise.specs.Inner.Skip.{Skippable, SkippedAs}
use Rattle.levels.specs.Inner.Levels.{Codable, CodedAs}

module _ {B : List ℤ} {t : Costs} {k : Coding} (early : EarlyPassed B t k) {g : Scale}
    (scaled-by : ScaleOf forward k.log2 k.settings.qp g) where
  -- the call that is asked for, and what is to be said of it
  abbrev pub asked : Quant
  asked = called B t k

  abbrev pub Answered : Outcome Coded → List ℤ → Type 0
  Answered o after = (o ≡ quant_answer asked) × (after ≡ quant_buffer asked)

  scale_low : 14564 ≤ g.q
  scale_low = omega (arith, scaled-by.q, scale_range k.settings.qp)

  -- its D, by the scale that code has
  d_is : uncoded_here asked ≡ over on_ℕ (zero_distortion g) B
  d_is = uncoded_here_lem B t k early g scaled-by

  -- the first of the faults that are left
  refuses : {f : Fault Quant} → First asked f quant_faults
      → Answered (refused (number_of f.refusal) (component_of (f.component asked))) B
  unfolding called
  refuses h = let e = refused_answer asked h in (sym e.0, sym e.1)

  module _ {limit : ℕ}
      (limited : (limit ≡ threshold k.intra_slice (shift_of k.log2 k.settings.qp)) × (1 ≤ limit) × (limit ≤ 2 ^ 28))
    where
      -- whether the block is skipped
      skipped_is : {r : Option ℕ} → Reached g.q limit B r → is_skipped asked ≡ not (is_none r)
      skipped_is reached =
          skipped_here B t k early
          ∙ ap (λ (n : ℕ). not (some (λ z. leb n (scaled (scale_of forward k.settings.qp) z)) B)) (sym limited.0)
          ∙ ap (λ (q : ℕ). not (some (λ z. leb limit (scaled q z)) B)) (sym scaled-by.q)
          ∙ ap not (sym reached.walked)

      pub walked_is : Reached g.q limit B None → is_skipped asked ≡ false
      walked_is reached = skipped_is reached

      -- ---- a skipped block: it has no -32768, and its coefficients are small
      module _ {top : ℕ} (reached : Reached g.q limit B (Some top)) where
        none_lowest : some (λ z. eq_ℤ z (negsuc 32767)) B ≡ false
        none_lowest =
            lowest_reaches limit g.q (omega (arith, limited.2, scaled-by.q, scale_range k.settings.qp)) B
            (sym reached.walked)

        skip_few : top ≤ 32767
        skip_few = omega (arith, reached.below, limited.2, mul-le-mul_left top scale_low)

        skip_energy : over on_ℕ energy B ≤ 2 ^ 31
        unfolding threshold
        skip_energy =
            let below : top * g.q ≤ 2 ^ shift_of k.log2 k.settings.qp = omega (arith, reached.below, limited.0) in
            omega (
              arith,
              energy_at_most B top (λ n. omega (arith, within_largest B n, reached.top)),
              skipped_energy k.log2 k.settings.qp g.q top (omega (arith, early.high)) early.qp scale_low below,
              ap (λ (n : ℕ). n * (top * top)) early.long,
            )

        pub skippable : (empty : ℕ) → empty ≤ 2 ^ 48 → Skippable g B top empty
        skippable empty modest =
            record {
              largest = reached.top;
              few = all_few B top reached.top skip_few;
              small = skip_energy;
              whole = omega (arith, skipped_d B t k early (skipped_is reached) none_lowest, d_is);
              modest = modest;
            }

        pub skipped : {lambda : ℕ} → LambdaWhole k.settings.lambda lambda → (on : Contexts)
            → ContextsOf k.component k.intra_coded on → {empty : ℕ} → EmptyPrice lambda t (rows_in on) empty
            → {r : Coded} → SkippedAs g B empty r → {after : List ℤ} → after ≡ replicate (length B) (pos 0)
            → Answered (coded r.count r.price) after
        unfolding lambda_here called
        skipped {lambda = lambda} weighed on rows e {r = r} skip cleared =
            let a = skipped_answer B t k early (skipped_is reached) none_lowest in
            let flag : lambda * entry t.cbf (rows_of k.component k.intra_coded).cbf 0 ≡ (rule_of asked).empty =
            ap (λ (n : ℕ). n * entry t.cbf (rows_of k.component k.intra_coded).cbf 0) weighed.is
            ∙ sym (empty_here B t k early) in
            let x : r.price ≡ uncoded_here asked + (rule_of asked).empty =
            omega (arith, skip.price, d_is, e.is, ap (λ (o : Rows). lambda * entry t.cbf o.cbf 0) rows, flag) in (
              ap (λ (n : ℕ). coded n r.price) skip.count ∙ ap (coded 0) x ∙ sym a.0,
              cleared ∙ sym a.1,
            )

  -- ---- a block that is walked: the faults that are past, and what comes first behind them comes first of all
  module _ (walked : is_skipped asked ≡ false) {top : ℕ} (tops : Largest B top) where
    pub sample_said : top ≡ 32768 → Answered (refused 6 (component_of k.component)) B
    unfolding called sample_fault
    sample_said e =
        refuses (past_early B t k early (here (sample_here B t k early true (tops.lowest ∙ eq-eqb _ 32768 e))))

    -- the largest coefficient is no -32768
    module _ (ne : top ≡ 32768 → ⊥) where
      few : top ≤ 32767
      few = below_next top tops.small ne
        where
          below_next : (n : ℕ) → n ≤ 32768 → (n ≡ 32768 → ⊥) → n ≤ 32767
          below_next n h ne = omega arith

      pub within : (j : ℕ) → nat_abs (at B j) ≤ 32767
      within = all_few B top tops.is few

      sample_no : sample_fault.holds asked ≡ false
      sample_no = sample_here B t k early false (tops.lowest ∙ ne_eqb _ 32768 ne)

      past_2 : {f : Fault Quant} → First asked f (level_fault ∷ price_fault ∷ distortion_fault ∷ [])
          → First asked f quant_faults
      past_2 h = past_early B t k early (later sample_no h)

      module _ {m : ℕ} (ms : (m ≡ nearest g.shift (top * g.q)) × (m ≤ 4194304)) where
        -- M
        largest_is : largest_here asked ≡ m
        largest_is = largest_here_lem B t k early g scaled-by top tops.is ∙ sym ms.0

        pub level_said : 32767 < m → Answered (refused 7 (component_of k.component)) B
        unfolding called level_fault
        level_said h =
            refuses (past_2 (here (level_here B t k early walked true (ap (ltb 32767) largest_is ∙ lt-ltb 32767 m h))))

        module _ (less : m ≤ 32767) {lambda : ℕ} (weighed : LambdaWhole k.settings.lambda lambda) where
          past_3 : {f : Fault Quant} → First asked f (price_fault ∷ distortion_fault ∷ []) → First asked f quant_faults
          past_3 h =
              past_2 (later (level_here B t k early walked false (ap (ltb 32767) largest_is ∙ le-ltb 32767 m less)) h)

          -- lambda·(M + 1)
          weight_is : lambda_here asked * suc (largest_here asked) ≡ lambda * (m + 1)
          unfolding lambda_here called
          weight_is = rw (largest_is, add-one, weighed.is)

          pub price_said : 2 ^ 41 < lambda * (m + 1) → Answered (refused 8 (component_of k.component)) B
          unfolding called price_fault
          price_said h =
              refuses
              (past_3 (here (price_here B t k early walked true (ap (ltb (2 ^ 41)) weight_is ∙ lt-ltb (2 ^ 41) _ h))))

          -- D
          module _ (light : lambda * (m + 1) ≤ 2 ^ 41) {d : ℕ} (held : Held (over on_ℕ (zero_distortion g) B) d) where
            past_4 : {f : Fault Quant} → First asked f (distortion_fault ∷ []) → First asked f quant_faults
            past_4 h =
                past_3
                (later (price_here B t k early walked false (ap (ltb (2 ^ 41)) weight_is ∙ le-ltb (2 ^ 41) _ light)) h)

            pub distortion_said : 2 ^ 60 < d → Answered (refused 9 (component_of k.component)) B
            unfolding called distortion_fault
            distortion_said h =
                refuses
                (past_4 (here (distortion_here B t k early walked true
                (ap (ltb (2 ^ 60)) d_is ∙ lt-ltb (2 ^ 60) _ (held_beyond _ _ held h)))))

            -- ---- nothing is wrong with it
            module _ (small : d ≤ 2 ^ 60) (on : Contexts) (rows : ContextsOf k.component k.intra_coded on)
                {costs : Costs} (same : costs ≡ t)
                {p : Prices} (priced : PricesOf 32768 lambda costs (rows_in on) p) where
              lambda_is : lambda ≡ lambda_here asked
              unfolding lambda_here called
              lambda_is = weighed.is

              by_rows : PricesOf 32768 lambda t (rows_of k.component k.intra_coded) p
              by_rows =
                  subst (λ (o : Rows). PricesOf 32768 lambda t o p) rows
                  (subst (λ (u : Costs). PricesOf 32768 lambda u (rows_in on) p) same priced)

              prices : PricesOf 32768 (lambda_here asked) t (rows_of k.component k.intra_coded) p
              prices = subst (λ (n : ℕ). PricesOf 32768 n t (rows_of k.component k.intra_coded) p) lambda_is by_rows

              pub codable : Codable p g (2 ^ k.log2) (2 ^ k.log2) B d
              codable =
                  record {
                    room = early.long;
                    fine =
                        all_fine B top tops.is few g p lambda m ms.0 less (omega (arith, light, add-one m))
                        (each_small 32768 lambda t (rows_of k.component k.intra_coded) p (costs_in_range early.costs)
                        by_rows);
                    few = within;
                    is = (held_is _ _ held small).0 ∙ sym d_is ∙ uncoded_is B t k early g scaled-by p prices;
                    small = small;
                  }

              pub written : {after : List ℤ} {r : Coded} → CodedAs k.mode p g (2 ^ k.log2) (2 ^ k.log2) B after r
                  → Answered (coded r.count r.price) after
              written c =
                  let a =
                  coded_answer B t k early g scaled-by walked
                  (but sample_no
                  (but (level_here B t k early walked false (ap (ltb 32767) largest_is ∙ le-ltb 32767 m less))
                  (but (price_here B t k early walked false (ap (ltb (2 ^ 41)) weight_is ∙ le-ltb (2 ^ 41) _ light))
                  (but (distortion_here B t k early walked false
                  (ap (ltb (2 ^ 60)) d_is ∙ le-ltb (2 ^ 60) _ (held_is _ _ held small).1))
                  end))))
                  p prices _ _ c in
                  (sym a.0, sym a.1)
