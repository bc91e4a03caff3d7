-- Luma's count, price and levels in an accepted call depend on no chroma setting, cost or sample: two accepted calls
-- that agree on luma's sides, settings and residuals, on whether luma is run, on the two flags and on the rows of the
-- cost tables that luma reads, agree on what is answered of luma and on what is left in its stretch.
use mathlib.Core.Path.{◌≡◌, refl, sym, ap, subst, ◌∙◌}
use mathlib.Core.Bool.{Bool, true, false, cond}
use Prim.Native.Nat.{ℕ, ◌+◌, ◌<◌}
use lib.Dec.{lit≤}
use lib.ListN.{get_or}
use Rattle.refusals.specs.declared.Component.{Component}
use Rattle.refusals.specs.declared.Component.TheVariants.{Y, U, «V»}
use Rattle.transform.specs.Coefficients.{coefficients}
use Rattle.price.specs.declared.Costs.{Costs}
use Rattle.price.specs.Costs.{Rows, entry, run_row}
use Rattle.price.specs.Rows.{rows_of}
use Rattle.coding.specs.declared.Coded.{Coded}
use Rattle.coding.specs.Block.{Quant, rows_here, count_of, price_of, quantised}
use Rattle.coding.proofs.OwnRows.{SamePair, SameRows}
use Rattle.coding.proofs.OwnRows as own
use Rattle.components.specs.Call.{SubBlock, runs, stretch, trans_of, quant_on, quant_of, count, price, share, coded}
use Rattle.components.specs.Call.{levels, sub_block_answer}
use Rattle.components.proofs.Answer.{coded_tells, coded_accepted}
use Rattle.components.proofs.Alone.{left_in, left_is, answer_of_three}

-- run and level: the two rows of luma; last: its row; cbf: the rows all and luma
pub record SameLumaCosts (a b : Costs) : Type 0 where
  pub run : (i : ℕ) → i < 4 → get_or a.run i 0 ≡ get_or b.run i 0
  pub level : (i : ℕ) → i < 4 → get_or a.level i 0 ≡ get_or b.level i 0
  pub last : (i : ℕ) → i < 2 → get_or a.last i 0 ≡ get_or b.last i 0
  pub cbf : (i : ℕ) → i < 4 → get_or a.cbf i 0 ≡ get_or b.cbf i 0

-- of the run mask only bit 0 counts, and of the buffer only luma's stretch
pub record SameLuma (s t : SubBlock) : Type 0 where
  pub mode : s.mode ≡ t.mode
  pub fixed : s.fixed ≡ t.fixed
  pub rows : t.fixed.rows ≡ rows_of
  pub lw : s.lw ≡ t.lw
  pub lh : s.lh ≡ t.lh
  pub settings : s.settings.y ≡ t.settings.y
  pub run : runs Y s ≡ runs Y t
  pub slice : s.intra_slice ≡ t.intra_slice
  pub coded : s.intra_coded ≡ t.intra_coded
  pub residuals : stretch Y s ≡ stretch Y t
  pub costs : SameLumaCosts s.costs t.costs

luma_rows : (intra_coded : Bool) (a b : Costs) → SameLumaCosts a b → SameRows (rows_of Y intra_coded) a b
unfolding rows_of entry run_row
luma_rows intra_coded a b same =
    record {
      run = run;
      level = (same.level 0 (lit≤ tt), same.level 1 (lit≤ tt));
      further = (same.level 2 (lit≤ tt), same.level 3 (lit≤ tt));
      last = (same.last 0 (lit≤ tt), same.last 1 (lit≤ tt));
      cbf = cbf intra_coded;
    }
  where
    run : (z : Bool) → SamePair a.run b.run (0 + cond z 1 0)
    run true = (same.run 2 (lit≤ tt), same.run 3 (lit≤ tt))
    run false = (same.run 0 (lit≤ tt), same.run 1 (lit≤ tt))

    cbf : (c : Bool) → SamePair a.cbf b.cbf (cond c 1 0)
    cbf true = (same.cbf 2 (lit≤ tt), same.cbf 3 (lit≤ tt))
    cbf false = (same.cbf 0 (lit≤ tt), same.cbf 1 (lit≤ tt))

module _ (s t : SubBlock) (same : SameLuma s t) where
  -- luma's call by the cost tables of either
  abbrev by : Costs → Quant
  by c = own.with_costs (quant_of Y t) c

  moved : quant_of Y s ≡ by s.costs
  unfolding quant_of quant_on trans_of
  moved =
      λ i. record {
        buffer = coefficients (same.residuals i) (same.lw i) (same.lh i);
        lw = same.lw i;
        lh = same.lh i;
        component = Y;
        settings = same.settings i;
        intra_slice = same.slice i;
        intra_coded = same.coded i;
        costs = s.costs;
        mode = same.mode i;
        fixed = same.fixed i;
      }

  its_own : quant_of Y t ≡ by t.costs
  unfolding quant_of quant_on trans_of
  its_own = refl

  rows : SameRows (rows_here (quant_of Y t)) s.costs t.costs
  unfolding rows_here quant_of quant_on
  rows =
      subst (λ (of : Component → Bool → Rows). SameRows (of Y t.intra_coded) s.costs t.costs)
      (sym same.rows) (luma_rows t.intra_coded s.costs t.costs same.costs)

  -- what depends on the cost tables by luma's rows alone
  luma_by : {A : Type 0} (of : Quant → A) → of (by s.costs) ≡ of (by t.costs)
      → of (quant_of Y s) ≡ of (quant_of Y t)
  luma_by of e = ap of moved ∙ e ∙ ap of (sym its_own)

  counts : count_of (quant_of Y s) ≡ count_of (quant_of Y t)
  counts =
      luma_by count_of
      (own.count_same (quant_of Y t) s.costs t.costs rows)

  prices : price_of (quant_of Y s) ≡ price_of (quant_of Y t)
  prices =
      luma_by price_of
      (own.price_same (quant_of Y t) s.costs t.costs rows)

  written : quantised (quant_of Y s) ≡ quantised (quant_of Y t)
  written =
      luma_by quantised
      (own.levels_same (quant_of Y t) s.costs t.costs rows)

  pub luma_share : share Y s ≡ share Y t
  unfolding share count price
  luma_share = λ i. record { count = cond (same.run i) (counts i) 0; price = cond (same.run i) (prices i) 0 }

  pub luma_levels : levels Y s ≡ levels Y t
  unfolding levels
  luma_levels = λ i. cond (same.run i) (written i) (same.residuals i)

  pub luma_alone : (y u v y' u' v' : Coded) → sub_block_answer s ≡ coded y u v → sub_block_answer t ≡ coded y' u' v'
      → (y ≡ y') × (left_in Y s ≡ left_in Y t)
  luma_alone y u v y' u' v' e f =
      let a = coded_accepted s y u v e in
      let b = coded_accepted t y' u' v' f in
      let g = answer_of_three s a in
      let h = answer_of_three t b in
      let k = coded_tells (share Y s) (share U s) (share «V» s) y u v (sym g ∙ e) in
      let l = coded_tells (share Y t) (share U t) (share «V» t) y' u' v' (sym h ∙ f) in
      (sym k.0 ∙ luma_share ∙ l.0, left_is s a Y ∙ luma_levels ∙ sym (left_is t b Y))
