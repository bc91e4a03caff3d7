-- `butterfly::add_times` meets its contract: the entries before k have been added to, those from k on are as
-- they were.
use Rattle.std.proofs.Common.{arith, rules, sym, ◌∙◌, ◌≡◌, ◌+◌, ◌*◌, ◌^◌, ◌<◌, map, ap}
use Rattle.std.proofs.lemmas.List.{get_or-map}
use lib.Seq.{get_or-set_other}
use lib.IntN.{ℤ, pos, nat_abs, ◌+ℤ◌, ◌*ℤ◌}
use mir.Syntax.{w32}
use mir.Val.{SFits, to_z, of_z}
use Rattle.integers.specs.Sum.{at}
use Rattle.integers.proofs.Fit.{product_fits, step_fits, step_is}
use Rattle.integers.proofs.Fill.{filled_more}
use Rattle.butterfly.proofs.add_times.Given.{Over}
use Rattle.butterfly.proofs.add_times.Goals as goal
use Rattle.butterfly.proofs.add_times.Goals.{After-wide}

module _ (g : Over) (c : goal.After-wide g) where
  entry : c.wide.result ≡ at (map g.T.Number.value c.args.t.now) c.loop-k.k
  entry =
      c.wide.ensures
      ∙ ap g.T.Number.value c.index-t-k.is
      ∙ sym (get_or-map g.T.Number.value c.args.t.now c.loop-k.k c.index-t-k.result (pos 0) (omega arith))

  -- what stands at k is still the first, and with the product it stays below 2^31
  room : nat_abs (at c.loop-k.b c.loop-k.k) + nat_abs c.wide.result * nat_abs c.wide-z.result < 2 ^ 31
  room =
      rw (c.loop-k.invariant.1 c.loop-k.k (omega arith), entry, c.wide-z.ensures)
      (c.requires.by_index c.loop-k.k (omega arith))

  factor : SFits w32 c.wide.result
  factor = search rules

  value : SFits w32 c.wide-z.result
  value = search rules

pub overflow_mul-b : goal.overflow_mul-b
overflow_mul-b g c = product_fits w32 (at c.loop-k.b c.loop-k.k) _ _ (factor g c) (value g c) (room g c)

pub overflow_add-b : goal.overflow_add-b
overflow_add-b g c =
    let at_wide = (goal.at.overflow_add-b g c).After-wide in
    step_fits w32 (at c.loop-k.b c.loop-k.k) _ _ (factor g at_wide) (value g at_wide) (room g at_wide)

pub loop-k-preserved : goal.loop-k-preserved
loop-k-preserved g c =
    let at_wide = (goal.at.loop-k-preserved g c).After-wide in
    let f = g.T.Number.value in
    let l = c.loop-k in
    let k = l.k in
    let same : to_z w32 (of_z w32 c.wide-z.result) ≡ c.wide-z.result = search rules in (
      filled_more (pos 0) l.b
          (λ i. at c.args.b.now i +ℤ at (map f c.args.t.now) i *ℤ to_z w32 (of_z w32 c.wide-z.result)) k _ (omega arith)
          (step_is w32 (at l.b k) _ _ (factor g at_wide) (value g at_wide) (room g at_wide)
          ∙ ap (λ (z : ℤ). z +ℤ c.wide.result *ℤ c.wide-z.result) (l.invariant.1 k (omega arith))
          ∙ ap (λ (z : ℤ). at c.args.b.now k +ℤ z *ℤ c.wide-z.result) (entry g at_wide)
          ∙ ap (λ (z : ℤ). at c.args.b.now k +ℤ at (map f c.args.t.now) k *ℤ z) (sym same))
          l.invariant.0,
      λ i h. get_or-set_other l.b k i _ (pos 0) (λ q. omega arith) ∙ l.invariant.1 i (omega arith),
    )
