-- `residuals::block::four_wide` meets its contract: the last stage over the rows of what the first left of the columns.
use mathlib.Core.Path.{◌≡◌, refl, sym, ◌∙◌, ap, subst}
use Prim.Native.Nat.{ℕ, ◌+◌, ◌*◌, ◌^◌, ◌<◌}
use native.Mathlib.Nat.{mul_comm}
use native.Mathlib.Omega.{arith}
use lib.ListN.{length}
use Rattle.integers.specs.Sum.{at}
use Rattle.residuals.proofs.Whole.{first_within, settled_rows}
use Rattle.residuals.proofs.block.four_wide.Goals as goal

pub last_rows-requires : goal.last_rows-requires
last_rows-requires c =
    let lh = c.args.height.log2 in
    let h = c.length-h in
    -- how many sums the first stage left
    let long : length c.unstage.new.dst ≡ 2 ^ lh * 2 ^ 2 = omega (arith, c.requires.0, mul_comm 4 (2 ^ lh)) in (
      h.ensures.1,
      long ∙ ap (λ (m : ℕ). m * 4) (sym h.ensures.0),
      c.requires.0 ∙ mul_comm 4 (2 ^ lh) ∙ ap (λ (m : ℕ). m * 4) (sym h.ensures.0),
      first_within lh 2 c.args.height.in_range.1 (omega arith) c.turn.new.turned c.unstage.new.dst 4 refl
          c.unstage.ensures long,
    )

pub returns : goal.returns
returns c =
    let h = c.length-h in
    let block = c.args.block.now in
    let columns = c.turn.new.turned in
    settled_rows 2 c.args.height.log2 block columns c.unstage.new.dst
    (λ u v hu hv.
    subst (λ (m : ℕ). at columns (u * m + v) ≡ at block (v * 4 + u)) h.ensures.0
    (c.turn.ensures u v hu (subst (λ (m : ℕ). v < m) (sym h.ensures.0) hv)))
    (λ u y hu hy. c.unstage.ensures.holds u y hu hy)
    c.last_rows.new.block (omega (arith, c.requires.0))
    (λ y k hy hk. c.last_rows.ensures y k (subst (λ (m : ℕ). y < m) (sym h.ensures.0) hy) hk)
