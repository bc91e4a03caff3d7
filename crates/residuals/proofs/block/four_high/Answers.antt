-- `residuals::block::four_high` meets its contract: the last stage over the columns of what the first left.
use mathlib.Core.Path.{◌≡◌, refl, sym, ◌∙◌, ap, subst}
use Prim.Native.Nat.{ℕ, ◌+◌, ◌*◌, ◌^◌, ◌<◌}
use native.Mathlib.Nat.{mul_comm}
use native.Mathlib.Omega.{arith}
use lib.ListN.{length}
use Rattle.integers.specs.Sum.{at}
use Rattle.fours.specs.Inner.Last.{last_at}
use Rattle.residuals.proofs.Whole.{first_within, settled_columns}
use Rattle.residuals.proofs.block.four_high.Goals as goal

pub last_columns-requires : goal.last_columns-requires
last_columns-requires c =
    let lw = c.args.width.log2 in
    let w = c.length-w in
    -- how many sums the first stage left
    let long : length c.unstage.new.dst ≡ 2 ^ lw * 2 ^ 2 = omega (arith, c.requires.0) in (
      w.ensures.1,
      long ∙ ap (λ (m : ℕ). m * 4) (sym w.ensures.0),
      c.requires.0 ∙ mul_comm (2 ^ lw) 4 ∙ ap (λ (m : ℕ). 4 * m) (sym w.ensures.0),
      first_within lw 2 c.args.width.in_range.1 (omega arith) c.args.block.now c.unstage.new.dst 4 refl
          c.unstage.ensures long,
    )

pub returns : goal.returns
returns c =
    let w = c.length-w in
    let x = c.unstage.new.dst in
    let out = c.last_columns.new.block in
    let long : length x ≡ 2 ^ c.args.width.log2 * 2 ^ 2 = omega (arith, c.requires.0) in
    settled_columns c.args.width.log2 2 c.args.width.in_range.1 (omega arith) c.args.block.now x 4 refl
    c.unstage.ensures long out (omega (arith, c.requires.0))
    (λ u y hu hy.
    subst (λ (m : ℕ). at out (y * m + u) ≡ last_at x u y) w.ensures.0
    (c.last_columns.ensures u y (subst (λ (m : ℕ). u < m) (sym w.ensures.0) hu) hy))
