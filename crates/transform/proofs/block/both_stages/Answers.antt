-- `transform::block::both_stages` meets its contract: the two stages are the double sum, and what is left is to round.
use mathlib.Core.Path.{◌≡◌, refl, ap, subst}
use mathlib.Core.List.{List}
use Prim.Native.Nat.{ℕ, ◌+◌, ◌^◌, ◌≤◌}
use native.Mathlib.Omega.{arith}
use lib.Pow.{pow_mono}
use lib.IntN.{ℤ}
use Rattle.refusals.specs.Sides.{most_log2}
use Rattle.tables.specs.Matrix.{matrix}
use Rattle.stages.specs.Inner.Stages.{Staged}
use Rattle.halves.specs.Inner.Halves.{half}
use Rattle.transform.proofs.Whole.{first_within, second_room, settle_within, settled, widened_room}
use Rattle.transform.proofs.Whole.{widened_stage, largest, half_same, half_less}
use Rattle.transform.proofs.block.both_stages.Goals as goal
use Rattle.transform.proofs.block.both_stages.Goals.{After-stage}

-- the halves of a block of 32 by 32
halves : (lw lh : ℕ) → lw ≤ most_log2 → lh ≤ most_log2 → lw + lh ≡ 10 → (b a : List ℤ) → Staged matrix half 5 32 b a 32
    → Staged matrix half lh (2 ^ lw) b a (2 ^ lw)
halves lw lh hw hh t b a s =
    subst (λ (l : ℕ). Staged matrix half l (2 ^ lw) b a (2 ^ lw)) (let e : 5 ≡ lh = omega arith in e)
    (subst (λ (n : ℕ). Staged matrix half 5 n b a n) (ap (λ (l : ℕ). 2 ^ l) (let e : 5 ≡ lw = omega arith in e)) s)

-- the sums of the second stage on a block that is smaller
seconds : (lh lw w : ℕ) (b a : List ℤ) → w ≡ 2 ^ lw → Staged matrix (λ z. z) lh w b a w
    → Staged matrix (λ z. z) lh (2 ^ lw) b a (2 ^ lw)
seconds lh lw w b a e = subst (λ (n : ℕ). Staged matrix (λ z. z) lh n b a n) e

-- the first stage of the block
module _ (c : After-stage) where
  first : Staged matrix (λ z. z) c.args.width.log2 (2 ^ c.args.height.log2) c.args.block.now c.stage.new.dst
      (2 ^ c.args.height.log2)
  first =
      widened_stage c.args.width.log2 c.args.height.log2 c.args.width.in_range.1 c.args.height.in_range.1
      c.args.block.now c.requires.block_len.0
      c.requires.by_index c.widen.new.wide (omega arith) c.widen.ensures c.length.result c.stage.new.dst
      c.length.ensures.0 c.stage.ensures

pub stage-requires-clause-room : goal.stage-requires-clause-room
stage-requires-clause-room c =
    let w = c.args.width in
    let h = c.args.height in (
      c.length.ensures.1,
      widened_room w.log2 h.log2 w.in_range.1 h.in_range.1 c.args.block.now c.requires.block_len.0 c.requires.by_index
          c.widen.new.wide
          (omega arith) c.widen.ensures,
    )

pub half_stage-requires : goal.half_stage-requires
half_stage-requires c =
    let w = c.args.width in
    let h = c.args.height in
    let lr = c.requires.block_len.0 in
    let stage = (goal.at.half_stage-requires c).After-stage in
    let t = c.if-width-height-eq10.true in (
      largest _ w.log2 h.log2 (omega arith) t,
      largest _ w.log2 h.log2 (omega arith) t,
      λ i g.
          omega (
            arith,
            first_within w.log2 h.log2 w.in_range.1 h.in_range.1 c.args.block.now lr c.requires.by_index
                c.stage.new.dst (first stage) i
                (omega (arith, largest _ w.log2 h.log2 lr t, lr)),
            pow_mono {i = w.log2} {j = 5} w.in_range.1,
          ),
    )

pub settle-requires-clause-by_index : goal.settle-requires-clause-by_index
settle-requires-clause-by_index c =
    let w = c.args.width in
    let h = c.args.height in
    let b = c.stage.new.dst in
    let t = c.if-width-height-eq10.true in
    λ i q. settle_within w.log2 h.log2 w.in_range.1 h.in_range.1 c.args.block.now c.requires.block_len.0
    c.requires.by_index b
    (first (goal.at.settle-requires-clause-by_index c).After-stage) half c.half_stage.new.dst
    (halves w.log2 h.log2 w.in_range.1 h.in_range.1 t b c.half_stage.new.dst c.half_stage.ensures) 16
    (half_same w.log2 h.log2 t)
    (half_less w.log2 h.log2 t) i (omega arith)

pub returns-then-width-height-eq10 : goal.returns-then-width-height-eq10
returns-then-width-height-eq10 c =
    let w = c.args.width in
    let h = c.args.height in
    let b = c.stage.new.dst in
    let t = c.if-width-height-eq10.true in
    settled w.log2 h.log2 w.in_range.1 h.in_range.1 c.args.block.now c.requires.block_len.0 c.requires.by_index b
    (first (goal.at.returns-then-width-height-eq10 c).After-stage) half c.half_stage.new.dst
    (halves w.log2 h.log2 w.in_range.1 h.in_range.1 t b c.half_stage.new.dst c.half_stage.ensures) 16
    (half_same w.log2 h.log2 t)
    (half_less w.log2 h.log2 t) c.settle.new.block (omega arith) (λ i q. c.settle.ensures i (omega arith))

pub stage-requires-else-width-height-eq10-clause-room : goal.stage-requires-else-width-height-eq10-clause-room
stage-requires-else-width-height-eq10-clause-room c =
    let w = c.args.width in
    let h = c.args.height in (
      c.length-else-width-height-eq10.ensures.1,
      second_room w.log2 h.log2 w.in_range.1 h.in_range.1 c.args.block.now c.requires.block_len.0 c.requires.by_index
          c.stage.new.dst
          (first (goal.at.stage-requires-else-width-height-eq10-clause-room c).After-stage) (omega arith) (omega arith),
    )

pub settle-requires-else-width-height-eq10-clause-by_index : goal.settle-requires-else-width-height-eq10-clause-by_index
settle-requires-else-width-height-eq10-clause-by_index c =
    let w = c.args.width in
    let h = c.args.height in
    let b = c.stage.new.dst in
    let sums = c.stage-else-width-height-eq10.new.dst in
    λ i q. settle_within w.log2 h.log2 w.in_range.1 h.in_range.1 c.args.block.now c.requires.block_len.0
    c.requires.by_index b
    (first (goal.at.settle-requires-else-width-height-eq10-clause-by_index c).After-stage) (λ z. z) sums
    (seconds h.log2 w.log2 c.length-else-width-height-eq10.result b sums c.length-else-width-height-eq10.ensures.0
    c.stage-else-width-height-eq10.ensures)
    (7 + w.log2 + h.log2) (λ z. refl) (λ z k. k) i (omega arith)

pub returns-else-width-height-eq10 : goal.returns-else-width-height-eq10
returns-else-width-height-eq10 c =
    let w = c.args.width in
    let h = c.args.height in
    let b = c.stage.new.dst in
    let sums = c.stage-else-width-height-eq10.new.dst in
    settled w.log2 h.log2 w.in_range.1 h.in_range.1 c.args.block.now c.requires.block_len.0 c.requires.by_index b
    (first (goal.at.returns-else-width-height-eq10 c).After-stage) (λ z. z) sums
    (seconds h.log2 w.log2 c.length-else-width-height-eq10.result b sums c.length-else-width-height-eq10.ensures.0
    c.stage-else-width-height-eq10.ensures)
    (7 + w.log2 + h.log2) (λ z. refl) (λ z k. k) c.settle-else-width-height-eq10.new.block (omega arith)
    (λ i q. c.settle-else-width-height-eq10.ensures i (omega arith))
