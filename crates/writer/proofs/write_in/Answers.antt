-- `writer::write_in` meets its contract: a turn for each place, up to the last symbol's.
use mathlib.Core.Path.{◌≡◌, sym, ap, ◌∙◌}
use mathlib.Core.List.{List}
use Prim.Native.Nat.{ℕ, ◌+◌, ◌*◌, ◌<◌}
use native.Mathlib.Omega.{arith}
use lib.Dec.{eqb}
use lib.ListN.{length-map}
use lib.IntN.{ℤ, pos}
use mir.Syntax.{w16}
use mir.Val.{SFits}
use mir.Facts.{to_z-of_z}
use Rattle.integers.specs.Sum.{at}
use Rattle.integers.proofs.Lists.{map_at}
use Rattle.scan.specs.Scan.{scan, scan_at}
use Rattle.scan.specs.Order.{in_order}
use Rattle.runs.specs.Packing.{run_bits, packed}
use Rattle.runs.specs.Runs.{is_zero, symbol_of}
use Rattle.scan.specs.Scanned.{Scanned}
use Rattle.writer.specs.Inner.Lists.{written_over}
use Rattle.writer.proofs.Counted.{is_0, is_not_0}
use Rattle.writer.proofs.Writing.{Writing, writing_as, writing_none, place_left, writing_zero, writing_symbol}
use Rattle.writer.proofs.Writing.{writing_all}
use Rattle.writer.proofs.write_in.Goals as goal
use Rattle.writer.proofs.write_in.Goals.{then-level-eq0, else-level-eq0}

module _ (w h : ℕ) (held : List ℕ) (block : List ℤ) (s : Scanned w h held) where
  -- there is a place left in the block
  inside : (bits : ℕ) (before list : List ℕ) (count run p k : ℕ) → Writing bits (in_order w h block) before count list run p k
      → k < count → p < w * h
  inside bits before list count run p k v lt =
      omega (
        arith,
        place_left bits (in_order w h block) before count list run p k v lt,
        length-map (scan w h) (λ q. at block q),
        s.full,
      )

  -- the level that a turn looks at is that of its place in scan order
  level_is : (p q : ℕ) → p < w * h → q ≡ scan_at w h p → at (in_order w h block) p ≡ at block q
  unfolding scan_at
  level_is p q lt e = map_at 0 (pos 0) (λ k. at block k) (scan w h) p (omega (arith, s.full)) ∙ ap (at block) (sym e)

pub loop-k-init : goal.loop-k-init
loop-k-init c = writing_none _ _ _ _ c.requires.count_value.0

pub scan_place-requires : goal.scan_place-requires
scan_place-requires c =
    let s = c.args.scan.scanned in
    omega (arith, inside _ _ _ _ s _ _ _ _ _ _ _ c.loop-k.invariant c.loop-k-test.true, s.few)

pub block_place-requires : goal.block_place-requires
block_place-requires c =
    omega (
      arith,
      c.scan_place.ensures.0,
      inside _ _ _ _ c.args.scan.scanned _ _ _ _ _ _ _ c.loop-k.invariant c.loop-k-test.true,
    )

pub loop-k-smaller : goal.loop-k-smaller
loop-k-smaller c = omega (arith, inside _ _ _ _ c.args.scan.scanned _ _ _ _ _ _ _ c.loop-k.invariant c.loop-k-test.true)

pub loop-k-preserved : goal.loop-k-preserved
loop-k-preserved c =
    let s = c.args.scan.scanned in
    let v = c.loop-k.invariant in
    let z = c.value_at-level.result in
    let held : SFits w16 z = record { sfits = c.value_at-level.type_inv } in
    let is = level_is _ _ _ _ s c.loop-k.p c.block_place.result.0 (inside _ _ _ _ s _ _ _ _ _ _ _ v c.loop-k-test.true)
    (c.block_place.ensures.0 ∙ ap (scan_at c.args.scan.w c.args.scan.h) c.scan_place.ensures.0)
    ∙ sym (c.value_at-level.ensures (pos 0)) in
    let enough = c.requires.count_value.1 in
    let stored = c.pack.ensures ∙ ap (packed run_bits) c.symbol_of.ensures
    ∙ ap (λ (y : ℤ). packed run_bits (symbol_of c.loop-k.run y (eqb (c.loop-k.k + 1) c.args.count)))
    (to_z-of_z {w = w16} held ∙ sym is) in
    elim c.if-level-eq0.branch [
      | then-level-eq0 w ↦
          writing_as _ _ _ _ w.run-is w.k-is
          (writing_zero _ _ _ _ _ _ _ _ v c.loop-k-test.true enough c.pack.result
          (ap is_zero is ∙ is_0 z held w.if-level-eq0.true))
      | else-level-eq0 w ↦
          writing_as _ _ _ _ w.run-is w.k-is
          (writing_symbol _ _ _ _ _ _ _ _ v c.loop-k-test.true enough c.pack.result
          (ap is_zero is ∙ is_not_0 z w.if-level-eq0.false) stored)
    ]

pub returns : goal.returns
unfolding written_over
returns c = writing_all _ _ _ _ _ _ _ _ c.loop-k.invariant c.loop-k-test.false
