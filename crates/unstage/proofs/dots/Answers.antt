-- `unstage::dots` meets its contract: the first k products stand in their places.
use mathlib.Core.Path.{◌≡◌, sym, ◌∙◌}
use mathlib.Core.List.{List, map}
use Prim.Native.Nat.{◌-◌}
use native.Mathlib.Omega.{arith}
use borrow.Author.Rules.{rules}
use lib.ListN.{length}
use lib.IntN.{ℤ}
use Rattle.std.proofs.lemmas.List.{map-id}
use Rattle.tables.specs.Inner.OddRows.{odd_rows}
use mir.Syntax.{w32}
use mir.Val.{to_z, of_z}
use Rattle.integers.specs.Sum.{at}
use Rattle.tables.specs.Matrix.{matrix}
use Rattle.columns.proofs.Placed.{placed_more, place_below}
use Rattle.unfold.specs.Inner.Back.{odd_at}
use Rattle.unstage.proofs.Odd.{row_ends, row_small, row_gives}
use Rattle.unstage.proofs.dots.Goals as goal

-- the last table as it is lent
table : (t : List ℤ) → map (λ z. z) t ≡ odd_rows 16 → t ≡ odd_rows 16
table t e = sym (map-id t) ∙ e

pub slice_bounds-dot16-end : goal.slice_bounds-dot16-end
slice_bounds-dot16-end c =
    let t = c.args.rows.now.sixteen in
    omega (arith, row_ends t (table t c.args.rows.now.sixteens) (15 - c.loop-k.k) (omega arith))

pub dot16-requires-clause-by_index : goal.dot16-requires-clause-by_index
dot16-requires-clause-by_index c =
    let t = c.args.rows.now.sixteen in
    row_small t (table t c.args.rows.now.sixteens) (15 - c.loop-k.k) (omega arith)

pub loop-k-preserved : goal.loop-k-preserved
loop-k-preserved c =
    let a = c.args in
    let l = c.loop-k in
    let t = a.rows.now.sixteen in
    let inside = place_below a.lines a.c l.k 16 (length a.dst.now) c.requires.0 (omega arith) c.requires.2 in
    let held : to_z w32 (of_z w32 c.dot16.result) ≡ c.dot16.result = search rules in
    placed_more a.lines a.c l.k (λ k. odd_at matrix 16 (at a.o.now) (15 - k)) a.dst.now l.dst _ c.requires.0
    (omega (arith, inside))
    (held ∙ c.dot16.ensures ∙ row_gives t (table t a.rows.now.sixteens) (15 - l.k) (omega arith) a.o.now)
    l.invariant
