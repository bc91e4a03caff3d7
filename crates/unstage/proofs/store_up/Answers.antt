-- `unstage::store_up` meets its contract: the first k numbers from the end stand in their places.
use Prim.Native.Nat.{◌-◌}
use native.Mathlib.Omega.{arith}
use borrow.Author.Rules.{rules}
use lib.ListN.{length}
use Rattle.integers.specs.Sum.{at}
use Rattle.columns.proofs.Placed.{placed_more, place_below}
use Rattle.unstage.proofs.store_up.Goals as goal

pub loop-k-preserved : goal.loop-k-preserved
loop-k-preserved c =
    let l = c.loop-k in
    let a = c.args in
    let inside =
    place_below a.width a.c l.k (length a.b.now) (length a.dst.now) c.requires.0 (omega arith) c.requires.1 in
    placed_more a.width a.c l.k (λ k. at a.b.now (length a.b.now - 1 - k)) a.dst.now l.dst _ c.requires.0
    (omega (arith, inside)) (search rules) l.invariant
