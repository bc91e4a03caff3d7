-- `order::magnitudes` meets its contract: the list is filled from the front.
use mathlib.Core.Path.{sym, subst}
use mathlib.Core.List.{map}
use mathlib.Core.Logic.{⊎_elim}
use Prim.Native.Nat.{◌≤◌, ◌<◌}
use native.Mathlib.Omega.{arith}
use lib.ListN.{length, length-map, get_or-eq_default}
use lib.IntN.{ℤ, pos, nat_abs}
use Rattle.integers.proofs.Fill.{filled_all}
use Rattle.integers.proofs.Order.{below_or_not}
use Rattle.order.proofs.magnitudes.Goals as goal

pub returns : goal.returns
returns c =
    let l = c.loop-i in
    let block = c.args.block.now in (
      filled_all 0 l.out (map nat_abs block) l.i (omega (arith, length-map block nat_abs)) (omega arith)
          l.invariant.0,
      λ k.
          ⊎_elim (λ (h : k < length block). l.invariant.1 k (omega arith))
          (λ (h : length block ≤ k).
          subst (λ (z : ℤ). nat_abs z ≤ 32768) (sym (get_or-eq_default block (pos 0) h)) (omega arith))
          (below_or_not k (length block)),
    )
