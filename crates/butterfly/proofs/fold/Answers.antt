-- `butterfly::fold` meets its contract: the first k sums and differences are stored.
use mathlib.Core.List.{List}
use Prim.Native.Nat.{ℕ, ◌-◌, ◌^◌, ◌<◌, ◌≤◌}
use native.Mathlib.Omega.{arith}
use lib.Dec.{lit<}
use lib.ListN.{length}
use lib.IntN.{ℤ, pos, nat_abs, ◌+ℤ◌, ◌-ℤ◌}
use mir.Syntax.{w32}
use mir.Val.{SFits}
use Rattle.integers.specs.Sum.{at}
use Rattle.integers.proofs.Magnitude.{magnitude-+, magnitude--}
use Rattle.integers.proofs.Fit.{fits_within, operation_is}
use Rattle.integers.proofs.Fill.{filled_more}
use Rattle.butterfly.specs.Inner.Lines.{sum_of, difference_of}
use Rattle.butterfly.proofs.fold.Goals as goal

-- values of which none is larger than 2^29, and what two of them come to
module _ (x : List ℤ) (small : (i : ℕ) → i < length x → nat_abs (at x i) ≤ 2 ^ 29) where
  value : (i : ℕ) → i < length x → SFits w32 (at x i)
  value i h = fits_within (at x i) (2 ^ 29) (small i h) (lit< tt)

  total : (i j : ℕ) → i < length x → j < length x → SFits w32 (at x i +ℤ at x j)
  total i j h g =
      fits_within (at x i +ℤ at x j) (2 ^ 30) (omega (arith, magnitude-+ (at x i) (at x j), small i h, small j g))
      (lit< tt)

  gap : (i j : ℕ) → i < length x → j < length x → SFits w32 (at x i -ℤ at x j)
  gap i j h g =
      fits_within (at x i -ℤ at x j) (2 ^ 30) (omega (arith, magnitude-- (at x i) (at x j), small i h, small j g))
      (lit< tt)

pub loop-k-preserved : goal.loop-k-preserved
loop-k-preserved c =
    let x = c.args.x.now in
    let small = c.requires.by_index in
    let l = c.loop-k in
    let k = l.k in
    let j = length x - 1 - k in
    let p = value x small k (omega arith) in
    let q = value x small j (omega arith) in (
      filled_more (pos 0) l.e (sum_of x) k _ (omega arith)
          (operation_is w32 ◌+ℤ◌ (at x k) (at x j) p q (total x small k j (omega arith) (omega arith)))
          l.invariant.0,
      filled_more (pos 0) l.o (difference_of x) k _ (omega arith)
          (operation_is w32 ◌-ℤ◌ (at x k) (at x j) p q (gap x small k j (omega arith) (omega arith)))
          l.invariant.1,
    )
