-- `butterfly::line2` meets its contract.
use native.Mathlib.Omega.{arith}
use lib.IntN.{◌+ℤ◌, ◌-ℤ◌}
use Rattle.integers.specs.Sum.{at}
use Rattle.integers.proofs.Magnitude.{magnitude-+, magnitude--}
use Rattle.butterfly.proofs.Pair.{sixty_four_is, first, pair_row}
use Rattle.butterfly.proofs.line2.Goals as goal

pub returns : goal.returns
returns c =
    let x = c.args.x.now in
    let p = first x c.requires.0 c.requires.2 0 (omega arith) in
    let q = first x c.requires.0 c.requires.2 1 (omega arith) in
    pair_row x c.args.row.now _ _ c.requires.1
    (sixty_four_is ◌+ℤ◌ (at x 0) (at x 1) p q (magnitude-+ (at x 0) (at x 1)))
    (sixty_four_is ◌-ℤ◌ (at x 0) (at x 1) p q (magnitude-- (at x 0) (at x 1)))
