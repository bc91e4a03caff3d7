-- `unfold::back2` meets its contract: 64·(p + q) and 64·(p - q).
use Rattle.std.proofs.Common.{arith, rules}
use Rattle.std.proofs.lemmas.Int.{to_z-of_z}
use lib.IntN.{◌+ℤ◌, ◌-ℤ◌}
use mir.Syntax.{w16}
use mir.Val.{SFits}
use Rattle.integers.specs.Sum.{at}
use Rattle.integers.proofs.Magnitude.{magnitude-+, magnitude--}
use Rattle.unfold.proofs.Pair.{pair_fits, sixty_four_fits, pair_back}
use Rattle.unfold.proofs.back2.Goals as goal

pub returns : goal.returns
returns c =
    let x = c.args.x.now in
    let p : SFits w16 (at x 0) = search rules in
    let q : SFits w16 (at x 1) = search rules in
    let sum = pair_fits ◌+ℤ◌ (at x 0) (at x 1) p q (magnitude-+ (at x 0) (at x 1)) in
    let sum_64 = sixty_four_fits ◌+ℤ◌ (at x 0) (at x 1) p q (magnitude-+ (at x 0) (at x 1)) in
    let difference = pair_fits ◌-ℤ◌ (at x 0) (at x 1) p q (magnitude-- (at x 0) (at x 1)) in
    let difference_64 = sixty_four_fits ◌-ℤ◌ (at x 0) (at x 1) p q (magnitude-- (at x 0) (at x 1)) in
    pair_back x c.args.row.now _ _ (omega arith) p q (grind (arith, to_z-of_z)) (grind (arith, to_z-of_z))
