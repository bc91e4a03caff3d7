-- `price::costs_of` meets its contract: the four tables are stretches of the 28 numbers.
use Rattle.std.proofs.Common.{◌≡◌, length, ◌∙◌, arith, rules}
use Rattle.integers.specs.Tests.{listed}
use Rattle.price.specs.Costs.{costs_of}
use Rattle.price.proofs.Rates.{part_listed}
use Rattle.price.proofs.costs_of.Goals as goal

pub returns : goal.returns
unfolding costs_of listed
returns c =
    let l = c.args.numbers.now in
    let long : length l ≡ 28 = search rules in
    rw (
      c.stretch.ensures ∙ part_listed 8 0 l (omega arith),
      c.stretch-2.ensures ∙ part_listed 8 8 l (omega arith),
      c.stretch-3.ensures ∙ part_listed 4 16 l (omega arith),
      c.stretch-4.ensures ∙ part_listed 8 20 l (omega arith),
    )
