-- `scaling::scale::Scale::squared_below` meets its contract.
use Rattle.scaling.proofs.Squaring.{below}
use Rattle.scaling.proofs.scale.Scale.squared_below.Goals as goal

pub returns : goal.returns
returns c =
    below c.args.self c.args.l c.args.a c.requires.0 c.requires.1
