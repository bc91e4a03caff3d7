-- `scaling::scale::Scale::rounded` meets its contract.
use Rattle.price.specs.Level.{nearest}
use Rattle.scaling.proofs.Scaling.{rounded_range}
use Rattle.scaling.proofs.scale.Scale.rounded.Goals as goal

pub returns : goal.returns
unfolding nearest
returns c = rounded_range c.args.self c.args.c c.requires
