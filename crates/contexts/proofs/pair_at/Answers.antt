-- `contexts::pair_at` meets its contract.
use mathlib.Core.Path.{refl}
use Rattle.contexts.proofs.Pricing.{pair_of}
use Rattle.contexts.proofs.pair_at.Goals as goal

pub returns : goal.returns
returns c = pair_of c.args.lambda.number c.args.table.now c.args.row _ c.args.lambda.within c.requires.1 refl refl
