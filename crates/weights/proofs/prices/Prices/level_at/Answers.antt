-- `weights::prices::Prices::level_at` meets its contract.
use Rattle.weights.proofs.Levels.{price_one, price_more}
use Rattle.weights.proofs.prices.Prices.level_at.Goals as goal

pub returns-then-a-eq1 : goal.returns-then-a-eq1
returns-then-a-eq1 c = price_one c.args.self c.args.a c.if-a-eq1.true

pub returns-else-a-eq1 : goal.returns-else-a-eq1
returns-else-a-eq1 c =
    price_more c.args.self c.args.a c.requires.0 c.if-a-eq1.false c.requires.1
