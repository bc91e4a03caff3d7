-- `candidates::terms_of` meets its contract: lambda, the component's rows and the tables make the prices.
use Rattle.std.proofs.Common.{sym, subst}
use Rattle.price.specs.Costs.{InRange}
use Rattle.price.proofs.Rates.{costs_in_range}
use Rattle.candidates.proofs.terms_of.Goals as goal

pub prices-requires : goal.prices-requires
prices-requires c = subst InRange (sym c.costs_of.ensures) (costs_in_range c.requires.4)
